-- How far a save has come, and what it tells.
use Rattle.std.specs.Prelude.{◌≡◌, ◌≢◌, ◌+◌, ℕ, suc, List, [], ◌∷◌, ◌++◌, length, Option, Some, None, Result, Ok, Err, nat_lt, if◌then◌else◌, string_bytes}
use Rattle.lru_folder.specs.declared.fault.FolderFault.{FolderFault}
use Rattle.lru_folder.specs.declared.errors.ShardSaveFailure.{ShardSaveFailure}
use Rattle.lru_folder.specs.declared.errors.ShardSaveError.{ShardSaveError}
use Rattle.lru_folder.specs.declared.errors.ShardSaveError.TheVariants.{Setup, AllShardsFailed}
use Rattle.lru_folder.specs.declared.errors.ShardSaveSetupError.TheVariants.{CreateDir, Memory}
use Rattle.lru_folder.specs.declared.reports.ShardSaveReport.{ShardSaveReport}
use Rattle.lru_shard_files.specs.Turns.{SaveTurn, EachTurn, Ends, failures_of}

-- where and what is saved, the shard whose turn is next, and the failures so far
pub record Progress (E : Type 0) : Type 0 where
  pub dir : List ℕ
  pub file_name : List ℕ
  pub shards : ℕ
  pub next : ℕ
  pub failures : List (ShardSaveFailure E)

-- the shard whose turn is next, if one is left
abbrev pub next_of : {E : Type 0} → Progress E → Option ℕ
next_of p = if nat_lt p.next p.shards then Some p.next else None

-- A turn was taken.
pub record TakesTurn {E : Type 0} (old new : Progress E) (turn : SaveTurn E) : Type 0 where
  pub ends : Ends old.dir old.file_name old.next turn
  pub new_is : new ≡ record { dir = old.dir; file_name = old.file_name; shards = old.shards; next = suc old.next; failures = old.failures ++ failures_of (turn ∷ []) }

-- The report of a save with these failures: an error where every shard failed.
abbrev pub Tells : {E : Type 0} → ℕ → List (ShardSaveFailure E) → Result (ShardSaveReport E) (ShardSaveError E) → Type 0
Tells shards failures (Ok report) =
    (report.saved_shards + report.failed_shards ≡ shards) × (report.failed_shards ≡ length failures) × (report.failures.items ≡ failures) × (length failures ≢ shards)
Tells shards failures (Err (AllShardsFailed count all)) = (count ≡ shards) × (all.items ≡ failures) × (length failures ≡ shards)
Tells shards failures (Err (Setup error)) = ⊥

-- before the first turn
abbrev pub at_start : {E : Type 0} → List ℕ → List ℕ → ℕ → Progress E
at_start dir file_name shards = record { dir = dir; file_name = file_name; shards = shards; next = 0; failures = [] }

-- an error that tells that the save of this folder did not begin
abbrev pub IsSetupOf : {E : Type 0} → List ℕ → ShardSaveError E → Type 0
IsSetupOf dir (Setup (CreateDir path source)) = string_bytes path ≡ dir
IsSetupOf dir (Setup Memory) = Unit {0}
IsSetupOf dir (AllShardsFailed count all) = ⊥

-- the folder that was not made, where that is the error
abbrev pub NamesFolder : {E : Type 0} → List ℕ → ShardSaveError E → Type 0
NamesFolder dir (Setup (CreateDir path source)) = string_bytes path ≡ dir
NamesFolder dir (Setup Memory) = Unit {0}
NamesFolder dir (AllShardsFailed count all) = Unit {0}

-- of a save that did not begin
abbrev pub IfSetup : {E : Type 0} → ShardSaveError E → Type 0 → Type 0
IfSetup (Setup error) P = P
IfSetup (AllShardsFailed count all) P = Unit {0}

-- whether the shards had their turns
abbrev pub IsBegun : {E : Type 0} → Result (ShardSaveReport E) (ShardSaveError E) → Type 0
IsBegun (Ok report) = Unit {0}
IsBegun (Err (AllShardsFailed count all)) = Unit {0}
IsBegun (Err (Setup error)) = ⊥

-- The turns of a whole save: one for each shard, and the result tells of them.
pub record IsSaveOf {E : Type 0} (dir file_name : List ℕ) (shards : ℕ) (turns : List (SaveTurn E)) (result : Result (ShardSaveReport E) (ShardSaveError E)) : Type 0 where
  pub all : length turns ≡ shards
  pub ends : EachTurn (Ends dir file_name) turns
  pub told : Tells shards (failures_of turns) result

-- of a folder that was not made, the cause
abbrev pub IfCreateDir : {E : Type 0} → ShardSaveError E → (FolderFault → Type 0) → Type 0
IfCreateDir (Setup (CreateDir path source)) P = P source
IfCreateDir (Setup Memory) P = Unit {0}
IfCreateDir (AllShardsFailed count all) P = Unit {0}
