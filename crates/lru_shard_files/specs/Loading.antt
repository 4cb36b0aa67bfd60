-- What a load does, shard by shard.
use Rattle.std.specs.Prelude.{◌≡◌, ◌≢◌, ◌⊎◌, ◌↔◌, ◌+◌, ◌<◌, ◌≤◌, ℕ, suc, Bool, true, false, List, [], ◌∷◌, ◌++◌, length, count_by, map, Some, None, Result, Ok, Err, IfOk, OnErr, MatchResult}
use Rattle.std.specs.List.Sorted.{IsStrictlyIncreasing}
use Rattle.std.specs.declared.alloc.AllocError.{AllocError}
use Rattle.std.specs.Borrow.{Bor}
use Rattle.std.specs.FinMap.{get}
use Rattle.lru_folder.specs.declared.fault.FolderFault.TheVariants.{NotFound, Io}
use Rattle.lru_folder.specs.declared.errors.ShardFileError.{ShardFileError}
use Rattle.lru_folder.specs.declared.errors.ShardLoadFailure.{ShardLoadFailure}
use Rattle.lru_folder.specs.declared.errors.ShardLoadFailure.TheVariants as failure
use Rattle.lru_folder.specs.Names.{shard_path}
use Rattle.lru_folder.specs.declared.reports.ShardLoadReport.{ShardLoadReport}
use Rattle.lru_folder.specs.Files.{Files}
use Rattle.lru_folder.specs.Folder.{InOrder}
use Rattle.lru_folder.specs.Meaning.{Meaning}
use Rattle.lru_folder.specs.Sparing.{SparesAllBut}
use Rattle.lru_shard_files.specs.Cleanup.{IsCleanup, temp_paths}
use Rattle.lru_folder.specs.Blames.{Blame, blame_of, failed_call, Open, Read}

-- A shard's turn: its file is not there, or was not read, or its bytes were given to the closure, which answered.
pub data LoadTurn (E : Type 0) : Type 0 where
  Missing : LoadTurn E
  Unread : (failure : ShardLoadFailure E) → LoadTurn E
  Given : (bytes : List ℕ) → (answer : Result (Unit {0}) E) → LoadTurn E

abbrev pub is_loaded : {E : Type 0} → LoadTurn E → Bool
is_loaded Missing = false
is_loaded (Unread failure) = false
is_loaded (Given bytes (Ok done)) = true
is_loaded (Given bytes (Err error)) = false

abbrev pub is_missing : {E : Type 0} → LoadTurn E → Bool
is_missing Missing = true
is_missing (Unread failure) = false
is_missing (Given bytes answer) = false

-- the failure that a turn adds to the report, if it does
abbrev pub failure_of : {E : Type 0} → ℕ → LoadTurn E → List (ShardLoadFailure E)
failure_of shard Missing = []
failure_of shard (Unread failure) = failure ∷ []
failure_of shard (Given bytes (Ok done)) = []
failure_of shard (Given bytes (Err error)) = failure.Deserialize shard error ∷ []

abbrev pub failures_from : {E : Type 0} → ℕ → List (LoadTurn E) → List (ShardLoadFailure E)
failures_from shard [] = []
failures_from shard (turn ∷ turns) = failure_of shard turn ++ failures_from (suc shard) turns

-- what a turn makes of the closure
abbrev pub TurnCalls : {C E : Type 0} → (C → ℕ → Bor (List ℕ) → Result (Unit {0}) E → C → Type 0) → ℕ → C → LoadTurn E → C → Type 0
TurnCalls step shard before Missing after = after ≡ before
TurnCalls step shard before (Unread failure) after = after ≡ before
TurnCalls step shard before (Given bytes answer) after = (shown : Bor (List ℕ)) × (shown.now ≡ bytes) × step before shard shown answer after

-- the turns in order, each from where the one before it left the closure
abbrev pub CallsFrom : {C E : Type 0} → (C → ℕ → Bor (List ℕ) → Result (Unit {0}) E → C → Type 0) → ℕ → C → List (LoadTurn E) → C → Type 0
CallsFrom step shard before [] after = after ≡ before
CallsFrom {C} step shard before (turn ∷ turns) after = (between : C) × TurnCalls step shard before turn between × CallsFrom step (suc shard) between turns after

-- Only the device or memory keeps a shard's file from being opened or read. `kept`: the folder keeps its meaning,
-- `rose`: it has failed more often than before.
pub record IsKeptBack (kept rose : Type 0) (path : List ℕ) (blame : Blame) : Type 0 where
  pub called : (blame.call ≡ Open) ⊎ (blame.call ≡ Read)
  pub on : blame.path ≡ path
  pub cause : kept → (blame.cause ≢ NotFound) × (blame.cause ≡ Io → rose)

abbrev pub IsUnread : {E : Type 0} → Type 0 → Type 0 → List ℕ → ℕ → ShardLoadFailure E → Type 0
IsUnread kept rose path shard (failure.Io number source) = (number ≡ shard) × IsKeptBack kept rose path (blame_of source)
IsUnread kept rose path shard (failure.Memory number) = number ≡ shard
IsUnread kept rose path shard (failure.Deserialize number source) = ⊥

-- a turn tells what stood in the folder
abbrev pub IsTrueTurn : {E : Type 0} → Type 0 → Type 0 → Files → List ℕ → ℕ → LoadTurn E → Type 0
IsTrueTurn kept rose files path shard Missing = kept → get files path ≡ None
IsTrueTurn kept rose files path shard (Unread failure) = IsUnread kept rose path shard failure
IsTrueTurn kept rose files path shard (Given bytes answer) = kept → get files path ≡ Some bytes

abbrev pub AreTrueFrom : {E : Type 0} → Type 0 → Type 0 → Files → List ℕ → List ℕ → ℕ → List (LoadTurn E) → Type 0
AreTrueFrom kept rose files dir file_name shard [] = Unit {0}
AreTrueFrom kept rose files dir file_name shard (turn ∷ turns) =
    IsTrueTurn kept rose files (shard_path dir file_name shard) shard turn × AreTrueFrom kept rose files dir file_name (suc shard) turns

-- the shard that a failure names
abbrev pub failed_shard : {E : Type 0} → ShardLoadFailure E → ℕ
failed_shard (failure.Io shard source) = shard
failed_shard (failure.Memory shard) = shard
failed_shard (failure.Deserialize shard source) = shard

-- of a failure of the folder, its error
abbrev pub IfIo : {E : Type 0} → ShardLoadFailure E → (ShardFileError → Type 0) → Type 0
IfIo (failure.Io shard source) P = P source
IfIo (failure.Memory shard) P = Unit {0}
IfIo (failure.Deserialize shard source) P = Unit {0}

-- the device failed
abbrev pub IsDeviceFault : {E : Type 0} → ShardLoadFailure E → Type 0
IsDeviceFault (failure.Io shard source) = (blame_of source).cause ≡ Io
IsDeviceFault (failure.Memory shard) = ⊥
IsDeviceFault (failure.Deserialize shard source) = ⊥

-- of a turn whose file was not read, the failure
abbrev pub IfUnread : {E : Type 0} → LoadTurn E → (ShardLoadFailure E → Type 0) → Type 0
IfUnread Missing P = Unit {0}
IfUnread (Unread failure) P = P failure
IfUnread (Given bytes answer) P = Unit {0}

abbrev pub IsUnreadAnd : {E : Type 0} → LoadTurn E → (ShardLoadFailure E → Type 0) → Type 0
IsUnreadAnd Missing P = ⊥
IsUnreadAnd (Unread failure) P = P failure
IsUnreadAnd (Given bytes answer) P = ⊥

-- What one turn does to the folder, and finds there.
pub record LoadsOne {F E : Type 0} (m : Meaning F) (dir file_name : List ℕ) (shard : ℕ) (turn : LoadTurn E) (old new : F) : Type 0 where
  pub so : IsTrueTurn (m.keeps old) (m.faults old < m.faults new) (m.files old) (shard_path dir file_name shard) shard turn
  -- an error names the call that failed, and where the device failed, that is told
  pub named : IfUnread turn (λ f. IfIo f (λ e. m.last_call new ≡ failed_call e))
  pub told : m.faults old < m.faults new → IsUnreadAnd turn IsDeviceFault
  pub later : m.faults old ≤ m.faults new
  pub files : m.files new ≡ m.files old
  pub places : m.folders new ≡ m.folders old
  -- no path changes at any moment
  pub spares : SparesAllBut m [] old new
  pub kept : m.keeps new

-- A load of some shards: each had its turn, from shard 0 up, and the report counts the turns and has the failures in their order.
pub record IsLoad {C E : Type 0} (step : C → ℕ → Bor (List ℕ) → Result (Unit {0}) E → C → Type 0) (kept rose : Type 0) (files : Files) (dir file_name : List ℕ)
    (before after : C) (shards loaded missing : ℕ) (failures : List (ShardLoadFailure E)) : Type 0 where
  pub turns : List (LoadTurn E)
  pub each : length turns ≡ shards
  pub calls : CallsFrom step 0 before turns after
  pub so : AreTrueFrom kept rose files dir file_name 0 turns
  pub loaded_shards : loaded ≡ count_by is_loaded turns
  pub missing_shards : missing ≡ count_by is_missing turns
  pub failed_shards : failures ≡ failures_from 0 turns

-- what a load answers
abbrev pub LoadResultOf : Type 0 → Type 0
LoadResultOf E = Result (ShardLoadReport E) AllocError

-- A load that had room for its report. `step`: what a call of the closure does.
pub record LoadsAll {F C E : Type 0} (m : Meaning F) (step : C → ℕ → Bor (List ℕ) → Result (Unit {0}) E → C → Type 0) (dir file_name : List ℕ) (shards : ℕ)
    (before : C) (old : F) (report : ShardLoadReport E) (after : C) (new : F) : Type 0 where
  -- each shard has its turn, and the report tells how the turns ended
  pub load : IsLoad step (m.keeps old) (m.faults old < m.faults new) (m.files old) dir file_name before after shards
      report.loaded_shards report.missing_shards report.failures.items
  pub errors : report.error_shards ≡ length report.failures.items
  pub sum : report.loaded_shards + report.missing_shards + report.error_shards ≡ shards
  -- the failures name their shards, each once, from shard 0 up
  pub named : IsStrictlyIncreasing (map failed_shard report.failures.items)
  -- the turns come first, and then the temp files are removed, or memory keeps them all
  pub loaded : F
  pub in_order : m.keeps old → InOrder (LoadsOne m dir file_name) 0 load.turns old loaded
  pub cleaned : m.keeps old → MatchResult report.temp_cleanup (IsCleanup m dir file_name loaded new) (λ _. m.files new ≡ m.files loaded)
  -- so at every moment all is as it was, but for temp files that are gone
  pub spares : m.keeps old → SparesAllBut m (temp_paths dir file_name (m.files old)) old new

-- A load of so many shards.
pub record LoadsShards {F C E : Type 0} (m : Meaning F) (step : C → ℕ → Bor (List ℕ) → Result (Unit {0}) E → C → Type 0) (dir file_name : List ℕ) (shards : ℕ)
    (before : C) (old : F) (result : LoadResultOf E) (after : C) (new : F) : Type 0 where
  pub loads : IfOk result (λ report. LoadsAll m step dir file_name shards before old report after new)
  -- or there was no room for the report
  pub unmoved : OnErr result ((new ≡ old) × (after ≡ before))
  pub later : m.keeps old → m.faults old ≤ m.faults new
  pub places : m.keeps old → m.folders new ≡ m.folders old
  pub kept : m.keeps old ↔ m.keeps new
