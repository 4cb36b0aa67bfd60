-- The turns of a save: what each shard was given, and how it ended.
use Rattle.std.specs.Prelude.{◌≡◌, ◌≢◌, ◌⊎◌, ◌≤◌, ◌<◌, ℕ, suc, take, IsOk, IsOkAnd, IfOk, IfSome, IsSomeAnd, IfNone, MatchOption, List, [], ◌∷◌, slice_get, Option, Some, None, Result, Ok, Err, Vec}
use Rattle.std.specs.declared.alloc.Global.{Global}
use Rattle.std.specs.FinMap.{get}
use Rattle.std.specs.List.{filter_map}
use Rattle.rand_core.specs.Stream.{Stream, next_u32}
use Rattle.lru_folder.specs.declared.fault.FolderFault.TheVariants as fault
use Rattle.lru_folder.specs.declared.errors.ShardFileError.{ShardFileError}
use Rattle.lru_folder.specs.declared.errors.ShardSaveFailure.{ShardSaveFailure}
use Rattle.lru_folder.specs.declared.errors.ShardSaveFailure.TheVariants as failure
use Rattle.lru_folder.specs.Files.{Files}
use Rattle.lru_folder.specs.Blames.{failed_call, blame_of}
use Rattle.lru_folder.specs.Folder.{LeavesOnly}
use Rattle.lru_folder.specs.Losses.{LosesOnly, loosened}
use Rattle.lru_folder.specs.Meaning.{Meaning}
pub use Rattle.lru_folder.specs.Names.{shard_path, temp_path}
use Rattle.lru_folder.specs.Places.{folder_of, is_there}
use Rattle.lru_shard_files.specs.Saving.{IsStepOf, HasReason}

-- the bytes of a shard, or the error that was given in their place
abbrev pub Given : Type 0 → Type 0
Given E = Result (Vec ℕ Global) E

-- One shard's turn: the random word for its temp file, what was given for it, and why it failed, if it did.
pub record SaveTurn (E : Type 0) : Type 0 where
  pub word : ℕ
  pub given : Given E
  pub failed : Option (ShardSaveFailure E)

-- the turn that ended so
abbrev pub turn_of : {E : Type 0} → ℕ → Given E → Result (Unit {0}) (ShardSaveFailure E) → SaveTurn E
turn_of word given (Ok done) = record { word = word; given = given; failed = None }
turn_of word given (Err failure) = record { word = word; given = given; failed = Some failure }

-- a fact of each turn, with the number of its shard
abbrev pub EachTurn : {E : Type 0} → (ℕ → SaveTurn E → Type 0) → List (SaveTurn E) → Type 0
EachTurn {E} P turns = (shard : ℕ) (turn : SaveTurn E) → slice_get turns shard ≡ Some turn → P shard turn

-- the failures, from shard 0 up
abbrev pub failures_of : {E : Type 0} → List (SaveTurn E) → List (ShardSaveFailure E)
failures_of turns = filter_map (λ turn. turn.failed) turns

-- a failure that names this shard, and has its cause
abbrev pub IsFailureOf : {E : Type 0} → List ℕ → List ℕ → ℕ → SaveTurn E → ShardSaveFailure E → Type 0
IsFailureOf dir file_name shard turn (failure.Serialize at source) = (at ≡ shard) × (turn.given ≡ Err source)
IsFailureOf dir file_name shard turn (failure.Io at source) =
    (at ≡ shard) × IsOk turn.given × IsStepOf (temp_path dir file_name shard turn.word) (shard_path dir file_name shard) source
IsFailureOf dir file_name shard turn (failure.Memory at) = at ≡ shard

-- a shard is saved only where its bytes were given, and else it fails
abbrev pub Ends : {E : Type 0} → List ℕ → List ℕ → ℕ → SaveTurn E → Type 0
Ends dir file_name shard turn = MatchOption turn.failed (IsOk turn.given) (IsFailureOf dir file_name shard turn)

-- where the shard was saved, its file holds the bytes given
abbrev pub IsKept : {E : Type 0} → List ℕ → List ℕ → Files → ℕ → SaveTurn E → Type 0
IsKept dir file_name files shard turn =
    IfNone turn.failed (IfOk turn.given (λ bytes. get files (shard_path dir file_name shard) ≡ Some bytes.items))

-- and no loss of power changes them
abbrev pub IsFirm : {E : Type 0} → List ℕ → List ℕ → (List ℕ → Type 0) → ℕ → SaveTurn E → Type 0
IsFirm dir file_name loose shard turn = IfNone turn.failed (¬ loose (shard_path dir file_name shard))

-- of a failure of the folder, its error
abbrev pub IfIo : {E : Type 0} → ShardSaveFailure E → (ShardFileError → Type 0) → Type 0
IfIo (failure.Serialize at source) P = Unit {0}
IfIo (failure.Io at source) P = P source
IfIo (failure.Memory at) P = Unit {0}

-- the device failed
abbrev pub IsDeviceFault : {E : Type 0} → ShardSaveFailure E → Type 0
IsDeviceFault (failure.Serialize at source) = ⊥
IsDeviceFault (failure.Io at source) = (blame_of source).cause ≡ fault.Io
IsDeviceFault (failure.Memory at) = ⊥

-- whether memory was refused to a shard, or its bytes were
abbrev pub IsRefused : {E : Type 0} → ShardSaveFailure E → Type 0
IsRefused (failure.Serialize at source) = Unit {0}
IsRefused (failure.Io at source) = (blame_of source).cause ≡ fault.Memory
IsRefused (failure.Memory at) = Unit {0}

-- the file is as it was, or has the bytes given
abbrev pub OldOrGiven : {E : Type 0} → List ℕ → Given E → Files → Files → Type 0
OldOrGiven path given old m = (get m path ≡ get old path) ⊎ IsOkAnd given (λ bytes. get m path ≡ Some bytes.items)

-- a temp file is as it was, or is gone, or has a front of the bytes given
abbrev pub IsRemnantOf : {E : Type 0} → List ℕ → Given E → Files → Files → Type 0
IsRemnantOf temp given old m =
    (get m temp ≡ get old temp) ⊎ ((get m temp ≡ None) ⊎ IsOkAnd given (λ bytes. (n : ℕ) × (get m temp ≡ Some (take n bytes.items))))

-- One shard's file is as it was or has the bytes given, its temp file has none but a front of them, and no other path has changed.
pub record IsOldOrGiven {E : Type 0} (dir file_name : List ℕ) (shard : ℕ) (turn : SaveTurn E) (old m : Files) : Type 0 where
  pub file : OldOrGiven (shard_path dir file_name shard) turn.given old m
  pub remnant : IsRemnantOf (temp_path dir file_name shard turn.word) turn.given old m
  pub others : (q : List ℕ) → q ≢ shard_path dir file_name shard → q ≢ temp_path dir file_name shard turn.word → get m q ≡ get old q

-- One shard's file is as it was or has the bytes given, and no other path has changed but its temp file, which may hold anything.
pub record IsOldOrGivenWhole {E : Type 0} (dir file_name : List ℕ) (shard : ℕ) (turn : SaveTurn E) (old m : Files) : Type 0 where
  pub file : OldOrGiven (shard_path dir file_name shard) turn.given old m
  pub others : (q : List ℕ) → q ≢ shard_path dir file_name shard → q ≢ temp_path dir file_name shard turn.word → get m q ≡ get old q

-- Each shard's file is as it was or has the bytes given, and no other path has changed but the temp files of these turns.
pub record EachOldOrGiven {E : Type 0} (dir file_name : List ℕ) (turns : List (SaveTurn E)) (old m : Files) : Type 0 where
  pub each : EachTurn (λ shard turn. OldOrGiven (shard_path dir file_name shard) turn.given old m) turns
  pub others : (q : List ℕ) → EachTurn (λ shard turn. (q ≢ shard_path dir file_name shard) × (q ≢ temp_path dir file_name shard turn.word)) turns
      → get m q ≡ get old q

-- What one turn does to the folder.
pub record SavesOne {F E : Type 0} (m : Meaning F) (dir file_name : List ℕ) (shard : ℕ) (turn : SaveTurn E) (old new : F) : Type 0 where
  -- a stop at any moment leaves the shard's file old or whole new
  pub any_moment : LeavesOnly m (IsOldOrGiven dir file_name shard turn (m.files old)) old new
  -- and a loss of power leaves it as a loss at the start could have left it, or whole new
  pub any_loss : LosesOnly m (IsOldOrGivenWhole dir file_name shard turn) old new
  -- where the shard was saved, its file has the bytes given, which no loss of power changes, and its temp file is gone
  pub kept : IsKept dir file_name (m.files new) shard turn
  pub firm : IsFirm dir file_name (m.loose new) shard turn
  pub gone : IfNone turn.failed (get (m.files new) (temp_path dir file_name shard turn.word) ≡ None)
  -- an error names the call that failed, and has its reason
  pub named : IfSome turn.failed (λ f. IfIo f (λ e. m.last_call new ≡ failed_call e))
  pub reason : IfSome turn.failed (λ f. IfIo f (λ e. HasReason (is_there (m.folders old) (folder_of (temp_path dir file_name shard turn.word)))
      (m.faults old) (m.faults new) (blame_of e).cause))
  -- where the device failed, that is told
  pub later : m.faults old ≤ m.faults new
  pub told : m.faults old < m.faults new → IsSomeAnd turn.failed IsDeviceFault
  pub places : m.folders new ≡ m.folders old
  -- its temp file alone becomes loose
  pub loosens : (q : List ℕ) → m.loose new q → loosened (temp_path dir file_name shard turn.word) (m.loose old) q

-- What all turns do to the folder.
pub record SavesEach {F E : Type 0} (m : Meaning F) (dir file_name : List ℕ) (turns : List (SaveTurn E)) (old new : F) : Type 0 where
  -- a stop at any moment leaves each shard's file old or whole new
  pub any_moment : LeavesOnly m (EachOldOrGiven dir file_name turns (m.files old)) old new
  -- and for each map that a loss of power may leave, one map that a loss at the start could have left is the old one of all
  pub any_loss : LosesOnly m (EachOldOrGiven dir file_name turns) old new
  pub kept : EachTurn (IsKept dir file_name (m.files new)) turns
  pub firm : EachTurn (IsFirm dir file_name (m.loose new)) turns
  -- where the device did not fail, a shard failed only where its bytes or memory were refused
  pub refused : m.faults new ≡ m.faults old → EachTurn (λ shard turn. IfSome turn.failed IsRefused) turns

-- Turns in order, from this shard on: each calls the closure with the shard's number and draws a word.
abbrev pub RunsTo : {S E : Type 0} → (S → ℕ → Given E → S → Type 0) → ℕ → S → Stream → List (SaveTurn E) → S → Stream → Type 0
RunsTo step shard f s [] last rest = (f ≡ last) × (s ≡ rest)
RunsTo {S} step shard f s (turn ∷ turns) last rest =
    (g : S) × step f shard turn.given g × (turn.word ≡ (next_u32 s).0) × RunsTo step (suc shard) g (next_u32 s).1 turns last rest
