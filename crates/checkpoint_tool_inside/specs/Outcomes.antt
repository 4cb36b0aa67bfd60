-- What may come of a request.
use Rattle.std.specs.Prelude.{◌≡◌, ◌⊎◌, ◌%◌, ◌==◌, ℕ, List, [], ◌∷◌, length, map, filter, reverse, slice_get, Option, Some, None, Result, MatchResult, IfSome, Contains}
use Rattle.std.specs.Io.KnownBytes.{Appends}
use Rattle.std.specs.FinMap.{get}
use Rattle.lru_folder.specs.Meaning.{Meaning}
use Rattle.lru_frames.specs.declared.row.Row.{Row}
use Rattle.lru_frames.specs.Words.{word}
use Rattle.lru_generations.specs.declared.errors.CheckpointError.{CheckpointError}
use Rattle.lru_generations.specs.Checkpoints.{Shards, AreHandedOut}
use Rattle.lru_generations.specs.Loads.{IsFault, IsRefused, IsRefusedFrame}
use Rattle.lru_generations.specs.declared.names.PartName.{PartName}
use Rattle.lru_generations.specs.Names.{IsPart, part_path}
use Rattle.lru_generations.specs.declared.generation_checks.FoundGeneration.{FoundGeneration}
use Rattle.lru_generations.specs.declared.newest_loading.Loaded.{Loaded}
use Rattle.lru_generations.specs.declared.newest.Passed.{Passed}
use Rattle.lru_generations.specs.Faults.{IsFailed, IsUnlisted}
use Rattle.lru_generations.specs.Loaded.{IsLoaded, IsLoadedBelow, number_of}
use Rattle.lru_generations.specs.Newest.{AreGenerations, AreGenerationsBelow, ArePassed, IsHighest, IsNewest}
use Rattle.lru_generations.specs.Saving.{IsForGood, IsOlder, IsUnremoved, IsUnsaved, IsUnused, SavesNext, TellsPassed}
use Rattle.lru_generations.specs.Told.{AreAll, IsTold}
use Rattle.checkpoint_tool_inside.specs.declared.outcome.Outcome.{Outcome}
use Rattle.checkpoint_tool_inside.specs.declared.outcome.Outcome.TheVariants as outcome
use Rattle.checkpoint_tool_inside.specs.declared.requests.TaskMisuse.TheVariants as misuse
use Rattle.checkpoint_tool_inside.specs.declared.requests.WordsError.{WordsError}
use Rattle.checkpoint_tool_inside.specs.declared.requests.WordsError.TheVariants as words
use Rattle.checkpoint_tool_inside.specs.Before.{IsWord, CanShow}
use Rattle.checkpoint_tool_inside.specs.InputRows as input
use Rattle.checkpoint_tool_inside.specs.Texts.{Held, outcome_text, status_of}
use Rattle.checkpoint_tool_inside.specs.Requests.{Asked, Help, Save, Show, ShowBefore, Check, Misused, NoMemory}

-- The rows of a shard, the one that was used last first: the lines are in the order of use, and a key's shard is the rest
-- that 4 leaves of it.
abbrev pub rows_in : ℕ → List (Row ℕ ℕ) → List (Row ℕ ℕ)
rows_in shard rows = reverse (filter (λ row. row.key % 4 == shard) rows)

-- the rows of the input, in four shards
abbrev pub AreShardsOf : List (Row ℕ ℕ) → Held → Type 0
AreShardsOf rows shards = map (λ shard. shard.items) shards ≡ rows_in 0 rows ∷ rows_in 1 rows ∷ rows_in 2 rows ∷ rows_in 3 rows ∷ []

-- each shard hands out its own rows
abbrev pub HandsOut : Held → ℕ → List (Row ℕ ℕ) → Type 0
HandsOut shards shard rows = IfSome (slice_get shards shard) (λ held. held.items ≡ rows)

module _ {F : Type 0} (meaning : Meaning F) (dir file_name : List ℕ) where
  -- memory or the device failed, or the folder is not there
  abbrev pub IsUnread : F → F → CheckpointError → Type 0
  IsUnread old new error = IsFault error × (IsUnlisted meaning dir old new error ⊎ IsFailed meaning old new error)

  -- the rows are, for good, a checkpoint in a generation of which there was no file
  abbrev pub IsSavedAs : List (Row ℕ ℕ) → ℕ → F → F → Type 0
  IsSavedAs rows generation old new = IsUnused dir file_name (meaning.files old) generation
      × ((held : Held) × (AreShardsOf rows held × ((shards : Shards ℕ ℕ) × (AreHandedOut (HandsOut held) (length held) shards
      × IsForGood word IsWord word IsWord dir file_name meaning generation shards new))))

  -- the files below the one that is kept are gone, or why some may be left is told
  abbrev pub TellsRemoved : Option ℕ → Result (Unit {0}) CheckpointError → F → F → Type 0
  TellsRemoved kept removed old new = MatchResult removed
      (λ done. (part : PartName) (bytes : List ℕ) → IsPart part → IsOlder kept part → get (meaning.files old) (part_path dir file_name part) ≡ Some bytes
      → get (meaning.files new) (part_path dir file_name part) ≡ None)
      (IsUnremoved meaning kept)

  -- and what is told is each generation above the newest one that was whole, and what became of those below it
  abbrev pub IsSavedNext : List (Row ℕ ℕ) → ℕ → List Passed → Result (Unit {0}) CheckpointError → F → F → Type 0
  IsSavedNext rows generation passed removed old new = IsSavedAs rows generation old new
      × ((kept : Option ℕ) × (IsNewest dir file_name (meaning.files old) kept × (TellsPassed meaning dir file_name (meaning.files old) kept passed
      × TellsRemoved kept removed old new)))

  -- a save was refused; where neither memory nor the device failed, nothing was done
  abbrev pub IsSaveRefused : F → F → CheckpointError → Type 0
  IsSaveRefused old new error = IsUnsaved error × (¬ IsFault error → meaning.files new ≡ meaning.files old)

  -- what comes of the rows of an input
  abbrev pub ComesOfRows : List (Row ℕ ℕ) → F → F → Outcome → Type 0
  ComesOfRows rows old new (outcome.Saved generation count passed removed) = (count ≡ length rows) × (meaning.keeps old → IsSavedNext rows generation passed.items removed old new)
  ComesOfRows rows old new outcome.Memory = new ≡ old
  ComesOfRows rows old new (outcome.Refused error) = meaning.keeps old → IsSaveRefused old new error
  ComesOfRows rows old new outcome.Helped = ⊥
  ComesOfRows rows old new (outcome.Misused misuse) = ⊥
  ComesOfRows rows old new (outcome.Shown loaded) = ⊥
  ComesOfRows rows old new (outcome.Checked told) = ⊥
  ComesOfRows rows old new (outcome.BadLine number) = ⊥
  ComesOfRows rows old new outcome.Unread = ⊥

  -- the rows of the lines were saved, or a line is no row and nothing was done
  abbrev pub ComesOfInput : List ℕ → F → F → Outcome → Type 0
  ComesOfInput bytes old new (outcome.BadLine number) = input.IsFirstBad (input.rows_of bytes) number × (new ≡ old)
  ComesOfInput bytes old new outcome.Memory = new ≡ old
  ComesOfInput bytes old new (outcome.Saved generation count passed removed) = (rows : List (Row ℕ ℕ)) × ((input.rows_of bytes ≡ map (λ row. Some row) rows)
      × ((count ≡ length rows) × (meaning.keeps old → IsSavedNext rows generation passed.items removed old new)))
  ComesOfInput bytes old new (outcome.Refused error) = meaning.keeps old → IsSaveRefused old new error
  ComesOfInput bytes old new outcome.Helped = ⊥
  ComesOfInput bytes old new (outcome.Misused misuse) = ⊥
  ComesOfInput bytes old new (outcome.Shown loaded) = ⊥
  ComesOfInput bytes old new (outcome.Checked told) = ⊥
  ComesOfInput bytes old new outcome.Unread = ⊥

  -- what comes of a request to save: the input was not read, or this came of it
  abbrev pub ComesOfSave : Type 0 → Option (List ℕ) → F → F → Outcome → Type 0
  ComesOfSave read_failed bytes old new outcome.Unread = read_failed × (new ≡ old)
  ComesOfSave read_failed bytes old new came = IfSome bytes (λ read. ComesOfInput read old new came)

  -- at every moment of a save the newest whole checkpoint is there, and what comes to be whole is of the rows of the input
  abbrev pub SavesInput : List ℕ → F → F → Type 0
  SavesInput bytes old new = (new ≡ old) ⊎ ((rows : List (Row ℕ ℕ)) × ((input.rows_of bytes ≡ map (λ row. Some row) rows)
      × ((held : Held) × (AreShardsOf rows held × SavesNext word IsWord word IsWord dir file_name (HandsOut held) (length held) meaning old new))))

  -- why a generation cannot be read as rows of numbers
  abbrev pub IsRefusedRows : F → F → ℕ → CheckpointError → Type 0
  IsRefusedRows old new generation error =
      IsRefused meaning (IsRefusedFrame meaning word IsWord word IsWord dir file_name) dir file_name generation old new error

  -- What was loaded is the newest checkpoint that can be read, or none can; and each generation above it that has a manifest
  -- was passed over, for its reason.
  abbrev pub IsShown : F → F → Loaded ℕ ℕ → Type 0
  IsShown old new loaded = IsLoaded word IsWord word IsWord dir file_name (meaning.files old) loaded.newest
      × ((generations : List ℕ) × (AreGenerations dir file_name (meaning.files old) generations
      × ArePassed (IsRefusedRows old new) generations (number_of loaded.newest) loaded.passed.items))

  -- So it is below the newest one that can be read, as if that and those above it were not there.
  abbrev pub IsShownBefore : F → F → Loaded ℕ ℕ → Type 0
  IsShownBefore old new loaded = (newest : Option ℕ) × (IsHighest (CanShow dir file_name (meaning.files old)) newest
      × (IsLoadedBelow word IsWord word IsWord dir file_name (meaning.files old) newest loaded.newest
      × ((generations : List ℕ) × (AreGenerationsBelow dir file_name (meaning.files old) newest generations
      × ArePassed (IsRefusedRows old new) generations (number_of loaded.newest) loaded.passed.items))))

  abbrev pub ComesOfShow : F → F → Outcome → Type 0
  ComesOfShow old new (outcome.Shown loaded) = IsShown old new loaded
  ComesOfShow old new (outcome.Refused error) = IsUnread old new error
  ComesOfShow old new outcome.Helped = ⊥
  ComesOfShow old new (outcome.Misused misuse) = ⊥
  ComesOfShow old new (outcome.Saved generation count passed removed) = ⊥
  ComesOfShow old new (outcome.Checked told) = ⊥
  ComesOfShow old new (outcome.BadLine number) = ⊥
  ComesOfShow old new outcome.Unread = ⊥
  ComesOfShow old new outcome.Memory = ⊥

  abbrev pub ComesOfShowBefore : F → F → Outcome → Type 0
  ComesOfShowBefore old new (outcome.Shown loaded) = IsShownBefore old new loaded
  ComesOfShowBefore old new (outcome.Refused error) = IsUnread old new error
  ComesOfShowBefore old new outcome.Helped = ⊥
  ComesOfShowBefore old new (outcome.Misused misuse) = ⊥
  ComesOfShowBefore old new (outcome.Saved generation count passed removed) = ⊥
  ComesOfShowBefore old new (outcome.Checked told) = ⊥
  ComesOfShowBefore old new (outcome.BadLine number) = ⊥
  ComesOfShowBefore old new outcome.Unread = ⊥
  ComesOfShowBefore old new outcome.Memory = ⊥

  -- each generation of which there is a file is told of, the highest first, and what is told of each is true
  abbrev pub ComesOfCheck : F → F → Outcome → Type 0
  ComesOfCheck old new (outcome.Checked told) = AreAll dir file_name (meaning.files old) (map (λ one. one.generation) told.items)
      × ((one : FoundGeneration) → Contains told.items one → IsTold dir file_name meaning old new one.generation one.shards)
  ComesOfCheck old new (outcome.Refused error) = IsUnread old new error
  ComesOfCheck old new outcome.Helped = ⊥
  ComesOfCheck old new (outcome.Misused misuse) = ⊥
  ComesOfCheck old new (outcome.Saved generation count passed removed) = ⊥
  ComesOfCheck old new (outcome.Shown loaded) = ⊥
  ComesOfCheck old new (outcome.BadLine number) = ⊥
  ComesOfCheck old new outcome.Unread = ⊥
  ComesOfCheck old new outcome.Memory = ⊥

-- what comes of words that were not read
abbrev pub unread_words : WordsError → Outcome
unread_words words.Memory = outcome.Memory
unread_words words.NoText = outcome.Misused misuse.NoText

-- what comes of a request, over the bytes that are left in the input
abbrev pub ComesOf : {F : Type 0} → Meaning F → Type 0 → Option (List ℕ) → Asked → F → F → Outcome → Type 0
ComesOf meaning read_failed bytes Help old new came = (came ≡ outcome.Helped) × (new ≡ old)
ComesOf meaning read_failed bytes (Misused misuse) old new came = (came ≡ outcome.Misused misuse) × (new ≡ old)
ComesOf meaning read_failed bytes NoMemory old new came = (came ≡ outcome.Memory) × (new ≡ old)
ComesOf meaning read_failed bytes (Save dir file_name) old new came = ComesOfSave meaning dir file_name read_failed bytes old new came
ComesOf meaning read_failed bytes (Show dir file_name) old new came = meaning.keeps old → ComesOfShow meaning dir file_name old new came
ComesOf meaning read_failed bytes (ShowBefore dir file_name) old new came = meaning.keeps old → ComesOfShowBefore meaning dir file_name old new came
ComesOf meaning read_failed bytes (Check dir file_name) old new came = meaning.keeps old → ComesOfCheck meaning dir file_name old new came

-- the text and the status are those of what came of a request
abbrev pub Tells : {F : Type 0} → Meaning F → Type 0 → Option (List ℕ) → Asked → F → F → ℕ → Option (List ℕ) → Option (List ℕ) → Type 0
Tells meaning read_failed bytes asked old new status from to = (came : Outcome) × (ComesOf meaning read_failed bytes asked old new came
    × ((status ≡ status_of came) × Appends from to (outcome_text came)))

-- a request that saves nothing leaves all files as they are
abbrev pub LeavesFiles : {F : Type 0} → Meaning F → Asked → F → F → Type 0
LeavesFiles meaning (Save dir file_name) old new = Unit {0}
LeavesFiles meaning Help old new = new ≡ old
LeavesFiles meaning (Misused misuse) old new = new ≡ old
LeavesFiles meaning NoMemory old new = new ≡ old
LeavesFiles meaning (Show dir file_name) old new = meaning.keeps old → meaning.files new ≡ meaning.files old
LeavesFiles meaning (ShowBefore dir file_name) old new = meaning.keeps old → meaning.files new ≡ meaning.files old
LeavesFiles meaning (Check dir file_name) old new = meaning.keeps old → meaning.files new ≡ meaning.files old

-- and one that saves leaves, at every moment, the newest whole checkpoint, and no other beside it but that of its rows
abbrev pub LeavesWhole : {F : Type 0} → Meaning F → Option (List ℕ) → Asked → F → F → Type 0
LeavesWhole meaning bytes (Save dir file_name) old new = meaning.keeps old → IfSome bytes (λ read. SavesInput meaning dir file_name read old new)
LeavesWhole meaning bytes Help old new = Unit {0}
LeavesWhole meaning bytes (Misused misuse) old new = Unit {0}
LeavesWhole meaning bytes NoMemory old new = Unit {0}
LeavesWhole meaning bytes (Show dir file_name) old new = Unit {0}
LeavesWhole meaning bytes (ShowBefore dir file_name) old new = Unit {0}
LeavesWhole meaning bytes (Check dir file_name) old new = Unit {0}
