-- What a load answers.
use Rattle.std.specs.Prelude.{◌≡◌, ◌<◌, ℕ, List, Option, Some, None}
use Rattle.lru_folder.specs.Files.{Files}
use Rattle.lru_generations.specs.Checkpoints.{Shards, HasCheckpoint}
use Rattle.lru_generations.specs.Loads.{AreSameShards, rows_of}
use Rattle.lru_generations.specs.declared.newest_loading.Checkpoint.{Checkpoint}
use Rattle.lru_generations.specs.Newest.{IsBelow}

-- the number of a checkpoint that was loaded
abbrev pub number_of : {K V : Type 0} → Option (Checkpoint K V) → Option ℕ
number_of None = None
number_of (Some checkpoint) = Some checkpoint.generation

module _ {K V : Type 0} where
  module _ (key_bytes : K → List ℕ) (IsKey : K → Type 0) (data_bytes : V → List ℕ) (IsData : V → Type 0) (dir file_name : List ℕ) (files : Files) where
    -- the whole checkpoint of a generation stands there and can be read
    abbrev pub IsReadable : ℕ → Type 0
    IsReadable generation = (shards : Shards K V) × HasCheckpoint key_bytes IsKey data_bytes IsData dir file_name generation shards files

    -- this is the checkpoint of the highest generation that can be read, or none can
    abbrev pub IsLoaded : Option (Checkpoint K V) → Type 0
    IsLoaded None = (generation : ℕ) → ¬ IsReadable generation
    IsLoaded (Some checkpoint) = HasCheckpoint key_bytes IsKey data_bytes IsData dir file_name checkpoint.generation (rows_of checkpoint.shards.items) files
        × ((higher : ℕ) → checkpoint.generation < higher → ¬ IsReadable higher)

    -- so it is with the generations below a bound
    abbrev pub IsReadableBelow : Option ℕ → ℕ → Type 0
    IsReadableBelow bound generation = IsBelow bound generation × IsReadable generation

    abbrev pub IsLoadedBelow : Option ℕ → Option (Checkpoint K V) → Type 0
    IsLoadedBelow bound None = (generation : ℕ) → ¬ IsReadableBelow bound generation
    IsLoadedBelow bound (Some checkpoint) = IsBelow bound checkpoint.generation
        × (HasCheckpoint key_bytes IsKey data_bytes IsData dir file_name checkpoint.generation (rows_of checkpoint.shards.items) files
        × ((higher : ℕ) → checkpoint.generation < higher → ¬ IsReadableBelow bound higher))

  -- it is this checkpoint, with rows that a reader cannot tell apart from these
  abbrev pub IsSameCheckpoint : (K → K → Type 0) → (V → V → Type 0) → ℕ → Shards K V → Option (Checkpoint K V) → Type 0
  IsSameCheckpoint IsSameKey IsSameData generation shards None = ⊥
  IsSameCheckpoint IsSameKey IsSameData generation shards (Some checkpoint) = (checkpoint.generation ≡ generation)
      × AreSameShards IsSameKey IsSameData (rows_of checkpoint.shards.items) shards
