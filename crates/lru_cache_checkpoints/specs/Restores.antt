-- What a save of a cache takes, and what a load puts back.
use Rattle.std.specs.Prelude.{◌≡◌, ◌<◌, ℕ, Bool, List, Option, None, Some, Result, Ok, Err, map}
use Rattle.lru_folder.specs.Files.{Files}
use Rattle.lru_frames.specs.declared.row.Row.{Row}
use Rattle.lru_frames.specs.Copies.{AreEach, IsEntryCopy}
use Rattle.lru_owned_cache.specs.declared.cache.Refused as cached
use Rattle.lru_owned_cache.specs.Cache.{Cached, parts_of}
use Rattle.lru_generations.specs.declared.errors.CheckpointError.{CheckpointError}
use Rattle.lru_generations.specs.Checkpoints.{Shards, HasCheckpoint}
use Rattle.lru_generations.specs.Loads.{IsFault}
use Rattle.lru_generations.specs.declared.newest_loading.Checkpoint.{Checkpoint}
use Rattle.lru_generations.specs.Loaded.{IsLoaded, IsReadable, IsSameCheckpoint, number_of}
use Rattle.lru_cache_checkpoints.specs.Captures.{PutsShards, MayPutShards}
use Rattle.lru_cache_checkpoints.specs.declared.restored.Restored.{Restored}
use Rattle.lru_cache_checkpoints.specs.declared.restored.RestoreError.{RestoreError}
use Rattle.lru_cache_checkpoints.specs.declared.restored.RestoreError.TheVariants.{Unloaded, Refused}

-- so it is of the error where none was loaded
abbrev pub IfUnloaded : {K V : Type 0} → (CheckpointError → Type 0) → RestoreError K V → Type 0
IfUnloaded P (Unloaded error) = P error
IfUnloaded P (Refused refused) = Unit {0}

-- rows are the copies of the entries of a cache, most recent first
abbrev pub IsCopyOf : {K V S : Type 0} → (K → K → Type 0) → (V → V → Type 0) → Cached K V S → List (Row K V) → Type 0
IsCopyOf IsCloneKey IsCloneValue cache rows = AreEach (IsEntryCopy IsCloneKey IsCloneValue) (map parts_of cache.entries) rows

module _ {K V : Type 0} (key_bytes : K → List ℕ) (IsKey : K → Type 0) (IsSameKey : K → K → Type 0) (data_bytes : V → List ℕ) (IsData : V → Type 0) (IsSameData : V → V → Type 0)
    (dir file_name : List ℕ) (files : Files) where
  -- This is the checkpoint of the highest generation that can be read, with the rows that it was saved with, or none can be read.
  pub record IsFound (newest : Option (Checkpoint K V)) : Type 0 where
    pub loaded : IsLoaded key_bytes IsKey data_bytes IsData dir file_name files newest
    pub written : (generation : ℕ) (shards : Shards K V) → HasCheckpoint key_bytes IsKey data_bytes IsData dir file_name generation shards files
        → ((higher : ℕ) → generation < higher → ¬ IsReadable key_bytes IsKey data_bytes IsData dir file_name files higher) → IsSameCheckpoint IsSameKey IsSameData generation shards newest

  module _ (eq : K → K → Bool) where
    -- the entries of a checkpoint are put, or nothing is where there is none
    abbrev pub PutsNewest : {S : Type 0} → Option (Checkpoint K V) → Cached K V S → Result ℕ (cached.Refused K V) → Cached K V S → Type 0
    PutsNewest None old answer new = (answer ≡ Ok 0) × (new ≡ old)
    PutsNewest (Some checkpoint) old answer new = PutsShards eq old checkpoint.shards.items 0 answer new

    -- the newest checkpoint is put back, or nothing was loaded
    abbrev pub Restores : {S : Type 0} → Cached K V S → Result Restored (RestoreError K V) → Cached K V S → Type 0
    Restores old (Ok restored) new = (newest : Option (Checkpoint K V)) × (IsFound newest × ((restored.generation ≡ number_of newest) × PutsNewest newest old (Ok restored.left_out) new))
    Restores old (Err (Unloaded error)) new = IsFault error × (new ≡ old)
    Restores old (Err (Refused refused)) new = (newest : Option (Checkpoint K V)) × (IsFound newest × PutsNewest newest old (Err refused) new)

    -- the same of a cache that threads share, each entry at a moment of its own
    abbrev pub MayPutNewest : Option (Checkpoint K V) → Result ℕ (cached.Refused K V) → Type 0
    MayPutNewest None answer = answer ≡ Ok 0
    MayPutNewest (Some checkpoint) answer = MayPutShards eq checkpoint.shards.items 0 answer

    abbrev pub MayRestore : Result Restored (RestoreError K V) → Type 0
    MayRestore (Ok restored) = (newest : Option (Checkpoint K V)) × (IsFound newest × ((restored.generation ≡ number_of newest) × MayPutNewest newest (Ok restored.left_out)))
    MayRestore (Err (Unloaded error)) = IsFault error
    MayRestore (Err (Refused refused)) = (newest : Option (Checkpoint K V)) × (IsFound newest × MayPutNewest newest (Err refused))
