-- What a save of a cache whose entries end takes, and what a load puts back.
use Rattle.std.specs.Prelude.{◌≡◌, ◌<◌, ◌^◌, ℕ, Bool, List, ◌++◌, Option, None, Some, Result, Ok, Err}
use Rattle.lru_folder.specs.Files.{Files}
use Rattle.lru_frames.specs.Words.{word}
use Rattle.lru_owned_cache.specs.declared.cache.Refused as cached
use Rattle.lru_deadlines.specs.declared.deadlines.Until.{Until}
use Rattle.lru_shared_deadlines.specs.declared.ages.Aged.{Aged}
use Rattle.lru_generations.specs.Loads.{IsFault}
use Rattle.lru_generations.specs.declared.newest_loading.Checkpoint.{Checkpoint}
use Rattle.lru_generations.specs.Loaded.{number_of}
use Rattle.lru_cache_checkpoints.specs.CapturedAges.{MayPutAged}
use Rattle.lru_cache_checkpoints.specs.Restores.{IsFound}
use Rattle.lru_cache_checkpoints.specs.declared.restored.Restored.{Restored}
use Rattle.lru_cache_checkpoints.specs.declared.restored.RestoreError.{RestoreError}
use Rattle.lru_cache_checkpoints.specs.declared.restored.RestoreError.TheVariants.{Unloaded, Refused}

-- a value with its end and its deadline as they stand in a file
abbrev pub aged_bytes : {V : Type 0} → (V → List ℕ) → V × (ℕ × ℕ) → List ℕ
aged_bytes bytes_of stored = bytes_of stored.0 ++ (word stored.1.0 ++ word stored.1.1)

abbrev pub IsAged : {V : Type 0} → (V → Type 0) → V × (ℕ × ℕ) → Type 0
IsAged IsValue stored = IsValue stored.0 × ((stored.1.0 < 2 ^ 64) × (stored.1.1 < 2 ^ 64))

abbrev pub IsSameAged : {V : Type 0} → (V → V → Type 0) → V × (ℕ × ℕ) → V × (ℕ × ℕ) → Type 0
IsSameAged IsSame a b = IsSame a.0 b.0 × ((a.1.0 ≡ b.1.0) × (a.1.1 ≡ b.1.1))

module _ {K V : Type 0} (key_bytes : K → List ℕ) (IsKey : K → Type 0) (IsSameKey : K → K → Type 0) (data_bytes : V → List ℕ) (IsData : V → Type 0) (IsSameData : V → V → Type 0)
    (dir file_name : List ℕ) (files : Files) (eq : K → K → Bool) where
  -- the checkpoint of the highest generation that can be read, or that there is none
  abbrev pub IsFoundAged : Option (Checkpoint K (V × (ℕ × ℕ))) → Type 0
  IsFoundAged newest = IsFound key_bytes IsKey IsSameKey (aged_bytes data_bytes) (IsAged IsData) (IsSameAged IsSameData) dir file_name files newest

  -- the entries of a checkpoint are put, each at a moment of its own, or nothing is where there is none
  abbrev pub MayPutNewestAged : Option (Checkpoint K (V × (ℕ × ℕ))) → Result ℕ (cached.Refused K (Until (Aged V))) → Type 0
  MayPutNewestAged None answer = answer ≡ Ok 0
  MayPutNewestAged (Some checkpoint) answer = MayPutAged eq checkpoint.shards.items 0 answer

  -- the newest checkpoint is put back, or nothing was loaded
  abbrev pub MayRestoreAged : Result Restored (RestoreError K (Until (Aged V))) → Type 0
  MayRestoreAged (Ok restored) = (newest : Option (Checkpoint K (V × (ℕ × ℕ)))) × (IsFoundAged newest × ((restored.generation ≡ number_of newest) × MayPutNewestAged newest (Ok restored.left_out)))
  MayRestoreAged (Err (Unloaded error)) = IsFault error
  MayRestoreAged (Err (Refused refused)) = (newest : Option (Checkpoint K (V × (ℕ × ℕ)))) × (IsFoundAged newest × MayPutNewestAged newest (Err refused))
