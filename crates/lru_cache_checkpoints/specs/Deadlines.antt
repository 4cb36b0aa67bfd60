-- What a save of a cache with deadlines takes, and what a load puts back.
use Rattle.std.specs.Prelude.{◌≡◌, ◌<◌, ◌^◌, ℕ, Bool, List, ◌++◌, Option, None, Some, Result, Ok, Err, map}
use Rattle.lru_folder.specs.Files.{Files}
use Rattle.lru_frames.specs.declared.row.Row.{Row}
use Rattle.lru_frames.specs.Words.{word}
use Rattle.lru_frames.specs.Copies.{AreEach}
use Rattle.lru_owned_cache.specs.declared.cache.Refused as cached
use Rattle.lru_owned_cache.specs.Cache.{Cached, parts_of}
use Rattle.lru_deadlines.specs.declared.deadlines.Until.{Until}
use Rattle.lru_generations.specs.Loads.{IsFault}
use Rattle.lru_generations.specs.declared.newest_loading.Checkpoint.{Checkpoint}
use Rattle.lru_generations.specs.Loaded.{number_of}
use Rattle.lru_cache_checkpoints.specs.CapturedDeadlines.{IsDeadlineCopy, PutsDeadlines}
use Rattle.lru_cache_checkpoints.specs.Restores.{IsFound}
use Rattle.lru_cache_checkpoints.specs.declared.restored.Restored.{Restored}
use Rattle.lru_cache_checkpoints.specs.declared.restored.RestoreError.{RestoreError}
use Rattle.lru_cache_checkpoints.specs.declared.restored.RestoreError.TheVariants.{Unloaded, Refused}

-- a value and its deadline as they stand in a file
abbrev pub until_bytes : {V : Type 0} → (V → List ℕ) → V × ℕ → List ℕ
until_bytes bytes_of pair = bytes_of pair.0 ++ word pair.1

abbrev pub IsUntil : {V : Type 0} → (V → Type 0) → V × ℕ → Type 0
IsUntil IsValue pair = IsValue pair.0 × (pair.1 < 2 ^ 64)

abbrev pub IsSameUntil : {V : Type 0} → (V → V → Type 0) → V × ℕ → V × ℕ → Type 0
IsSameUntil IsSame a b = IsSame a.0 b.0 × (a.1 ≡ b.1)

-- rows are the copies of the entries of a cache with their deadlines, most recent first
abbrev pub IsDeadlinesOf : {K V S : Type 0} → (K → K → Type 0) → (V → V → Type 0) → Cached K (Until V) S → List (Row K (V × ℕ)) → Type 0
IsDeadlinesOf IsCloneKey IsCloneValue cache rows = AreEach (IsDeadlineCopy IsCloneKey IsCloneValue) (map parts_of cache.entries) rows

module _ {K V : Type 0} (key_bytes : K → List ℕ) (IsKey : K → Type 0) (IsSameKey : K → K → Type 0) (data_bytes : V → List ℕ) (IsData : V → Type 0) (IsSameData : V → V → Type 0)
    (dir file_name : List ℕ) (files : Files) (eq : K → K → Bool) where
  -- the checkpoint of the highest generation that can be read, or that there is none
  abbrev pub IsFoundUntil : Option (Checkpoint K (V × ℕ)) → Type 0
  IsFoundUntil newest = IsFound key_bytes IsKey IsSameKey (until_bytes data_bytes) (IsUntil IsData) (IsSameUntil IsSameData) dir file_name files newest

  -- the entries of a checkpoint are put, or nothing is where there is none
  abbrev pub PutsNewestDeadlines : {S : Type 0} → Option (Checkpoint K (V × ℕ)) → Cached K (Until V) S → Result ℕ (cached.Refused K (Until V)) → Cached K (Until V) S → Type 0
  PutsNewestDeadlines None old answer new = (answer ≡ Ok 0) × (new ≡ old)
  PutsNewestDeadlines (Some checkpoint) old answer new = PutsDeadlines eq old checkpoint.shards.items 0 answer new

  -- the newest checkpoint is put back, or nothing was loaded
  abbrev pub RestoresDeadlines : {S : Type 0} → Cached K (Until V) S → Result Restored (RestoreError K (Until V)) → Cached K (Until V) S → Type 0
  RestoresDeadlines old (Ok restored) new =
      (newest : Option (Checkpoint K (V × ℕ))) × (IsFoundUntil newest × ((restored.generation ≡ number_of newest) × PutsNewestDeadlines newest old (Ok restored.left_out) new))
  RestoresDeadlines old (Err (Unloaded error)) new = IsFault error × (new ≡ old)
  RestoresDeadlines old (Err (Refused refused)) new = (newest : Option (Checkpoint K (V × ℕ))) × (IsFoundUntil newest × PutsNewestDeadlines newest old (Err refused) new)
