-- A save that a stop or a loss of power cuts short, and a load of what it left.
use Rattle.std.specs.Prelude.{◌≡◌, ◌⊎◌, ◌<◌, ◌%◌, ◌^◌, ℕ, List, [], length, None, Some, Ok}
use Rattle.std.specs.FinMap.{get}
use Rattle.std.specs.List.{Any}
use Rattle.rand_core.specs.Stream.{Stream}
use Rattle.pingora_lru.specs.Core.{Core, IsCore, list_at}
use Rattle.pingora_lru.specs.Limits.{cap_of}
use Rattle.pingora_lru.specs.Row.{Row, times, HasDistinctKeys}
use Rattle.lru_folder.specs.Files.{Files, bytes_at}
use Rattle.lru_folder.specs.Meaning.{Meaning}
use Rattle.lru_folder.specs.Names.{shard_path}
use Rattle.lru_folder.specs.declared.errors.ShardLoadFailure.{ShardLoadFailure}
use Rattle.lru_folder.specs.declared.reports.ShardLoadReport.{ShardLoadReport}
use Rattle.lru_shard_files.specs.Loading.{failed_shard, IsDeviceFault}
use Rattle.lru_shard_files.specs.declared.snapshot.Keyed.{Keyed}
use Rattle.lru_shard_files.specs.declared.snapshot.LoadError.{LoadError}
use Rattle.lru_shard_files.specs.SnapshotLoads.{rows_of, limit_passed}
use Rattle.lru_shard_files.specs.SnapshotSaves.{AreBytesOf}
use Rattle.lru_shard_files.specs.Stores.{SaveResult, LoadResult, SavesCore, LoadsCore, HasNoRows, TellAllKeys, LacksMemory}

-- the rows that a folder's file tells of a shard; none where there is no file
abbrev pub rows_at : Files → List ℕ → List ℕ → ℕ → List (Row Keyed)
rows_at files dir file_name shard = rows_of (bytes_at files (shard_path dir file_name shard))

-- The files of each of n shards are as they were, or have the bytes of the rows that a core has there.
abbrev pub AreOldOrSaved : List ℕ → List ℕ → ℕ → Core Keyed → Files → Files → Type 0
AreOldOrSaved dir file_name n core was m =
    (s : ℕ) → s < n → (get m (shard_path dir file_name s) ≡ get was (shard_path dir file_name s))
    ⊎ ((bytes : List ℕ) × ((get m (shard_path dir file_name s) ≡ Some bytes) × AreBytesOf core s bytes))

-- Bytes that a shard without rows can take, one of n: whole rows, with keys of this shard, each once, and within its limits.
pub record CanBeLoaded (n shard : ℕ) (bytes : List ℕ) : Type 0 where
  pub whole : length bytes % 24 ≡ 0
  pub homes : (k : ℕ) → 0 < times k (rows_of bytes) → k % n ≡ shard
  pub keys : HasDistinctKeys (rows_of bytes)
  pub light : limit_passed (cap_of n) (rows_of bytes) ≡ None

-- A failure that tells why a shard has no rows: memory was refused, the device failed, or the old bytes can't be loaded.
abbrev pub TellsWhy : ℕ → ℕ → List ℕ → ShardLoadFailure LoadError → Type 0
TellsWhy n shard bytes failure =
    (failed_shard failure ≡ shard) × (LacksMemory failure ⊎ (IsDeviceFault failure ⊎ ¬ (CanBeLoaded n shard bytes)))

-- A core of n shards is saved into a folder, and one without rows is loaded from a folder.
pub record SaveThenLoad {F : Type 0} (meaning : Meaning F) (n : ℕ) : Type 0 where
  pub dir : List ℕ
  pub file_name : List ℕ
  pub small : n < 2 ^ 64
  -- the save
  pub core : Core Keyed
  pub is_core : IsCore n core
  pub tells : TellAllKeys core
  pub old : F
  pub drawn : Stream
  pub answer : SaveResult
  pub rest : Stream
  pub new : F
  pub keeps : meaning.keeps old
  pub saves : SavesCore meaning dir file_name n core drawn old answer rest new
  -- the load
  pub empty : Core Keyed
  pub is_empty : HasNoRows empty
  pub as_long : length empty.lists ≡ n
  pub found : F
  pub report : ShardLoadReport LoadError
  pub back : Core Keyed
  pub after : F
  pub found_keeps : meaning.keeps found
  pub loads : LoadsCore meaning dir file_name n empty found (Ok report) back after

module _ {F : Type 0} {meaning : Meaning F} {n : ℕ} where
  -- Each shard has the rows that its file told in this old folder, or those that were saved, or none, and the report tells why.
  abbrev pub ComesBack : SaveThenLoad meaning n → Files → Type 0
  ComesBack run was = (s : ℕ) → s < n →
      (list_at run.back s ≡ rows_at was run.dir run.file_name s)
      ⊎ ((list_at run.back s ≡ list_at run.core s)
      ⊎ ((list_at run.back s ≡ []) × Any (TellsWhy n s (bytes_at was (shard_path run.dir run.file_name s))) run.report.failures.items))

  -- the same, where the old folder is one that a loss of power at that moment could have left
  abbrev pub ComesBackFromLoss : SaveThenLoad meaning n → F → Type 0
  ComesBackFromLoss run begun = (was : Files) × (meaning.lost_since begun (meaning.clock begun) was × ComesBack run was)

  -- A load of the same shards, from which the save goes on.
  pub record LoadBefore (run : SaveThenLoad meaning n) : Type 0 where
    pub begun : F
    pub keeps : meaning.keeps begun
    pub before : Core Keyed
    pub answer : LoadResult
    pub held : Core Keyed
    pub loads : LoadsCore meaning run.dir run.file_name n before begun answer held run.old
