-- What the turns of a core's save are given.
use Rattle.std.specs.Prelude.{◌≡◌, ◌<◌, ℕ, List, Some, IfOk, map}
use Rattle.std.specs.FinMap.{get}
use Rattle.lru_folder.specs.Files.{Files}
use Rattle.lru_shard_files.specs.SnapshotLoads.{rows_of, TellTheirKeys}
use Rattle.std.specs.declared.alloc.AllocError.{AllocError}
use Rattle.pingora_lru.specs.Row.{pair_of}
use Rattle.pingora_lru.specs.Core.{Core, list_at}
use Rattle.lru_shard_files.specs.declared.snapshot.Keyed.{Keyed}
use Rattle.lru_shard_files.specs.Snapshot.{bytes_of}
use Rattle.lru_folder.specs.Names.{shard_path}
use Rattle.lru_shard_files.specs.Turns.{Given}

-- The bytes of a shard's rows, which tell those rows again where the data of each tell its key.
pub record AreBytesOf (core : Core Keyed) (shard : ℕ) (bytes : List ℕ) : Type 0 where
  pub those : bytes ≡ bytes_of (map pair_of (list_at core shard))
  pub back : TellTheirKeys (list_at core shard) → rows_of bytes ≡ list_at core shard

-- a call for the bytes of a shard gives those of its rows, unless memory was refused
abbrev pub GivesShard : Core Keyed → Unit {0} → ℕ → Given AllocError → Unit {0} → Type 0
GivesShard core before shard given after = IfOk given (λ bytes. AreBytesOf core shard bytes.items)

-- the file of each of n shards tells the rows that a core has there
abbrev pub TellCore : Files → List ℕ → List ℕ → ℕ → Core Keyed → Type 0
TellCore files dir file_name n core =
    (s : ℕ) → s < n → (bytes : List ℕ) × ((get files (shard_path dir file_name s) ≡ Some bytes) × (rows_of bytes ≡ list_at core s))

-- The file of each of n shards has the bytes of the rows that a core has there.
abbrev pub HoldCore : Files → List ℕ → List ℕ → ℕ → Core Keyed → Type 0
HoldCore files dir file_name n core =
    (s : ℕ) → s < n → (bytes : List ℕ) × ((get files (shard_path dir file_name s) ≡ Some bytes) × AreBytesOf core s bytes)
