-- A core saved into a folder and loaded from it, shard by shard: what may be reported, and what may be left.
use Rattle.std.specs.Prelude.{◌≡◌, ◌⊎◌, ◌<◌, ℕ, List, [], Ok, Err, IsOkAnd}
use Rattle.std.specs.List.{Any}
use Rattle.std.specs.declared.alloc.AllocError.{AllocError}
use Rattle.rand_core.specs.Stream.{Stream}
use Rattle.pingora_lru.specs.Core.{Core, IsCore, list_at}
use Rattle.lru_folder.specs.Blames.{blame_of}
use Rattle.lru_folder.specs.Files.{Files}
use Rattle.lru_folder.specs.declared.errors.ShardLoadFailure.{ShardLoadFailure}
use Rattle.lru_folder.specs.declared.errors.ShardLoadFailure.TheVariants as failure
use Rattle.lru_folder.specs.declared.errors.ShardSaveError.TheVariants.{Setup, AllShardsFailed}
use Rattle.lru_folder.specs.declared.errors.ShardSaveSetupError.TheVariants.{CreateDir}
use Rattle.lru_folder.specs.declared.errors.ShardSaveSetupError.TheVariants as setup
use Rattle.lru_folder.specs.declared.fault.FolderFault.TheVariants as fault
pub use Rattle.lru_folder.specs.Meaning.{Meaning}
use Rattle.lru_shard_files.specs.Loading.{LoadResultOf, LoadsShards}
use Rattle.lru_shard_files.specs.Saves.{SaveResultOf, SavesShards}
use Rattle.lru_shard_files.specs.declared.snapshot.Keyed.{Keyed}
use Rattle.lru_shard_files.specs.declared.snapshot.LoadError.{LoadError}
use Rattle.lru_shard_files.specs.Turns.{IsRefused}
use Rattle.lru_shard.specs.declared.unit.Cause.TheVariants as cause
use Rattle.lru_shard_files.specs.declared.snapshot.LoadError.TheVariants as unloaded
use Rattle.lru_shard_files.specs.SnapshotLoads.{LoadsShard, TellTheirKeys}
use Rattle.lru_shard_files.specs.SnapshotSaves.{GivesShard, HoldCore, TellCore}

abbrev pub SaveResult : Type 0
SaveResult = SaveResultOf AllocError

abbrev pub LoadResult : Type 0
LoadResult = LoadResultOf LoadError

-- A save of a core of n shards into a folder may end so, leave the folder so, and draw its words from a stream down to a
-- rest of it: it is a save of so many shards, each given the bytes of its rows.
abbrev pub SavesCore : {F : Type 0} → Meaning F → List ℕ → List ℕ → ℕ → Core Keyed → Stream → F → SaveResult → Stream → F → Type 0
SavesCore m dir file n core drawn_from old result rest new = SavesShards m (GivesShard core) dir file n tt drawn_from old result rest new

-- A load of a core of n shards from a folder may end so, and leave core and folder so: it is a load of so many shards,
-- each of which puts the rows that its bytes tell last in its shard.
abbrev pub LoadsCore : {F : Type 0} → Meaning F → List ℕ → List ℕ → ℕ → Core Keyed → F → LoadResult → Core Keyed → F → Type 0
LoadsCore m dir file n old_core old result new_core new = LoadsShards m LoadsShard dir file n old_core old result new_core new

-- a core that has no rows
abbrev pub HasNoRows : Core Keyed → Type 0
HasNoRows core = (s : ℕ) → list_at core s ≡ []

-- each row's data tell the key that it stands under
abbrev pub TellAllKeys : Core Keyed → Type 0
TellAllKeys core = (s : ℕ) → TellTheirKeys (list_at core s)

-- all of n shards were saved,
abbrev pub AreSaved : ℕ → SaveResult → Type 0
AreSaved n result = IsOkAnd result (λ report. report.saved_shards ≡ n)

-- and all were loaded
abbrev pub AreLoaded : ℕ → LoadResult → Type 0
AreLoaded n result = IsOkAnd result (λ report. report.loaded_shards ≡ n)

-- A core without rows that loads all shards from files that tell another's rows has those rows.
abbrev pub Restores : Files → List ℕ → List ℕ → ℕ → Core Keyed → LoadResult → Core Keyed → Type 0
Restores files dir file n old result new = (saved : Core Keyed) → TellCore files dir file n saved → HasNoRows old
    → AreLoaded n result → (s : ℕ) → s < n → list_at new s ≡ list_at saved s

-- a save tells that memory was refused
abbrev pub TellsMemory : SaveResult → Type 0
TellsMemory (Ok report) = Any IsRefused report.failures.items
TellsMemory (Err (AllShardsFailed count failures)) = Any IsRefused failures.items
TellsMemory (Err (Setup (CreateDir path source))) = source ≡ fault.Memory
TellsMemory (Err (Setup setup.Memory)) = Unit {0}

-- a shard was not loaded for want of memory
abbrev pub LacksMemory : ShardLoadFailure LoadError → Type 0
LacksMemory (failure.Io shard source) = (blame_of source).cause ≡ fault.Memory
LacksMemory (failure.Memory shard) = Unit {0}
LacksMemory (failure.Deserialize shard error) = error ≡ unloaded.Unit cause.Memory

-- a load tells that memory was refused
abbrev pub TellsLoadMemory : LoadResult → Type 0
TellsLoadMemory (Ok report) = Any LacksMemory report.failures.items
TellsLoadMemory (Err error) = Unit {0}

-- A core without rows loads all shards from files that hold another's, unless memory was refused.
abbrev pub LoadsAllHeld : Files → List ℕ → List ℕ → ℕ → Core Keyed → LoadResult → Type 0
LoadsAllHeld files dir file n old result = (saved : Core Keyed) → IsCore n saved → HoldCore files dir file n saved → TellAllKeys saved → HasNoRows old
    → TellsLoadMemory result ⊎ AreLoaded n result
