-- What the calls beneath a load answer: what a shard's turn comes to, and why an open file was not read to its end.
use Rattle.std.specs.Prelude.{◌≡◌, ◌≢◌, ℕ, Result, Ok, Err}
use Rattle.lru_folder.specs.declared.errors.ShardLoadFailure.{ShardLoadFailure}
use Rattle.lru_folder.specs.declared.errors.ShardLoadFailure.TheVariants as failure
use Rattle.lru_folder.specs.declared.fault.FolderFault.TheVariants.{NotFound, Io}
use Rattle.lru_shard_files.specs.declared.loading.FileReadError.{FileReadError}
use Rattle.lru_shard_files.specs.declared.loading.FileReadError.TheVariants.{Folder, Memory}
use Rattle.lru_shard_files.specs.declared.loading.ShardLoad.{ShardLoad}
use Rattle.lru_shard_files.specs.declared.loading.ShardLoad.TheVariants as load
use Rattle.lru_shard_files.specs.Loading.{LoadTurn, Missing, Unread, Given}

-- what a turn answers
abbrev pub outcome_of : {E : Type 0} → ℕ → LoadTurn E → Result ShardLoad (ShardLoadFailure E)
outcome_of shard Missing = Ok load.Missing
outcome_of shard (Unread failure) = Err failure
outcome_of shard (Given bytes (Ok done)) = Ok load.Loaded
outcome_of shard (Given bytes (Err error)) = Err (failure.Deserialize shard error)

-- only the device or memory keeps a file back
abbrev pub IsReadFault : Type 0 → FileReadError → Type 0
IsReadFault rose (Folder fault) = (fault ≢ NotFound) × (fault ≡ Io → rose)
IsReadFault rose Memory = Unit {0}

-- a fault of the folder
abbrev pub IfFolder : FileReadError → Type 0 → Type 0
IfFolder (Folder fault) P = P
IfFolder Memory P = Unit {0}

-- the device failed
abbrev pub IsReadDeviceFault : FileReadError → Type 0
IsReadDeviceFault (Folder fault) = fault ≡ Io
IsReadDeviceFault Memory = ⊥
