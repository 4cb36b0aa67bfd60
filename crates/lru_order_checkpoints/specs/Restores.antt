-- What a save of an order takes, and what a load puts back.
use Rattle.std.specs.Prelude.{◌≡◌, ◌<◌, ◌^◌, ℕ, List, Option, None, Some, Result, Ok, Err}
use Rattle.lru_folder.specs.Files.{Files}
use Rattle.lru_frames.specs.declared.row.Row.{Row}
use Rattle.lru_shard.specs.declared.unit.Refused as row
use Rattle.lru_cores.specs.Core.{Core, list_at}
use Rattle.lru_generations.specs.declared.errors.CheckpointError.{CheckpointError}
use Rattle.lru_generations.specs.Checkpoints.{Shards, HasCheckpoint}
use Rattle.lru_generations.specs.Loads.{IsFault}
use Rattle.lru_generations.specs.declared.newest_loading.Checkpoint.{Checkpoint}
use Rattle.lru_generations.specs.Loaded.{IsLoaded, IsReadable, IsSameCheckpoint, number_of}
use Rattle.lru_order_checkpoints.specs.Captures.{AreCopies, PutsShards, MayPutShards}
use Rattle.lru_order_checkpoints.specs.declared.restored.RestoredOrder.{RestoredOrder}
use Rattle.lru_order_checkpoints.specs.declared.restored.OrderRestoreError.{OrderRestoreError}
use Rattle.lru_order_checkpoints.specs.declared.restored.OrderRestoreError.TheVariants.{Unloaded, Refused}

-- what a key is, and when two are the same
abbrev pub IsWord : ℕ → Type 0
IsWord n = n < 2 ^ 64

abbrev pub IsSameWord : ℕ → ℕ → Type 0
IsSameWord m n = m ≡ n

-- so it is of the error where none was loaded
abbrev pub IfUnloaded : {V : Type 0} → (CheckpointError → Type 0) → OrderRestoreError V → Type 0
IfUnloaded P (Unloaded error) = P error
IfUnloaded P (Refused refused) = Unit {0}

-- rows are the copies of those of a shard of a core
abbrev pub IsCopyOf : {V : Type 0} → (V → V → Type 0) → Core (ℕ × V) → ℕ → List (Row ℕ V) → Type 0
IsCopyOf IsClone core shard rows = AreCopies IsClone (list_at core shard) rows

module _ {V : Type 0} (key_bytes : ℕ → List ℕ) (IsKey : ℕ → Type 0) (IsSameKey : ℕ → ℕ → Type 0) (data_bytes : V → List ℕ) (IsData : V → Type 0) (IsSameData : V → V → Type 0)
    (dir file_name : List ℕ) (files : Files) where
  -- This is the checkpoint of the highest generation that can be read, with the rows that it was saved with, or none can be read.
  pub record IsFound (newest : Option (Checkpoint ℕ V)) : Type 0 where
    pub loaded : IsLoaded key_bytes IsKey data_bytes IsData dir file_name files newest
    pub written : (generation : ℕ) (shards : Shards ℕ V) → HasCheckpoint key_bytes IsKey data_bytes IsData dir file_name generation shards files
        → ((higher : ℕ) → generation < higher → ¬ IsReadable key_bytes IsKey data_bytes IsData dir file_name files higher) → IsSameCheckpoint IsSameKey IsSameData generation shards newest

  -- the rows of a checkpoint are put, or none is where there is no checkpoint
  abbrev pub PutsNewest : Option (Checkpoint ℕ V) → Core (ℕ × V) → Result (Unit {0}) (row.Refused (ℕ × V)) → Core (ℕ × V) → Type 0
  PutsNewest None old answer new = (answer ≡ Ok tt) × (new ≡ old)
  PutsNewest (Some checkpoint) old answer new = PutsShards old checkpoint.shards.items answer new

  -- the newest checkpoint is put back, or nothing was loaded
  abbrev pub Restores : Core (ℕ × V) → Result RestoredOrder (OrderRestoreError V) → Core (ℕ × V) → Type 0
  Restores old (Ok restored) new = (newest : Option (Checkpoint ℕ V)) × (IsFound newest × ((restored.generation ≡ number_of newest) × PutsNewest newest old (Ok tt) new))
  Restores old (Err (Unloaded error)) new = IsFault error × (new ≡ old)
  Restores old (Err (Refused refused)) new = (newest : Option (Checkpoint ℕ V)) × (IsFound newest × PutsNewest newest old (Err refused) new)

  -- the same of an order behind the locks of n shards, each row at a moment of its own
  abbrev pub MayPutNewest : ℕ → Option (Checkpoint ℕ V) → Result (Unit {0}) (row.Refused (ℕ × V)) → Type 0
  MayPutNewest n None answer = answer ≡ Ok tt
  MayPutNewest n (Some checkpoint) answer = MayPutShards n checkpoint.shards.items answer

  abbrev pub MayRestore : ℕ → Result RestoredOrder (OrderRestoreError V) → Type 0
  MayRestore n (Ok restored) = (newest : Option (Checkpoint ℕ V)) × (IsFound newest × ((restored.generation ≡ number_of newest) × MayPutNewest n newest (Ok tt)))
  MayRestore n (Err (Unloaded error)) = IsFault error
  MayRestore n (Err (Refused refused)) = (newest : Option (Checkpoint ℕ V)) × (IsFound newest × MayPutNewest n newest (Err refused))
