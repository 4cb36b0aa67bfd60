-- Why a call on checkpoints failed, where no file is blamed.
use Rattle.std.specs.Prelude.{◌≡◌, ℕ, List, IsTrue}
use Rattle.lru_folder.specs.Meaning.{Meaning}
use Rattle.lru_folder.specs.Places.{can_list}
use Rattle.lru_generations.specs.Touching.{HasReason}
use Rattle.lru_generations.specs.declared.errors.CheckpointFile.TheVariants as file
use Rattle.lru_generations.specs.declared.errors.CheckpointError.{CheckpointError}
use Rattle.lru_generations.specs.declared.errors.CheckpointError.TheVariants.{Memory, Folder, Missing, Damaged, Other, LastGeneration, InUse}
use Rattle.lru_generations.specs.Loads.{IsCallFault}

module _ {F : Type 0} (meaning : Meaning F) where
  -- memory was refused and the device did not fail, or the last call failed, for the device or for memory
  abbrev pub IsFailed : F → F → CheckpointError → Type 0
  IsFailed old new Memory = meaning.faults new ≡ meaning.faults old
  IsFailed old new (Folder at fault) = IsCallFault meaning old new fault
  IsFailed old new (Missing at) = ⊥
  IsFailed old new (Damaged at part) = ⊥
  IsFailed old new (Other at) = ⊥
  IsFailed old new LastGeneration = ⊥
  IsFailed old new InUse = ⊥

  -- so it is, or the names were not listed, since the folder is not there
  abbrev pub IsUnlisted : List ℕ → F → F → CheckpointError → Type 0
  IsUnlisted dir old new Memory = meaning.faults new ≡ meaning.faults old
  IsUnlisted dir old new (Folder at fault) = (at ≡ file.Names) × ((meaning.last_call new ≡ fault.call)
      × HasReason (¬ IsTrue (can_list (meaning.folders old) dir)) (meaning.faults old) (meaning.faults new) fault.source)
  IsUnlisted dir old new (Missing at) = ⊥
  IsUnlisted dir old new (Damaged at part) = ⊥
  IsUnlisted dir old new (Other at) = ⊥
  IsUnlisted dir old new LastGeneration = ⊥
  IsUnlisted dir old new InUse = ⊥
