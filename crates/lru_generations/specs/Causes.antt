-- Why a checkpoint was not saved.
use Rattle.std.specs.Prelude.{◌≡◌, ℕ, List, IsTrue}
use Rattle.lru_folder.specs.Meaning.{Meaning}
use Rattle.lru_folder.specs.Places.{folder_of, is_there}
use Rattle.lru_folder.specs.declared.folder_call.FolderCall.TheVariants.{Rename}
use Rattle.lru_generations.specs.Names.{frame_path, manifest_temp_path}
use Rattle.lru_generations.specs.Touching.{HasReason}
use Rattle.lru_generations.specs.declared.errors.CheckpointFile.{CheckpointFile}
use Rattle.lru_generations.specs.declared.errors.CheckpointFile.TheVariants.{Manifest, Shard, Names}
use Rattle.lru_generations.specs.declared.errors.CheckpointError.{CheckpointError}
use Rattle.lru_generations.specs.declared.errors.CheckpointError.TheVariants.{Memory, Folder, Missing, Damaged, Other, LastGeneration, InUse}

-- whether the folder that a call on a file needs is there
abbrev pub IsPlaceThere : {F : Type 0} → Meaning F → List ℕ → List ℕ → ℕ → F → CheckpointFile → Type 0
IsPlaceThere meaning dir file_name generation old Manifest = IsTrue (is_there (meaning.folders old) (folder_of (manifest_temp_path dir file_name generation)))
IsPlaceThere meaning dir file_name generation old (Shard shard) = IsTrue (is_there (meaning.folders old) (folder_of (frame_path dir file_name generation shard)))
IsPlaceThere meaning dir file_name generation old Names = IsTrue (is_there (meaning.folders old) dir)

-- Memory was refused and the device did not fail; or a call failed: it was the last one, and it failed for the device,
-- for memory, or since the folder is not there.
abbrev pub HasSaveReason : {F : Type 0} → Meaning F → List ℕ → List ℕ → ℕ → F → F → CheckpointError → Type 0
HasSaveReason meaning dir file_name generation old new Memory = meaning.faults new ≡ meaning.faults old
HasSaveReason meaning dir file_name generation old new (Folder file fault) = (meaning.last_call new ≡ fault.call)
    × HasReason (¬ IsPlaceThere meaning dir file_name generation old file) (meaning.faults old) (meaning.faults new) fault.source
HasSaveReason meaning dir file_name generation old new (Missing file) = ⊥
HasSaveReason meaning dir file_name generation old new (Damaged file part) = ⊥
HasSaveReason meaning dir file_name generation old new (Other file) = ⊥
HasSaveReason meaning dir file_name generation old new LastGeneration = ⊥
HasSaveReason meaning dir file_name generation old new InUse = ⊥

-- a renaming failed, which may have been done
abbrev pub IsUnnamed : CheckpointError → Type 0
IsUnnamed Memory = ⊥
IsUnnamed (Folder file fault) = fault.call ≡ Rename
IsUnnamed (Missing file) = ⊥
IsUnnamed (Damaged file part) = ⊥
IsUnnamed (Other file) = ⊥
IsUnnamed LastGeneration = ⊥
IsUnnamed InUse = ⊥

-- a call that failed is told of such a file
abbrev pub IsToldOf : (CheckpointFile → Type 0) → CheckpointError → Type 0
IsToldOf IsFile (Folder file fault) = IsFile file
IsToldOf IsFile Memory = Unit {0}
IsToldOf IsFile (Missing file) = ⊥
IsToldOf IsFile (Damaged file part) = ⊥
IsToldOf IsFile (Other file) = ⊥
IsToldOf IsFile LastGeneration = ⊥
IsToldOf IsFile InUse = ⊥
