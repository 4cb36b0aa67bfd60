-- What a save of one file may leave, and why it may fail.
use Rattle.std.specs.Prelude.{◌≡◌, ◌≢◌, ◌⊎◌, ◌<◌, ◌≤◌, ℕ, Bool, IsTrue, List, take, Some, None, string_bytes}
use Rattle.std.specs.FinMap.{get}
use Rattle.lru_folder.specs.declared.fault.FolderFault.{FolderFault}
use Rattle.lru_folder.specs.declared.fault.FolderFault.TheVariants as fault
use Rattle.lru_folder.specs.declared.errors.ShardFileError.{ShardFileError}
use Rattle.lru_folder.specs.declared.errors.ShardFileError.TheVariants.{Create, Write, Flush, Sync, Open, Read, ReadDir, ReadDirEntry, Remove, Rename}
use Rattle.lru_folder.specs.Files.{Files}
use Rattle.lru_folder.specs.Folder.{LeavesOnly}
use Rattle.lru_folder.specs.Losses.{LosesOnly, loosened}
use Rattle.lru_folder.specs.Meaning.{Meaning}

-- a temporary file is as it was, or is gone, or has a front of these bytes
abbrev pub IsRemnant : List ℕ → List ℕ → Files → Files → Type 0
IsRemnant temp bytes old m = (get m temp ≡ get old temp) ⊎ ((get m temp ≡ None) ⊎ ((n : ℕ) × (get m temp ≡ Some (take n bytes))))

-- The file is as it was or has these bytes, the temporary one has none but a front of them, and no other path has changed.
pub record IsOldOrNew (temp path bytes : List ℕ) (old m : Files) : Type 0 where
  pub file : (get m path ≡ get old path) ⊎ (get m path ≡ Some bytes)
  pub remnant : IsRemnant temp bytes old m
  pub others : (q : List ℕ) → q ≢ path → q ≢ temp → get m q ≡ get old q

-- The file is as it was or has these bytes, and no other path has changed but the temporary one, which may hold anything.
pub record IsOldOrWhole (temp path bytes : List ℕ) (old m : Files) : Type 0 where
  pub file : (get m path ≡ get old path) ⊎ (get m path ≡ Some bytes)
  pub others : (q : List ℕ) → q ≢ path → q ≢ temp → get m q ≡ get old q

-- What is safe at every moment of a save of one file.
pub record SparesFile {F : Type 0} (m : Meaning F) (temp path bytes : List ℕ) (old new : F) : Type 0 where
  -- a stop leaves the file as it was, or with these bytes,
  pub any_moment : LeavesOnly m (IsOldOrNew temp path bytes (m.files old)) old new
  -- and a loss of power as a loss at the start could have left it, or with these bytes
  pub any_loss : LosesOnly m (IsOldOrWhole temp path bytes) old new
  -- the temporary file alone becomes loose
  pub loosens : (q : List ℕ) → m.loose new q → loosened temp (m.loose old) q

-- The file has these bytes, the temporary one is gone, and no other path has changed.
pub record IsSaved (temp path bytes : List ℕ) (old new : Files) : Type 0 where
  pub file : get new path ≡ Some bytes
  pub gone : get new temp ≡ None
  pub others : (q : List ℕ) → q ≢ path → q ≢ temp → get new q ≡ get old q

-- the error of a step of the save, which names that step's paths
abbrev pub IsStepOf : List ℕ → List ℕ → ShardFileError → Type 0
IsStepOf temp path (Create at source) = string_bytes at ≡ temp
IsStepOf temp path (Write at source) = string_bytes at ≡ temp
IsStepOf temp path (Flush at source) = string_bytes at ≡ temp
IsStepOf temp path (Sync at source) = string_bytes at ≡ temp
IsStepOf temp path (Rename from to source) = (string_bytes from ≡ temp) × (string_bytes to ≡ path)
IsStepOf temp path (Open at source) = ⊥
IsStepOf temp path (Read at source) = ⊥
IsStepOf temp path (ReadDir at source) = ⊥
IsStepOf temp path (ReadDirEntry at source) = ⊥
IsStepOf temp path (Remove at source) = ⊥

-- Why a save failed, other than for memory: the device failed meanwhile, or the folder was not there. Where the device
-- failed, that is the reason.
pub record HasReason (is_there : Bool) (before now : ℕ) (source : FolderFault) : Type 0 where
  pub later : before ≤ now
  pub failed : source ≡ fault.Io → before < now
  pub told : before < now → source ≡ fault.Io
  pub missing : source ≡ fault.NotFound → ¬ IsTrue is_there
