-- Calls that change some paths alone.
use Rattle.std.specs.Prelude.{◌≡◌, ◌⊎◌, ◌<◌, ◌≤◌, ℕ, List, Some}
use Rattle.std.specs.FinMap.{get}
use Rattle.lru_folder.specs.declared.fault.FolderFault.{FolderFault}
use Rattle.lru_folder.specs.declared.fault.FolderFault.TheVariants.{Io, NotFound}
use Rattle.lru_folder.specs.Files.{Files}
use Rattle.lru_folder.specs.Folder.{LeavesOnly}
use Rattle.lru_folder.specs.Losses.{IsSpread, LosesOnly, firmed}
use Rattle.lru_folder.specs.Meaning.{Meaning}

-- each path that is none of these is as it was
abbrev pub IsSameBut : (List ℕ → Type 0) → Files → Files → Type 0
IsSameBut P old m = (q : List ℕ) → ¬ P q → get m q ≡ get old q

-- At every moment of the calls each other path is as it was at their start.
pub record TouchesOnly {F : Type 0} (meaning : Meaning F) (P : List ℕ → Type 0) (old new : F) : Type 0 where
  -- so a stop at any moment leaves it,
  pub any_moment : LeavesOnly meaning (IsSameBut P (meaning.files old)) old new
  -- and a loss of power leaves it as a loss at the start could have left it
  pub any_loss : LosesOnly meaning (IsSameBut P) old new
  -- no other path becomes loose
  pub loosens : (q : List ℕ) → meaning.loose new q → P q ⊎ meaning.loose old q

-- no path is touched
abbrev pub TouchesNothing : {F : Type 0} → Meaning F → F → F → Type 0
TouchesNothing meaning old new = TouchesOnly meaning (λ q. ⊥) old new

-- A file was written: it has these bytes, and whatever a loss of power leaves now has them too, and each name that
-- was given before.
pub record IsWritten {F : Type 0} (meaning : Meaning F) (path bytes : List ℕ) (old new : F) : Type 0 where
  pub file : get (meaning.files new) path ≡ Some bytes
  pub only : (m : Files) → meaning.lost_since new (meaning.clock new) m → IsSpread (firmed path (meaning.loose old)) (meaning.files new) m
  pub firm : (q : List ℕ) → meaning.loose new q → firmed path (meaning.loose old) q

-- Why a call failed, other than for memory: the device failed meanwhile, or something was missing. Where the device
-- failed, that is the reason.
pub record HasReason (missing : Type 0) (before now : ℕ) (source : FolderFault) : Type 0 where
  pub later : before ≤ now
  pub failed : source ≡ Io → before < now
  pub told : before < now → source ≡ Io
  pub not_found : source ≡ NotFound → missing
