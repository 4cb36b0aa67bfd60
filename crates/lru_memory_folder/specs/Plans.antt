-- Which calls of a folder in memory are made to fail, and what such a call does.
use Rattle.std.specs.Prelude.{◌≡◌, ◌⊎◌, ◌==◌, ℕ, suc, nat_le, List, take, Option, Some, None, MatchOption, Result, IsErrOf, if◌then◌else◌}
use Rattle.lru_memory_folder.specs.declared.calls.Plan.{Plan}
use Rattle.lru_memory_folder.specs.declared.calls.Plan.TheVariants.{Works, FailsAt, StopsAt}
use Rattle.lru_folder.specs.declared.fault.FolderFault.{FolderFault}
use Rattle.lru_folder.specs.declared.fault.FolderFault.TheVariants as fault
use Rattle.lru_folder.specs.Files.{Files, appended}
use Rattle.lru_folder.specs.Folder.{Opened, written_path}
use Rattle.lru_memory_folder.specs.Memory.{Memory, files_of, folders_of}

-- Of the i-th call from now, counted from 0: after how many bytes of a piece it is made to fail, if it is.
abbrev pub fate : Plan → ℕ → Option ℕ
fate Works i = None
fate (FailsAt n part) i = if i == n then Some part else None
fate (StopsAt n part) i = if nat_le n i then Some part else None

-- one call has gone by
abbrev pub MovesOn : Plan → Plan → Type 0
MovesOn old new = (i : ℕ) → fate new i ≡ fate old (suc i)

-- A call that was made to fail answers `Io` and has left this, or was refused the memory to be noted and did nothing.
pub record IsMadeToFail {T : Type 0} (left : Files) (old new : Memory) (result : Result T FolderFault) : Type 0 where
  pub answer : (IsErrOf result fault.Io × (files_of new ≡ left)) ⊎ (IsErrOf result fault.Memory × (files_of new ≡ files_of old))
  pub folders : folders_of new ≡ folders_of old

-- A call fails where that was planned, and only there. `front`: what it leaves then, after so many bytes.
pub record GoesAsPlanned {T : Type 0} (front : ℕ → Files → Files) (old new : Memory) (result : Result T FolderFault) : Type 0 where
  pub counted : MovesOn old.plan new.plan
  pub fails : MatchOption (fate old.plan 0) (¬ IsErrOf result fault.Io) (λ part. IsMadeToFail (front part (files_of old)) old new result)

-- a call that leaves nothing where it is made to fail
abbrev pub nothing : ℕ → Files → Files
nothing part m = m

-- of a write, a front of its piece
abbrev pub front_of : Opened → List ℕ → ℕ → Files → Files
front_of opened piece part = appended (written_path opened) (take part piece)
