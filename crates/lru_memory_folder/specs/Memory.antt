-- A folder in memory: what it began with, its calls since, and which of the next ones are made to fail.
use Rattle.std.specs.Prelude.{ℕ, Bool, false, List, length, Option, Some, None}
use Rattle.std.specs.Str.{bytes_eq}
use Rattle.std.specs.FinMap.{from_entries}
use Rattle.std.specs.FinSet.{from_list}
use Rattle.lru_memory_folder.specs.declared.calls.Plan.{Plan}
use Rattle.lru_memory_folder.specs.Calls.{Noted, after, failures, StoppedSince}
use Rattle.lru_memory_folder.specs.Kept.{kept}
use Rattle.lru_memory_folder.specs.Losing.{loss_left, LostSince}
use Rattle.lru_folder.specs.Files.{Files}
use Rattle.lru_folder.specs.Losses.{Loss, at_opening}
use Rattle.lru_folder.specs.Folder.{Opened}
use Rattle.lru_folder.specs.Places.{Folders, without_last_slash}
use Rattle.lru_folder.specs.declared.folder_call.FolderCall.{FolderCall}

pub record Memory : Type 0 where
  pub begun : List (List ℕ × List ℕ)
  pub calls : List Noted
  pub made : List (List ℕ)
  pub opened : Opened
  pub plan : Plan
  pub last : FolderCall
  -- the folder that another saver has claimed
  pub elsewhere : Option (List ℕ)

-- whether another saver has claimed this folder
abbrev pub has_another : Option (List ℕ) → List ℕ → Bool
has_another None dir = false
has_another (Some claimed) dir = bytes_eq (without_last_slash claimed) (without_last_slash dir)

-- the files now: the calls done on what was there
abbrev pub files_of : Memory → Files
files_of m = after m.calls (from_entries m.begun)

abbrev pub folders_of : Memory → Folders
folders_of m = from_list m.made

-- the moment is the number of calls
abbrev pub clock_of : Memory → ℕ
clock_of m = length m.calls

abbrev pub stopped_since_of : Memory → ℕ → Files → Type 0
stopped_since_of m t = StoppedSince m.calls t (from_entries m.begun)

-- what the calls did to what a loss of power may leave
abbrev pub loss_now : Memory → Loss
loss_now m = loss_left m.calls (at_opening (from_entries m.begun))

-- what a loss may leave of the calls that it keeps
abbrev pub loss_kept : ℕ → Memory → Loss
loss_kept names m = loss_left (kept names m.calls) (at_opening (from_entries m.begun))

abbrev pub lost_since_of : Memory → ℕ → Files → Type 0
lost_since_of m t = LostSince m.calls t (at_opening (from_entries m.begun))

abbrev pub loose_of : Memory → List ℕ → Type 0
loose_of m = (loss_now m).loose

abbrev pub faults_of : Memory → ℕ
faults_of m = failures m.calls
