-- What a cleanup of temp files does.
use Rattle.std.specs.Prelude.{◌≡◌, ◌≢◌, ◌⊎◌, ◌<◌, ℕ, Bool, List, [], ◌∷◌, ◌++◌, map, filter, count_by, replicate, All, IsTrue, not, Option, None, option_map, Result, is_ok, IfOk, MatchResult}
use Rattle.std.specs.List.{filter_map}
use Rattle.std.specs.Result.{result_err}
use Rattle.std.specs.Str.{is_utf8}
use Rattle.std.specs.FinMap.{get}
use Rattle.lru_folder.specs.declared.folder_call.FolderCall.TheVariants as call
use Rattle.lru_folder.specs.declared.fault.FolderFault.{FolderFault}
use Rattle.lru_folder.specs.declared.fault.FolderFault.TheVariants.{NotFound, Io}
use Rattle.lru_folder.specs.declared.reports.TempFileCleanupReport.{TempFileCleanupReport}
use Rattle.lru_folder.specs.Names.{is_temp_name, path_text}
use Rattle.lru_folder.specs.Files.{Files}
use Rattle.lru_folder.specs.Folder.{HasCause, InOrder}
use Rattle.lru_folder.specs.Meaning.{Meaning}
use Rattle.lru_folder.specs.Places.{can_list, names_in}
use Rattle.lru_folder.specs.Sparing.{IsAsItWasBut, SparesAllBut}
use Rattle.lru_folder.specs.Blames.{Blame, blame_of, ReadDir, ReadDirEntry, Remove}

-- the paths of a folder's temp files, in byte order of their names
abbrev pub temp_paths : List ℕ → List ℕ → Files → List (List ℕ)
temp_paths dir file_name files = map (path_text dir) (filter (is_temp_name file_name) (filter is_utf8 (names_in dir files)))

-- how many of a folder's names are no text
abbrev pub unreadable_count : List ℕ → Files → ℕ
unreadable_count dir files = count_by (λ name. not (is_utf8 name)) (names_in dir files)

-- a temp file that was to be removed, and what the folder answered
pub record Removal : Type 0 where
  pub path : List ℕ
  pub answer : Result (Unit {0}) FolderFault

abbrev pub is_removed : Removal → Bool
is_removed removal = is_ok removal.answer

abbrev pub removal_blame : Removal → Option Blame
removal_blame removal = option_map (λ cause. record { call = Remove; path = removal.path; cause = cause }) (result_err removal.answer)

-- a removed path is gone, and only the device or memory keeps one back
abbrev pub IsSettled : Type 0 → Files → Removal → Type 0
IsSettled rose new removal = MatchResult removal.answer (λ _. get new removal.path ≡ None) (λ cause. (cause ≢ NotFound) × (cause ≡ Io → rose))

-- Each of these paths was tried, in order, and no other has changed. `rose`: the folder has failed more often than before.
pub record RemovesEach (paths : List (List ℕ)) (rose : Type 0) (old new : Files) (removals : List Removal) : Type 0 where
  pub tried : map (λ (removal : Removal). removal.path) removals ≡ paths
  pub settled : All (IsSettled rose new) removals
  pub others : IsAsItWasBut paths old new

-- A removal, as the folder answered it.
pub record RemovesOne {F : Type 0} (m : Meaning F) (number : ℕ) (removal : Removal) (old new : F) : Type 0 where
  pub done : IfOk removal.answer (λ _. get (m.files new) removal.path ≡ None)
  pub cause : HasCause (m.faults old) (m.faults new) removal.answer
  pub called : m.last_call new ≡ call.Remove
  -- no other path changes at any moment
  pub spares : SparesAllBut m (removal.path ∷ []) old new
  pub kept : m.keeps new

-- The temp files were tried one after another, in byte order of their names, and the report says how that went. Then it
-- has a failure for each name that is no text.
pub record RemovesTemps {F : Type 0} (m : Meaning F) (dir file_name : List ℕ) (old new : F) (report : TempFileCleanupReport) : Type 0 where
  pub removals : List Removal
  pub each : RemovesEach (temp_paths dir file_name (m.files old)) (m.faults old < m.faults new) (m.files old) (m.files new) removals
  pub in_order : InOrder (RemovesOne m) 0 removals old new
  pub removed : report.removed_files ≡ count_by is_removed removals
  pub blamed : map blame_of report.failures.items
      ≡ filter_map removal_blame removals ++ replicate (unreadable_count dir (m.files old)) (record { call = ReadDirEntry; path = dir; cause = Io })

-- The folder is not there, so there is nothing to report,
pub record FindsNoFolder {F : Type 0} (m : Meaning F) (dir : List ℕ) (old new : F) (report : TempFileCleanupReport) : Type 0 where
  pub absent : ¬ IsTrue (can_list (m.folders old) dir)
  pub same : m.files new ≡ m.files old
  pub quiet : m.faults new ≡ m.faults old
  pub removed : report.removed_files ≡ 0
  pub blamed : report.failures.items ≡ []

-- or the device kept it from being listed,
pub record FailsToList {F : Type 0} (m : Meaning F) (dir : List ℕ) (old new : F) (report : TempFileCleanupReport) : Type 0 where
  pub failed : m.faults old < m.faults new
  pub called : m.last_call new ≡ call.List
  pub same : m.files new ≡ m.files old
  pub removed : report.removed_files ≡ 0
  pub blamed : map blame_of report.failures.items ≡ record { call = ReadDir; path = dir; cause = Io } ∷ []

-- or it was listed, and then its temp files were removed.
pub record ListsAndRemoves {F : Type 0} (m : Meaning F) (dir file_name : List ℕ) (old new : F) (report : TempFileCleanupReport) : Type 0 where
  pub there : IsTrue (can_list (m.folders old) dir)
  pub listed : F
  pub same : m.files listed ≡ m.files old
  pub quiet : m.faults listed ≡ m.faults old
  pub removes : RemovesTemps m dir file_name listed new report

abbrev pub IsCleanup : {F : Type 0} → Meaning F → List ℕ → List ℕ → F → F → TempFileCleanupReport → Type 0
IsCleanup m dir file_name old new report =
    FindsNoFolder m dir old new report ⊎ (FailsToList m dir old new report ⊎ ListsAndRemoves m dir file_name old new report)

-- the paths are there, each once
abbrev pub AreThere : Files → List (List ℕ) → Type 0
AreThere files [] = Unit {0}
AreThere files (path ∷ paths) = (get files path ≢ None) × (All (λ other. other ≢ path) paths × AreThere files paths)
