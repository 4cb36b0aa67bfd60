-- What a folder of some type means.
use Rattle.std.specs.Prelude.{◌≡◌, ◌≤◌, ℕ, List}
use Rattle.std.specs.FinMap as map
use Rattle.std.specs.FinSet as set
use Rattle.lru_folder.specs.declared.folder_call.FolderCall.{FolderCall}
use Rattle.lru_folder.specs.declared.folder_call.FolderCall.TheVariants.{Make}
use Rattle.lru_folder.specs.Files.{Files}
use Rattle.lru_folder.specs.Places.{Folders}
use Rattle.lru_folder.specs.Spread.{IsSpread}

-- Its files and folders, its moments, what a stop and what a loss of power since one of them could have left, which paths
-- are loose, how often it has failed, the call that was made last, and whether it keeps this meaning.
pub record Meaning (F : Type 0) : Type 1 where
  pub files : F → Files
  pub folders : F → Folders
  pub clock : F → ℕ
  pub stopped_since : F → ℕ → Files → Type 0
  pub lost_since : F → ℕ → Files → Type 0
  pub loose : F → List ℕ → Type 0
  pub faults : F → ℕ
  pub last_call : F → FolderCall
  pub keeps : F → Type 0
  -- What is there now is among what a stop now could leave,
  pub counts_now : (folder : F) (t : ℕ) → keeps folder → t ≤ clock folder → stopped_since folder t (files folder)
  -- and since this moment there is nothing else.
  pub only_now : (folder : F) (m : Files) → keeps folder → stopped_since folder (clock folder) m → m ≡ files folder
  -- A loss of power since any moment could have left what is there now, with any bytes at its loose paths.
  pub counts_lost : (folder : F) (t : ℕ) (m : Files) → keeps folder → t ≤ clock folder → IsSpread (loose folder) (files folder) m → lost_since folder t m

-- of a folder of which nothing is known: it never keeps its meaning
abbrev pub without_meaning : {F : Type 0} → Meaning F
without_meaning = record {
  files = λ _. map.empty;
  folders = λ _. set.empty;
  clock = λ _. 0;
  stopped_since = λ _ _ _. ⊥;
  lost_since = λ _ _ _. ⊥;
  loose = λ _ _. ⊥;
  faults = λ _. 0;
  last_call = λ _. Make;
  keeps = λ _. ⊥;
  counts_now = λ _ _ broken _. absurd broken;
  only_now = λ _ _ broken _. absurd broken;
  counts_lost = λ _ _ _ broken _ _. absurd broken;
}
