-- The names in a folder, and what a sync of them leaves.
use Rattle.std.specs.Prelude.{◌≡◌, ℕ, List, false, is_some}
use Rattle.std.specs.FinMap.{get}
use Rattle.lru_folder.specs.Files.{Files}
use Rattle.lru_folder.specs.Meaning.{Meaning}
use Rattle.lru_folder.specs.Names.{has_slash, path_text}

-- the path of a name in this folder
abbrev pub IsIn : List ℕ → List ℕ → Type 0
IsIn dir q = (name : List ℕ) × ((has_slash name ≡ false) × (q ≡ path_text dir name))

-- a path that is there as in these files, with their bytes unless it is loose
abbrev pub IsNamed : (List ℕ → Type 0) → Files → Files → List ℕ → Type 0
IsNamed loose files m q = (is_some (get m q) ≡ is_some (get files q)) × (¬ loose q → get m q ≡ get files q)

-- all names in the folder are as in these files
abbrev pub HasNames : List ℕ → (List ℕ → Type 0) → Files → Files → Type 0
HasNames dir loose files m = (q : List ℕ) → IsIn dir q → IsNamed loose files m q

-- After a sync of the folder's names: of the maps that a loss of power could leave, those that have the names as they are now.
abbrev pub AreSynced : {F : Type 0} → Meaning F → List ℕ → F → F → Type 0
AreSynced meaning dir old new = (m : Files) → meaning.lost_since new (meaning.clock new) m
    → meaning.lost_since old (meaning.clock old) m × HasNames dir (meaning.loose old) (meaning.files old) m
