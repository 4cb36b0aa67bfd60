-- Calls that take away some paths, and change nothing else.
use Rattle.std.specs.Prelude.{◌≡◌, ◌⊎◌, ℕ, List, Contains, None}
use Rattle.std.specs.FinMap.{get}
use Rattle.lru_folder.specs.Files.{Files}
use Rattle.lru_folder.specs.Folder.{LeavesOnly}
use Rattle.lru_folder.specs.Losses.{LosesOnly}
use Rattle.lru_folder.specs.Meaning.{Meaning}

-- each path is as it was, or is one of these and gone
abbrev pub IsAsItWasBut : List (List ℕ) → Files → Files → Type 0
IsAsItWasBut paths old m = (q : List ℕ) → (get m q ≡ get old q) ⊎ (Contains paths q × (get m q ≡ None))

-- At every moment of the calls each path is as it was at their start, or is one of these and gone.
pub record SparesAllBut {F : Type 0} (meaning : Meaning F) (paths : List (List ℕ)) (old new : F) : Type 0 where
  -- so a stop at any moment leaves it,
  pub any_moment : LeavesOnly meaning (IsAsItWasBut paths (meaning.files old)) old new
  -- and a loss of power leaves it as a loss at the start could have left it, or gone
  pub any_loss : LosesOnly meaning (IsAsItWasBut paths) old new
  -- no path becomes loose
  pub loosens : (q : List ℕ) → meaning.loose new q → meaning.loose old q
