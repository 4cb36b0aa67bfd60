-- The maps that a loss of power may make of one.
use Rattle.std.specs.Prelude.{◌≡◌, ℕ, List, is_some}
use Rattle.std.specs.FinMap.{get}
use Rattle.lru_folder.specs.Files.{Files}

-- The spread of a map: the maps that differ from it at most in the bytes of loose paths, those that were written and not
-- synced since.
pub record IsSpread (loose : List ℕ → Type 0) (files m : Files) : Type 0 where
  pub there : (q : List ℕ) → is_some (get m q) ≡ is_some (get files q)
  pub others : (q : List ℕ) → ¬ loose q → get m q ≡ get files q
