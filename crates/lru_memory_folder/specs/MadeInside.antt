-- The folders of a list, as the program keeps them.
use Rattle.std.specs.Prelude.{ℕ, List, map, Vec}
use Rattle.std.specs.declared.alloc.Global.{Global}
use Rattle.std.specs.FinSet.{from_list}
use Rattle.lru_folder.specs.Places.{Folders}

abbrev pub texts_of : List (Vec ℕ Global) → List (List ℕ)
texts_of made = map (λ text. text.items) made

abbrev pub folders_in : List (Vec ℕ Global) → Folders
folders_in made = from_list (texts_of made)
