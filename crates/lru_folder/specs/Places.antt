-- The folders that were made, the folder that a path lies in, and the names in a folder.
use Rattle.std.specs.Prelude.{◌≡◌, ◌⊎◌, ◌↔◌, ◌==◌, ◌||◌, ◌&&◌, ◌-◌, ℕ, Bool, not, IsTrue, List, [], ◌∷◌, ◌++◌, length, take, drop, codes, nat_eq, nat_lt, Option, Some, None, if◌then◌else◌, filter, map, count_by, replicate}
use Rattle.std.specs.Str.{bytes_eq, is_utf8}
use Rattle.std.specs.List.{before_last, filter_map, starts_with}
use Rattle.std.specs.Ordering.{nat_cmp}
use Rattle.std.specs.Cmp.Lexicographic.{slice_cmp}
use Rattle.std.specs.FinSet.{FinSet, contains}
use Rattle.std.specs.FinMap.{keys}
use Rattle.lru_folder.specs.Names.{has_slash, is_closed, path_text}
use Rattle.lru_folder.specs.Files.{Files}

-- the texts of the folders that were made
abbrev pub Folders : Type 0
Folders = FinSet (slice_cmp nat_cmp)

-- a folder's text without the slash at its end, but for `/` itself
abbrev pub without_last_slash : List ℕ → List ℕ
without_last_slash dir = if nat_lt 1 (length dir) && is_closed dir then take (length dir - 1) dir else dir

-- whether a folder is there: the empty one and `/` always are
abbrev pub is_there : Folders → List ℕ → Bool
is_there folders dir = length (without_last_slash dir) == 0 || bytes_eq (without_last_slash dir) (codes "/") || contains folders (without_last_slash dir)

-- the folder of a path: the text before its last slash, empty where there is none
abbrev pub folder_of : List ℕ → List ℕ
folder_of path = before_last (λ byte. byte == 47) path

-- a folder or one of its parents, the texts before each slash
abbrev pub IsOneOf : List ℕ → List ℕ → Type 0
IsOneOf dir parent = (parent ≡ without_last_slash dir) ⊎ ((rest : List ℕ) × (without_last_slash dir ≡ parent ++ 47 ∷ rest))

-- the folder and its parents were made, and no other
abbrev pub MakesAll : List ℕ → Folders → Folders → Type 0
MakesAll dir old new = (d : List ℕ) → IsTrue (contains new d) ↔ (IsTrue (contains old d) ⊎ IsOneOf dir d)

-- some of them were
pub record MakesSome (dir : List ℕ) (old new : Folders) : Type 0 where
  pub stays : (d : List ℕ) → IsTrue (contains old d) → IsTrue (contains new d)
  pub only : (d : List ℕ) → IsTrue (contains new d) → IsTrue (contains old d) ⊎ IsOneOf dir d

-- whether a folder can be listed: the empty text is refused, as in Rust
abbrev pub can_list : Folders → List ℕ → Bool
can_list folders dir = not (length dir == 0) && is_there folders dir

-- the name behind this front of a path, where it is one: not empty and without a slash
abbrev pub name_after : List ℕ → List ℕ → Option (List ℕ)
name_after front path =
    let name = drop (length front) path in
    if starts_with nat_eq path front && not (length name == 0) && not (has_slash name) then Some name else None

-- the name of a file of the folder, where the path is one
abbrev pub name_in : List ℕ → List ℕ → Option (List ℕ)
name_in dir path = name_after (path_text dir []) path

-- the names of a folder's files, in byte order
abbrev pub names_in : List ℕ → Files → List (List ℕ)
names_in dir files = filter_map (name_in dir) (keys files)

-- what is listed: the names that are UTF-8, and then `None` for each that is not
abbrev pub listing : List ℕ → Files → List (Option (List ℕ))
listing dir files =
    let names = names_in dir files in
    map Some (filter is_utf8 names) ++ replicate (count_by (λ name. not (is_utf8 name)) names) None
