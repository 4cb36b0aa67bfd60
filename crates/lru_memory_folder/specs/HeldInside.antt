-- The files of a map from paths to bytes, as the program keeps them.
use Rattle.std.specs.Prelude.{ℕ, List, map, string_bytes, Vec, String}
use Rattle.std.specs.declared.alloc.Global.{Global}
use Rattle.std.specs.FinMap.{from_entries}
use Rattle.lru_folder.specs.Files.{Files}

-- a path and its bytes
abbrev pub entry_of : String Global × Vec ℕ Global → List ℕ × List ℕ
entry_of e = (string_bytes e.0, e.1.items)

abbrev pub entries_of : List (String Global × Vec ℕ Global) → List (List ℕ × List ℕ)
entries_of entries = map entry_of entries

abbrev pub files_in : List (String Global × Vec ℕ Global) → Files
files_in entries = from_entries (entries_of entries)
