use Rattle.std.proofs.Common.{◌≡◌, ◌++◌, Some, map, string_bytes}
use Rattle.std.specs.BTreeMap.{keys}
use Rattle.std.specs.List.{filter_map}
use Rattle.lru_folder.specs.Listings.{name_of}
use Rattle.lru_folder.specs.Places.{name_after}
use Rattle.lru_memory_folder.proofs.held.names_of.Given as goal

-- the names so far, and those that are left
abbrev pub invariant-loop-path : goal.invariant-loop-path
invariant-loop-path l =
    map name_of l.listed.items ++ map Some (filter_map (name_after (string_bytes l.front)) (map string_bytes l.path-iterator))
    ≡ map Some (filter_map (name_after (string_bytes l.front)) (map string_bytes (keys l.held)))
