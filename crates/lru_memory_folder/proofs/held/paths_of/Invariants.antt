use Rattle.std.proofs.Common.{◌≡◌, ◌++◌, map, string_bytes}
use Rattle.std.specs.BTreeMap.{keys}
use Rattle.lru_memory_folder.proofs.held.paths_of.Given as goal

-- the paths so far, and those that are left
abbrev pub invariant-loop-path : goal.invariant-loop-path
invariant-loop-path l = map string_bytes l.paths.items ++ map string_bytes l.path-iterator ≡ map string_bytes (keys l.held)
