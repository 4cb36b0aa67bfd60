use Rattle.std.proofs.Common.{◌≡◌, ◌++◌, drop, length}
use Rattle.std.specs.Vec.Iter.{into_iter_items}
use Rattle.lru_tool_inside.proofs.arguments.behind_first.Given as goal

-- the words so far, and those that are left
abbrev pub invariant-rest : goal.invariant-rest
invariant-rest l = drop 1 (into_iter_items l.fn.arguments) ≡ l.words.items ++ into_iter_items l.rest

abbrev pub decreases-rest : goal.decreases-rest
decreases-rest l = length (into_iter_items l.rest)
