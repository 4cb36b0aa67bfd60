use Rattle.std.proofs.Common.{◌≡◌, ℕ, ◌+◌, ◌%◌, ◌<◌, [], length, get_or}
use Rattle.lru_cores.specs.Representation.Units.{lists_of}
use Rattle.lru_cores.proofs.evictions.next_held.Given as goal

abbrev pub invariant-loop-steps : goal.invariant-loop-steps
invariant-loop-steps g l = (j : ℕ) → 0 < j → j < l.steps → get_or (lists_of l.units.items) ((l.from + j) % length (lists_of l.units.items)) [] ≡ []
