use Rattle.std.proofs.Common.{◌≡◌, ℕ, ◌+◌, ◌%◌, ◌<◌, [], length, get_or}
use Rattle.lru_cores.specs.Representation.Units.{lists_of}
use Rattle.lru_cores.proofs.evictions.first_held.Given as goal

abbrev pub invariant-loop-steps : goal.invariant-loop-steps
invariant-loop-steps g l = (k : ℕ) → k < l.steps → get_or (lists_of l.units.items) ((l.from + k) % length (lists_of l.units.items)) [] ≡ []
