use Rattle.std.proofs.Common.{◌≤◌, ◌-◌}
use Rattle.lru_index.proofs.cells.shift_for.Given as goal

abbrev pub invariant-loop-shift : goal.invariant-loop-shift
invariant-loop-shift l = (33 ≤ l.shift) × (l.shift ≤ l.fn.most)

abbrev pub decreases-loop-shift : goal.decreases-loop-shift
decreases-loop-shift l = l.shift - 33
