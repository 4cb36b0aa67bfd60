use Rattle.std.proofs.Common.{◌≡◌, ◌+◌, ◌-◌, length, drop}
use Rattle.trace_player_inside.specs.Representation.Windows.{oldest}
use Rattle.trace_player_inside.proofs.one_pass.past_oldest.Given as goal

-- from where it stands the place is the same
abbrev pub invariant-loop-start : goal.invariant-loop-start
invariant-loop-start l = l.start + oldest (drop l.start l.is_last) ≡ l.fn.start + oldest (drop l.fn.start l.fn.is_last)

abbrev pub decreases-loop-start : goal.decreases-loop-start
decreases-loop-start l = length l.is_last - l.start
