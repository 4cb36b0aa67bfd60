use Rattle.std.proofs.Common.{◌≤◌}
use Rattle.trace_player_inside.proofs.future.bound_on_hits.Given as goal

abbrev pub invariant-loop-cost : goal.invariant-loop-cost
invariant-loop-cost l = l.hits ≤ l.cost-index
