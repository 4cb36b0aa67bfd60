use Rattle.std.proofs.Common.{◌≤◌}
use Rattle.trace_player_inside.proofs.future.most_hits.Given as goal

abbrev pub invariant-loop-place : goal.invariant-loop-place
invariant-loop-place l = l.hits ≤ l.place-counter
