use Rattle.std.proofs.Common.{◌≤◌, vec_len}
use Rattle.trace_player_inside.proofs.future.costs_of.Given as goal

abbrev pub invariant-loop-place : goal.invariant-loop-place
invariant-loop-place l = vec_len l.costs ≤ l.place
