use Rattle.std.proofs.Common.{◌≡◌, vec_len}
use Rattle.trace_player_inside.proofs.made.keys_of.Given as goal

abbrev pub invariant-loop-place : goal.invariant-loop-place
invariant-loop-place l = vec_len l.keys ≡ l.place
