use Rattle.std.proofs.Common.{◌≡◌, length, vec_len}
use Rattle.trace_player_inside.proofs.future.next_uses.Given as goal

abbrev pub invariant-loop-place : goal.invariant-loop-place
invariant-loop-place l = vec_len l.next ≡ length l.requests
