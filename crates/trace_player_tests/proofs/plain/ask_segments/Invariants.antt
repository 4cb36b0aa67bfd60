use Rattle.std.proofs.Common.{vec_len}
use Rattle.trace_player_tests.proofs.plain.ask_segments.Given as goal

abbrev pub decreases-loop-upper : goal.decreases-loop-upper
decreases-loop-upper l = vec_len l.upper
