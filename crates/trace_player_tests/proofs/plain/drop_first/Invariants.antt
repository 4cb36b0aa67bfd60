use Rattle.std.proofs.Common.{vec_len}
use Rattle.trace_player_tests.proofs.plain.drop_first.Given as goal

abbrev pub decreases-loop-objects : goal.decreases-loop-objects
decreases-loop-objects l = vec_len l.objects
