use Rattle.std.proofs.Common.{◌≡◌, length}
use Rattle.trace_player_inside.specs.TraceLines.{from_word}
use Rattle.trace_player_inside.proofs.requests.skip_blanks.Given as goal

abbrev pub invariant-loop-byte : goal.invariant-loop-byte
invariant-loop-byte l = from_word l.rest ≡ from_word l.fn.text

abbrev pub decreases-loop-byte : goal.decreases-loop-byte
decreases-loop-byte l = length l.rest
