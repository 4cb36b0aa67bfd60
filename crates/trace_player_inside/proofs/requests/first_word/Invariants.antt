use Rattle.std.proofs.Common.{◌≡◌, ◌≤◌, length}
use Rattle.trace_player_inside.specs.TraceLines.{from_blank}
use Rattle.trace_player_inside.proofs.requests.first_word.Given as goal

abbrev pub invariant-loop-byte : goal.invariant-loop-byte
invariant-loop-byte l = record {
  same : from_blank l.rest ≡ from_blank l.start;
  short : length l.rest ≤ length l.start;
}

abbrev pub decreases-loop-byte : goal.decreases-loop-byte
decreases-loop-byte l = length l.rest
