use Rattle.std.proofs.Common.{◌≡◌, drop}
use Rattle.trace_player_inside.specs.Traces.{played, played_on}
use Rattle.trace_player_inside.proofs.Refused.{Fits}
use Rattle.trace_player_inside.proofs.player.play.Given as goal

-- what is left of the trace, played from here on, gives the tally of all of it, and the cache keeps to its limit
abbrev pub invariant-loop-request : goal.invariant-loop-request
invariant-loop-request l = record {
  played : played_on l.limit l.unit.rows l.tally (drop l.request-index l.requests) ≡ played l.fn.limit l.fn.requests;
  limit : l.limit ≡ l.fn.limit;
  fits : Fits l.limit l.unit.rows;
  cap : l.unit.cap ≡ 18446744073709551615;
}
