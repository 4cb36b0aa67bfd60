use Rattle.std.proofs.Common.{◌≤◌, take}
use Rattle.std.specs.List.{FoldsTo}
use Rattle.trace_player_inside.specs.Policies.{Counts}
use Rattle.trace_player_inside.proofs.asked.hits_in.Given as goal

abbrev pub invariant-loop-request : goal.invariant-loop-request
invariant-loop-request g l = record {
  within : l.hits ≤ l.request-index;
  finds : FoldsTo (Counts g.C.Asked.asks) (l.initial.cache, 0) (take l.request-index l.requests) (l.cache, l.hits);
}
