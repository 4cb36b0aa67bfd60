use Rattle.std.proofs.Common.{◌≡◌, ◌≤◌}
use Rattle.std.specs.List.{All}
use Rattle.trace_player_inside.proofs.sampling.Sample.estimates.Given as goal

abbrev pub invariant-loop-part : goal.invariant-loop-part
invariant-loop-part l = record {
  requests : All (λ e. e.requests ≡ l.self.requests) l.estimates.items;
  error : All (λ e. e.error ≤ 10000) l.estimates.items;
}
