use Rattle.std.proofs.Common.{arith, ap}
use Rattle.trace_player_inside.specs.declared.player.Tally.{Tally}
use Rattle.trace_player_inside.proofs.Played.{hits_within}
use Rattle.trace_player_inside.proofs.policies.hits_of_lru.Goals as goal

pub returns-in-Ok-clause-within : goal.returns-in-Ok-clause-within
returns-in-Ok-clause-within c = omega (arith, hits_within c.args.limit c.args.requests.now, ap (λ (t : Tally). t.hits) c.in-Ok.ensures.played)
