use Rattle.std.proofs.Common.{subst}
use Rattle.lru_shared_cache.specs.Shards.{MayDo}
use Rattle.lru_shared_deadlines.specs.Calls.{ShardOf, PutsIn}
use Rattle.lru_shared_deadlines.proofs.shared.SharedDeadlineCache.put.Goals as goal

pub returns : goal.returns
returns g c =
    subst (λ m. MayDo {S = ShardOf g.row.K.Denot g.row.V.Denot g.row.S.Denot} (λ before after. PutsIn (λ p x q. goal.F-step g p x tt q) c.args.visit g.K.PartialEq.eq m before c.args.key c.args.value c.args.weight c.put.result after)) c.at-moment.ensures c.put.ensures.acts
