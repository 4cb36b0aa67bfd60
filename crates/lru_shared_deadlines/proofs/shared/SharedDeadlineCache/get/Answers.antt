use Rattle.std.proofs.Common.{subst}
use Rattle.lru_shared_cache.specs.Shards.{MayDo}
use Rattle.lru_shared_deadlines.specs.Calls.{ShardOf, Gets}
use Rattle.lru_shared_deadlines.proofs.shared.SharedDeadlineCache.get.Goals as goal

pub returns : goal.returns
returns g c =
    subst (λ m. MayDo {S = ShardOf g.row.K.Denot g.row.V.Denot g.row.S.Denot} (λ before after. Gets g.Q.Query.stands_for g.V.Clone.is_clone m before c.args.query c.get.result after)) c.at-moment.ensures c.get.ensures.acts
