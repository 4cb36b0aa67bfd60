use Rattle.std.proofs.Common.{subst}
use Rattle.lru_shared_cache.specs.Shards.{MayDo}
use Rattle.lru_shared_deadlines.specs.Calls.{ShardOf, Lends}
use Rattle.lru_shared_deadlines.proofs.shared.SharedDeadlineCache.get_with.Goals as goal

pub returns : goal.returns
returns g c =
    subst (λ m. MayDo {S = ShardOf g.row.K.Denot g.row.V.Denot g.row.S.Denot} (λ before after. Lends g.Q.Query.stands_for (λ lent w answer left. (g.F.FnOnce).post c.args.show (lent, (w, tt)) (answer, (left, tt))) m before c.args.query c.lend.result after)) c.at-moment.ensures c.lend.ensures.acts
