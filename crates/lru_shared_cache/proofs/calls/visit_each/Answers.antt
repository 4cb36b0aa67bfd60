use Rattle.std.proofs.Common.{subst}
use denote.Param.Always.{always_mut}
use Rattle.lru_shared_cache.specs.Calls.{VisitsEachTo}
use Rattle.lru_shared_cache.proofs.calls.visit_each.Goals as goal

pub returns-clause-visits : goal.returns-clause-visits
returns-clause-visits g c =
    g.T.Shards.sees_more _ _ (λ a looks. subst (λ x. VisitsEachTo (λ p y q. goal.F-step g p y tt q) c.args.visit (g.X.Kept.inside x).cache.entries c.look.result) looks.shows looks.called.0) c.args.shards.now c.args.shard c.look.ensures

pub returns-clause-again : goal.returns-clause-again
returns-clause-again g c = g.T.Shards.sees_any (always_mut g.F.FnMut c.look.result) c.args.shards.now c.args.shard (g.T.Shards.sees_more _ _ (λ a looks. looks.called.1) c.args.shards.now c.args.shard c.look.ensures)
