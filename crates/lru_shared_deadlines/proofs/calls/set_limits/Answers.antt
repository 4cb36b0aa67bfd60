use Rattle.std.proofs.Common.{subst}
use Rattle.lru_shared_cache.specs.Counting.{LimitsShard}
use Rattle.lru_shared_deadlines.proofs.calls.set_limits.Goals as goal

pub returns-clause-acts : goal.returns-clause-acts
returns-clause-acts g c =
    g.T.Shards.does_more _ _ (λ a b acts. subst (λ y. LimitsShard (λ p e q. goal.F-step g p e tt q) c.args.visit c.args.limits.weight c.args.limits.entries a y) acts.leaves (subst (λ x. LimitsShard (λ p e q. goal.F-step g p e tt q) c.args.visit c.args.limits.weight c.args.limits.entries x acts.left.now) acts.shows acts.called))
    c.args.shards.now c.on.new.self c.args.shard c.on.ensures.acts
