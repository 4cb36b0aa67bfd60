use Rattle.std.proofs.Common.{subst}
use Rattle.lru_shared_cache.specs.Counting.{ClearsShard}
use Rattle.lru_shared_deadlines.proofs.calls.clear.Goals as goal

pub returns-clause-acts : goal.returns-clause-acts
returns-clause-acts g c =
    g.T.Shards.does_more _ _ (λ a b acts. subst (λ y. ClearsShard (λ p e q. goal.F-step g p e tt q) c.args.visit a y) acts.leaves (subst (λ x. ClearsShard (λ p e q. goal.F-step g p e tt q) c.args.visit x acts.left.now) acts.shows acts.called))
    c.args.shards.now c.on.new.self c.args.shard c.on.ensures.acts
