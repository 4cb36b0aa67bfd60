use Rattle.std.proofs.Common.{subst}
use denote.Param.Always.{always_mut}
use Rattle.lru_shared_cache.specs.Counting.{ClearsShardTo}
use Rattle.lru_shared_cache.proofs.calls.clear.Goals as goal

pub returns-clause-acts : goal.returns-clause-acts
returns-clause-acts g c =
    g.T.Shards.does_more _ _ (λ a b acts. subst (λ y. ClearsShardTo (λ p e q. goal.F-step g p e tt q) c.args.visit (g.X.Kept.inside a) c.on.result (g.X.Kept.inside y)) acts.leaves
    (subst (λ x. ClearsShardTo (λ p e q. goal.F-step g p e tt q) c.args.visit (g.X.Kept.inside x) c.on.result (g.X.Kept.inside acts.left.now)) acts.shows acts.called.0))
    c.args.shards.now c.on.new.self c.args.shard c.on.ensures.acts

pub returns-clause-again : goal.returns-clause-again
returns-clause-again g c =
    g.T.Shards.does_any (always_mut g.F.FnMut c.on.result) c.args.shards.now c.on.new.self c.args.shard
    (g.T.Shards.does_more _ _ (λ a b acts. acts.called.1) c.args.shards.now c.on.new.self c.args.shard c.on.ensures.acts)
