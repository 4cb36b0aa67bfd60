use Rattle.std.proofs.Common.{subst}
use Rattle.lru_shared_deadlines.specs.Calls.{SweepsShard}
use Rattle.lru_shared_deadlines.proofs.calls.sweep.Goals as goal

pub returns-clause-acts : goal.returns-clause-acts
returns-clause-acts g c =
    g.T.Shards.does_more _ _ (λ a b acts. subst (λ y. SweepsShard (λ p e q. goal.F-step g p e tt q) c.args.visit c.args.time c.args.most a y) acts.leaves (subst (λ x. SweepsShard (λ p e q. goal.F-step g p e tt q) c.args.visit c.args.time c.args.most x acts.left.now) acts.shows acts.called))
    c.args.shards.now c.on.new.self c.args.shard c.on.ensures.acts
