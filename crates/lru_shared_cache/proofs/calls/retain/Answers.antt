use Rattle.std.proofs.Common.{rules}
use Rattle.lru_shared_cache.proofs.calls.retain.Goals as goal

pub returns-clause-acts : goal.returns-clause-acts
returns-clause-acts g c = g.T.Shards.does_more _ _ (λ a b acts. search rules) c.args.shards.now c.on.new.self c.args.shard c.on.ensures.acts
