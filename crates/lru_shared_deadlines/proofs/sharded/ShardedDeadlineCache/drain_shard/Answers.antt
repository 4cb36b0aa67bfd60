use Rattle.std.proofs.Common.{subst}
use Rattle.lru_shared_cache.specs.Counting.{DrainsShard}
use Rattle.lru_shared_cache.specs.Shards.{Owns}
use Rattle.lru_shared_deadlines.proofs.sharded.ShardedDeadlineCache.drain_shard.Goals as goal

pub returns-clause-acts : goal.returns-clause-acts
returns-clause-acts g c = subst (λ x. Owns x.shards c.args.shard (λ before after. DrainsShard (λ p e q. goal.F-step g p e tt q) c.args.visit before after) c.drain.new.shards.shards.items) c.self.view_is c.drain.ensures.acts
