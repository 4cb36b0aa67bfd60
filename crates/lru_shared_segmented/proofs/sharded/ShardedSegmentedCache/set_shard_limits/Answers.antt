use Rattle.std.proofs.Common.{subst}
use Rattle.lru_shared_segmented.specs.Calls.{LimitsShard}
use Rattle.lru_shared_cache.specs.Shards.{Owns}
use Rattle.lru_shared_segmented.proofs.sharded.ShardedSegmentedCache.set_shard_limits.Goals as goal

pub returns-clause-acts : goal.returns-clause-acts
returns-clause-acts g c = subst (λ x. Owns x.shards c.args.shard (λ before after. LimitsShard (λ p e q. goal.F-step g p e tt q) c.args.visit c.args.limits.weight c.args.limits.entries c.args.protected before after) c.set_limits.new.shards.shards.items) c.self.view_is c.set_limits.ensures.acts
