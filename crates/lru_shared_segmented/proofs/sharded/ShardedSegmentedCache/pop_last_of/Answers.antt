use Rattle.std.proofs.Common.{subst}
use Rattle.lru_shared_segmented.specs.Calls.{PopsShard}
use Rattle.lru_shared_cache.specs.Shards.{Owns}
use Rattle.lru_shared_segmented.proofs.sharded.ShardedSegmentedCache.pop_last_of.Goals as goal

pub returns-clause-acts : goal.returns-clause-acts
returns-clause-acts g c = subst (λ x. Owns x.shards c.args.shard (λ before after. PopsShard before c.pop_last.result after) c.pop_last.new.shards.shards.items) c.self.view_is c.pop_last.ensures.acts
