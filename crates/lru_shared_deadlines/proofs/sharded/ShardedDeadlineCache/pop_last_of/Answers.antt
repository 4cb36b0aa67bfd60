use Rattle.std.proofs.Common.{subst}
use Rattle.lru_shared_cache.specs.Counting.{PopsShard}
use Rattle.lru_shared_cache.specs.Shards.{Owns}
use Rattle.lru_shared_deadlines.proofs.sharded.ShardedDeadlineCache.pop_last_of.Goals as goal

pub returns-clause-acts : goal.returns-clause-acts
returns-clause-acts g c = subst (λ x. Owns x.shards c.args.shard (λ before after. PopsShard before c.pop_last.result after) c.pop_last.new.shards.shards.items) c.self.view_is c.pop_last.ensures.acts
