use Rattle.std.proofs.Common.{subst}
use Rattle.lru_shared_cache.specs.Calls.{RetainsShard}
use Rattle.lru_shared_cache.specs.Shards.{Owns}
use Rattle.lru_shared_cache.proofs.sharded.ShardedCache.retain_shard.Goals as goal

pub returns-clause-acts : goal.returns-clause-acts
returns-clause-acts g c = subst (λ x. Owns x.shards c.args.shard (λ before after. RetainsShard (λ p k v w b q. goal.F-step g p k v w b q) c.args.keep before after) c.retain.new.shards.shards.items) c.self.view_is c.retain.ensures.acts
