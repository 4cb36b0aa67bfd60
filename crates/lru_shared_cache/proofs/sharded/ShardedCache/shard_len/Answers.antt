use Rattle.std.proofs.Common.{◌≡◌, length, subst}
use Rattle.lru_shared_cache.specs.Shards.{Sees}
use Rattle.lru_shared_cache.proofs.sharded.ShardedCache.shard_len.Goals as goal

pub returns : goal.returns
returns g c = subst (λ x. Sees x.shards c.args.shard (λ shard. c.shard_len.result ≡ length shard.cache.entries)) c.self.view_is c.shard_len.ensures
