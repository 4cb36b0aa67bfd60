use Rattle.std.proofs.Common.{◌≡◌, length, subst}
use Rattle.lru_segmented.specs.Segmented.{entries}
use Rattle.lru_shared_cache.specs.Shards.{Sees}
use Rattle.lru_shared_segmented.proofs.sharded.ShardedSegmentedCache.shard_len.Goals as goal

pub returns : goal.returns
returns g c = subst (λ x. Sees x.shards c.args.shard (λ shard. c.shard_len.result ≡ length (entries shard.cache))) c.self.view_is c.shard_len.ensures
