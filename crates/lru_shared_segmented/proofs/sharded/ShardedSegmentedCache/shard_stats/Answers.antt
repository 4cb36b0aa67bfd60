use Rattle.std.proofs.Common.{◌≡◌, subst}
use Rattle.lru_shared_cache.specs.Shards.{Sees}
use Rattle.lru_shared_segmented.proofs.sharded.ShardedSegmentedCache.shard_stats.Goals as goal

pub returns : goal.returns
returns g c = subst (λ x. Sees x.shards c.args.shard (λ shard. c.shard_stats.result ≡ shard.counts)) c.self.view_is c.shard_stats.ensures
