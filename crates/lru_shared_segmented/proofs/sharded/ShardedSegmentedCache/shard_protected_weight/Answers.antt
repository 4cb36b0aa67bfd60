use Rattle.std.proofs.Common.{◌≡◌, subst}
use Rattle.lru_owned_cache.specs.Entries.{weight_of}
use Rattle.lru_shared_cache.specs.Shards.{Sees}
use Rattle.lru_shared_segmented.proofs.sharded.ShardedSegmentedCache.shard_protected_weight.Goals as goal

pub returns : goal.returns
returns g c = subst (λ x. Sees x.shards c.args.shard (λ shard. c.shard_protected_weight.result ≡ weight_of shard.cache.upper)) c.self.view_is c.shard_protected_weight.ensures
