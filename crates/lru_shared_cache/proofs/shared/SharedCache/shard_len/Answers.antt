use Rattle.lru_shared_cache.proofs.shared.SharedCache.shard_len.Goals as goal

pub returns : goal.returns
returns g c = (_, (c.shard_len.ensures.0.related, c.shard_len.ensures.1))
