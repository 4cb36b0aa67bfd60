use Rattle.lru_shared_cache.proofs.shared.SharedCache.clear_shard.Goals as goal

pub returns : goal.returns
returns g c = (_, (c.clear.ensures.acts.0.related, (c.clear.result, c.clear.ensures.acts.1.1.0)))
