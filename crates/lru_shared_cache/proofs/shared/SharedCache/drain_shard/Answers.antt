use Rattle.lru_shared_cache.proofs.shared.SharedCache.drain_shard.Goals as goal

pub returns : goal.returns
returns g c = (_, (c.drain.ensures.acts.0.related, (c.drain.result, c.drain.ensures.acts.1.1.0)))
