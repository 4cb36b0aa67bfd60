use Rattle.lru_shared_cache.proofs.shared.SharedCache.contains_by.Goals as goal

pub returns : goal.returns
returns g c = (_, (c.contains.ensures.0.related, c.contains.ensures.1))
