use Rattle.lru_shared_cache.proofs.shared.SharedCache.iter_for_each.Goals as goal

pub returns : goal.returns
returns g c =
    let seen = c.visit_each.ensures.visits in
    (_, (seen.0.related, (seen.1.0, (c.visit_each.result, seen.1.1))))
