use Rattle.std.proofs.Common.{refl}
use Rattle.lru_shared_cache.proofs.locked.LockedShards.finish.Goals as goal

pub returns-clause-acts : goal.returns-clause-acts
returns-clause-acts g c = (_, (_, record { lent = _; left = _; shows = refl; called = c.act-answer.ensures; leaves = refl }))
