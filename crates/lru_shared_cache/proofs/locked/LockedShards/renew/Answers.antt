use Rattle.std.proofs.Common.{refl}
use Rattle.lru_shared_cache.proofs.locked.LockedShards.renew.Goals as goal

pub returns-then-is_ended-clause-acts : goal.returns-then-is_ended-clause-acts
returns-then-is_ended-clause-acts g c = (_, (_, record { lent = _; left = _; shows = refl; called = c.act-answer.ensures; leaves = refl }))

pub returns-else-is_ended-clause-acts : goal.returns-else-is_ended-clause-acts
returns-else-is_ended-clause-acts g c = (_, (_, record { lent = _; left = _; shows = refl; called = c.act-answer.ensures; leaves = refl }))
