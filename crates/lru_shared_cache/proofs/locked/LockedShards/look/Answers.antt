use Rattle.std.proofs.Common.{refl}
use Rattle.lru_shared_cache.proofs.locked.LockedShards.look.Goals as goal

pub returns : goal.returns
returns g c = (_, record { lent = _; shows = refl; called = c.look.ensures })
