use Rattle.std.proofs.Common.{refl, sym}
use Rattle.lru_shared_cache.proofs.shards.OwnedShards.look.Goals as goal

pub returns : goal.returns
returns g c = (c.index.result.now, (sym c.index.ensures, record { lent = _; shows = refl; called = c.look.ensures }))
