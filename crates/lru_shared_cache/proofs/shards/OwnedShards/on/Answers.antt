use Rattle.std.proofs.Common.{refl, sym}
use Rattle.lru_shared_cache.proofs.shards.OwnedShards.on.Goals as goal

pub returns-clause-acts : goal.returns-clause-acts
returns-clause-acts g c = (c.index_mut.result.now, (c.act.new.arg2, (sym c.index_mut.ensures.value, (record { lent = _; left = _; shows = refl; called = c.act.ensures; leaves = refl }, refl))))
