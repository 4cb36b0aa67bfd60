use Rattle.std.proofs.Common.{refl, sym}
use Rattle.lru_shared_cache.proofs.Begun.{begins}
use Rattle.lru_shared_cache.proofs.shards.OwnedShards.begin.Goals as goal

pub returns-clause-acts : goal.returns-clause-acts
returns-clause-acts g c = (c.index_mut.result.now, (c.act.new.arg2, (sym c.index_mut.ensures.value, (begins (goal.F-post g c.args.act) _ _ c.act.result c.act.ensures, refl))))
