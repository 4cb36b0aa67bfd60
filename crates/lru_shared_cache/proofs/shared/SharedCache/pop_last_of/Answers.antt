use Rattle.lru_shared_cache.proofs.MayBe.{may_pop}
use Rattle.lru_shared_cache.proofs.shared.SharedCache.pop_last_of.Goals as goal

pub returns : goal.returns
returns g c = may_pop g.Rel.Relation.holds _ c.pop_last.result _ c.pop_last.ensures.acts.0.related c.pop_last.ensures.acts.1.1
