use Rattle.lru_shared_cache.proofs.MayBe.{may_take}
use Rattle.lru_shared_cache.proofs.shared.SharedCache.remove_by.Goals as goal

pub returns : goal.returns
returns g c = may_take g.Rel.Relation.holds g.Q.Query.stands_for _ _ c.remove.result _ c.remove.ensures.acts.0.related c.remove.ensures.acts.1.1
