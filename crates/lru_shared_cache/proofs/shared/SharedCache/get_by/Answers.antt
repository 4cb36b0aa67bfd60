use Rattle.lru_shared_cache.proofs.MayBe.{may_get}
use Rattle.lru_shared_cache.proofs.shared.SharedCache.get_by.Goals as goal

pub returns : goal.returns
returns g c = may_get g.Rel.Relation.holds g.Q.Query.stands_for g.V.Clone.is_clone _ _ c.get.result _ c.get.ensures.acts.0.related c.get.ensures.acts.1.1
