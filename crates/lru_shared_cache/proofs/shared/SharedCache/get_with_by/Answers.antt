use Rattle.lru_shared_cache.proofs.MayBe.{may_lend}
use Rattle.lru_shared_cache.proofs.shared.SharedCache.get_with_by.Goals as goal

pub returns : goal.returns
returns g c = may_lend g.Rel.Relation.holds g.Q.Query.stands_for _ _ _ c.update.result _ c.update.ensures.acts.0.related c.update.ensures.acts.1.1
