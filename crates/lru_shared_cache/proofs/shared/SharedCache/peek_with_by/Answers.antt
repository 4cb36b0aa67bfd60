use Rattle.lru_shared_cache.proofs.MayBe.{may_show}
use Rattle.lru_shared_cache.proofs.shared.SharedCache.peek_with_by.Goals as goal

pub returns : goal.returns
returns g c = may_show g.Rel.Relation.holds g.Q.Query.stands_for _ _ _ c.peek.result c.peek.ensures.0.related c.peek.ensures.1
