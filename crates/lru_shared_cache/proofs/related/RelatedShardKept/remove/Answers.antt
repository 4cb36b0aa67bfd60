use Rattle.lru_shared_cache.proofs.Keeping.{keeps_takes}
use Rattle.lru_shared_cache.proofs.related.RelatedShardKept.remove.Goals as goal

pub invariant_of-self : goal.invariant_of-self
invariant_of-self g c = record { related = keeps_takes g.Rel.Relation.holds g.Q.Query.stands_for c.args.query _ c.remove.result _ c.remove.ensures c.args.self.now.related }
