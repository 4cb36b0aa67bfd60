use Rattle.lru_shared_cache.proofs.Keeping.{keeps_gets}
use Rattle.lru_shared_cache.proofs.related.RelatedShardKept.get.Goals as goal

pub invariant_of-self : goal.invariant_of-self
invariant_of-self g c = record { related = keeps_gets g.Rel.Relation.holds g.Q.Query.stands_for g.V.Clone.is_clone c.args.query _ c.get.result _ c.get.ensures c.args.self.now.related }
