use Rattle.lru_shared_cache.proofs.Keeping.{keeps_pops}
use Rattle.lru_shared_cache.proofs.related.RelatedShardKept.pop_last.Goals as goal

pub invariant_of-self : goal.invariant_of-self
invariant_of-self g c = record { related = keeps_pops g.Rel.Relation.holds _ c.pop_last.result _ c.pop_last.ensures c.args.self.now.related }
