use Rattle.lru_shared_cache.proofs.Keeping.{keeps_retains}
use Rattle.lru_shared_cache.proofs.related.RelatedShardKept.retain.Goals as goal

pub invariant_of-self : goal.invariant_of-self
invariant_of-self g c = record { related = keeps_retains g.Rel.Relation.holds (λ p k v w b q. goal.F-step g p k v w b q) c.args.keep _ _ c.retain.ensures c.args.self.now.related }
