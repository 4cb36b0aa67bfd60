use Rattle.lru_shared_cache.proofs.Keeping.{keeps_clears}
use Rattle.lru_shared_cache.proofs.related.RelatedShardKept.clear.Goals as goal

pub invariant_of-self : goal.invariant_of-self
invariant_of-self g c = record { related = keeps_clears g.Rel.Relation.holds (λ p x q. goal.F-step g p x tt q) c.args.visit c.args.self.now.shard c.clear.new.self c.clear.result c.clear.ensures.clears c.args.self.now.related }
