use Rattle.lru_shared_cache.proofs.Keeping.{keeps_drains}
use Rattle.lru_shared_cache.proofs.related.RelatedShardKept.drain.Goals as goal

pub invariant_of-self : goal.invariant_of-self
invariant_of-self g c = record { related = keeps_drains g.Rel.Relation.holds (λ p x q. goal.F-step g p x tt q) c.args.visit c.args.self.now.shard c.drain.new.self c.drain.result c.drain.ensures.drains c.args.self.now.related }
