use Rattle.lru_shared_cache.proofs.Keeping.{keeps_limits}
use Rattle.lru_shared_cache.proofs.related.RelatedShardKept.set_limits.Goals as goal

pub invariant_of-self : goal.invariant_of-self
invariant_of-self g c = record { related = keeps_limits g.Rel.Relation.holds (λ p x q. goal.F-step g p x tt q) c.args.visit c.args.limits.weight c.args.limits.entries c.args.self.now.shard c.set_limits.new.self c.set_limits.result c.set_limits.ensures.limits c.args.self.now.related }
