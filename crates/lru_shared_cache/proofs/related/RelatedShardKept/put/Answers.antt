use Rattle.lru_shared_cache.proofs.Keeping.{keeps_puts}
use Rattle.lru_shared_cache.proofs.related.RelatedShardKept.put.Goals as goal

pub invariant_of-self : goal.invariant_of-self
invariant_of-self g c = record { related = keeps_puts g.Rel.Relation.holds (λ p x q. goal.F-step g p x tt q) c.args.visit g.K.PartialEq.eq c.args.key c.args.value c.args.weight c.requires.related _ c.put.result _ c.put.ensures c.args.self.now.related }
