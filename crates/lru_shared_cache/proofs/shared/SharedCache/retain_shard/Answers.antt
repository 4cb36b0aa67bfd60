use Rattle.lru_shared_cache.proofs.Answered.{may_retain}
use Rattle.lru_shared_cache.proofs.shared.SharedCache.retain_shard.Goals as goal

pub returns : goal.returns
returns g c = may_retain g.Rel.Relation.holds (λ p k v w b q. goal.F-step g p k v w b q) c.args.keep _ _ c.retain.ensures.acts.0.related c.retain.ensures.acts.1.1
