use Rattle.std.proofs.Common.{arith}
use Rattle.lru_shared_cache.proofs.Answered.{may_retain}
use Rattle.lru_shared_cache.proofs.Turned.{one_of}
use Rattle.lru_shared_cache.proofs.shared.SharedCache.retain.Goals as goal

pub returns : goal.returns
returns g c =
    let acts = one_of _ _ _ _ (omega (arith, c.locked.ensures.some, c.locked.ensures.many)) c.retain_all.ensures.acts in
    may_retain g.Rel.Relation.holds (λ p k v w b q. goal.F-step g p k v w b q) c.args.keep _ _ acts.0.related acts.1.1
