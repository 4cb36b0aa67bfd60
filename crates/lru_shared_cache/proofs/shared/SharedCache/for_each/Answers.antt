use Rattle.std.proofs.Common.{subst}
use Rattle.lru_shared_cache.specs.Related.{MayVisitTo}
use Rattle.lru_shared_cache.specs.Turns.{GoesOn}
use Rattle.lru_shared_cache.proofs.Turned.{goes_more}
use Rattle.lru_shared_cache.proofs.shared.SharedCache.for_each.Goals as goal

pub returns : goal.returns
returns g c = (
  c.visit_all.result,
  subst (λ n. GoesOn (λ i v u. MayVisitTo g.Rel.Relation.holds (λ p x q. goal.F-step g p x tt q) v u) n c.args.visit c.visit_all.result) c.locked.ensures.many
      (goes_more _ _ (λ i v u seen. (_, (seen.0.related, seen.1))) _ c.args.visit c.visit_all.result c.visit_all.ensures),
)
