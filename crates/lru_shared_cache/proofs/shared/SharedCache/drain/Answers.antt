use Rattle.std.proofs.Common.{subst}
use Rattle.lru_shared_cache.specs.Related.{MayDrainTo}
use Rattle.lru_shared_cache.specs.Turns.{GoesOn}
use Rattle.lru_shared_cache.proofs.Turned.{goes_on}
use Rattle.lru_shared_cache.proofs.shared.SharedCache.drain.Goals as goal

pub returns : goal.returns
returns g c = (
  c.drain_all.result,
  subst (λ n. GoesOn (λ i v u. MayDrainTo g.Rel.Relation.holds (λ p x q. goal.F-step g p x tt q) v u) n c.args.visit c.drain_all.result) c.locked.ensures.many
      (goes_on _ _ (λ i v u a b act. (_, (a.related, act.0))) _ _ _ c.args.visit c.drain_all.result c.drain_all.ensures.acts),
)
