use Rattle.std.proofs.Common.{subst}
use Rattle.std.specs.Prelude.{◌/◌}
use Rattle.lru_shared_cache.specs.Related.{MayLimitTo}
use Rattle.lru_shared_cache.specs.Turns.{GoesOn}
use Rattle.lru_shared_cache.proofs.Answered.{may_limit_to}
use Rattle.lru_shared_cache.proofs.Turned.{goes_on}
use Rattle.lru_shared_cache.proofs.shared.SharedCache.set_limits.Goals as goal

pub returns : goal.returns
returns g c = (
  c.set_all_limits.result,
  subst (λ n. GoesOn (λ i v u. MayLimitTo g.Rel.Relation.holds (λ p e q. goal.F-step g p e tt q) v (c.args.limits.weight / n) (c.args.limits.entries / n) u) n c.args.visit c.set_all_limits.result) c.locked.ensures.many
      (goes_on _ _ (λ i v u a b act. may_limit_to g.Rel.Relation.holds (λ p e q. goal.F-step g p e tt q) v _ _ u a.shard b.shard a.related act) _ _ _ c.args.visit c.set_all_limits.result c.set_all_limits.ensures.acts),
)
