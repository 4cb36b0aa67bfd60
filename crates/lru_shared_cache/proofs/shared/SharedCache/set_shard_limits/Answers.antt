use Rattle.lru_shared_cache.proofs.Answered.{may_limit}
use Rattle.lru_shared_cache.proofs.Parted.{limits_shard}
use Rattle.lru_shared_cache.proofs.shared.SharedCache.set_shard_limits.Goals as goal

pub returns : goal.returns
returns g c =
    let acts = c.set_limits.ensures.acts in
    may_limit g.Rel.Relation.holds (λ p x q. goal.F-step g p x tt q) c.args.visit c.args.limits.weight c.args.limits.entries acts.0.shard acts.1.0.shard acts.0.related
    (limits_shard (λ p x q. goal.F-step g p x tt q) c.args.visit c.args.limits.weight c.args.limits.entries acts.0.shard c.set_limits.result acts.1.0.shard acts.1.1)
