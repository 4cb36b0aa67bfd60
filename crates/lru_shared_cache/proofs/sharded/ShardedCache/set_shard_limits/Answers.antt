use Rattle.std.proofs.Common.{subst}
use Rattle.lru_shared_cache.specs.Counting.{LimitsShard}
use Rattle.lru_shared_cache.specs.Shards.{Owns}
use Rattle.lru_shared_cache.proofs.Parted.{limits_shard}
use Rattle.lru_shared_cache.proofs.Turned.{owns_more}
use Rattle.lru_shared_cache.proofs.sharded.ShardedCache.set_shard_limits.Goals as goal

pub returns-clause-acts : goal.returns-clause-acts
returns-clause-acts g c =
    subst (λ x. Owns x.shards c.args.shard (λ before after. LimitsShard (λ p e q. goal.F-step g p e tt q) c.args.visit c.args.limits.weight c.args.limits.entries before after) c.set_limits.new.shards.shards.items) c.self.view_is
    (owns_more _ _ (λ a b act. limits_shard (λ p e q. goal.F-step g p e tt q) c.args.visit c.args.limits.weight c.args.limits.entries a c.set_limits.result b act) _ _ c.args.shard c.set_limits.ensures.acts)
