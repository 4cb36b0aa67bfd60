use Rattle.std.proofs.Common.{length, subst}
use Rattle.std.specs.Prelude.{◌/◌}
use Rattle.lru_shared_cache.specs.Counting.{LimitsShardTo}
use Rattle.lru_shared_cache.specs.Shards.{Owns}
use Rattle.lru_shared_cache.specs.Turns.{InTurn}
use Rattle.lru_shared_cache.proofs.Turned.{turns_seen}
use Rattle.lru_shared_cache.proofs.sharded.ShardedCache.set_limits.Goals as goal

pub returns-clause-acts : goal.returns-clause-acts
returns-clause-acts g c = (
  c.set_all_limits.result,
  subst (λ x. InTurn (λ s i P t. Owns s i P t) (λ v a u b. LimitsShardTo (λ p e q. goal.F-step g p e tt q) v (c.args.limits.weight / g.row.N) (c.args.limits.entries / g.row.N) a u b) g.row.N x.shards c.args.visit c.set_all_limits.result c.set_all_limits.new.shards.shards.items) c.self.view_is
      (subst (λ n. InTurn (λ s i P t. Owns s i P t) (λ v a u b. LimitsShardTo (λ p e q. goal.F-step g p e tt q) v (c.args.limits.weight / n) (c.args.limits.entries / n) a u b) n c.self.inside.shards.shards.items c.args.visit c.set_all_limits.result c.set_all_limits.new.shards.shards.items) c.self.invariant.1
      (turns_seen (λ o. o.shards.items) (λ s i P t. Owns s i P t) (λ v a u b. LimitsShardTo (λ p e q. goal.F-step g p e tt q) v (c.args.limits.weight / length c.self.inside.shards.shards.items) (c.args.limits.entries / length c.self.inside.shards.shards.items) a u b) _ c.self.inside.shards c.set_all_limits.new.shards c.args.visit c.set_all_limits.result c.set_all_limits.ensures.acts)),
)
