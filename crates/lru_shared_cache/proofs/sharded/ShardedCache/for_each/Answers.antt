use Rattle.std.proofs.Common.{subst}
use Rattle.lru_shared_cache.specs.Calls.{VisitsEachTo}
use Rattle.lru_shared_cache.specs.Shards.{Sees}
use Rattle.lru_shared_cache.specs.Turns.{GoesOn}
use Rattle.lru_shared_cache.proofs.sharded.ShardedCache.for_each.Goals as goal

pub returns : goal.returns
returns g c = (
  c.visit_all.result,
  subst (λ x. GoesOn (λ i v u. Sees x.shards i (λ shard. VisitsEachTo (λ p y q. goal.F-step g p y tt q) v shard.cache.entries u)) g.row.N c.args.visit c.visit_all.result) c.self.view_is
      (subst (λ n. GoesOn (λ i v u. Sees c.self.inside.shards.shards.items i (λ shard. VisitsEachTo (λ p y q. goal.F-step g p y tt q) v shard.cache.entries u)) n c.args.visit c.visit_all.result) c.self.invariant.1 c.visit_all.ensures),
)
