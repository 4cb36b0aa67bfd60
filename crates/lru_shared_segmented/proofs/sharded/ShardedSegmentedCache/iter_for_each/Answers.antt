use Rattle.std.proofs.Common.{subst}
use Rattle.lru_segmented.specs.Segmented.{entries}
use Rattle.lru_shared_cache.specs.Shards.{Sees}
use Rattle.lru_shared_cache.specs.Calls.{VisitsEach}
use Rattle.lru_shared_segmented.proofs.sharded.ShardedSegmentedCache.iter_for_each.Goals as goal

pub returns : goal.returns
returns g c = subst (λ x. Sees x.shards c.args.shard (λ shard. VisitsEach (λ p y q. goal.F-step g p y tt q) c.args.visit (entries shard.cache))) c.self.view_is c.visit_each.ensures
