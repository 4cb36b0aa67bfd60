use Rattle.std.proofs.Common.{subst}
use Rattle.lru_shared_cache.specs.Shards.{Sees}
use Rattle.lru_shared_deadlines.specs.Calls.{VisitsEach}
use Rattle.lru_shared_deadlines.proofs.sharded.ShardedDeadlineCache.iter_for_each.Goals as goal

pub returns : goal.returns
returns g c =
    subst (λ x. Sees x.shards c.args.shard (λ shard. VisitsEach (λ p y q. goal.F-step g p y tt q) c.args.visit shard.cache.entries)) c.self.view_is c.visit_each.ensures
