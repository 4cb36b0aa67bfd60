use Rattle.std.proofs.Common.{subst}
use Rattle.lru_shared_cache.specs.Shards.{Sees}
use Rattle.lru_shared_cache.specs.Calls.{VisitsEach}
use Rattle.lru_shared_cache.proofs.sharded.ShardedCache.iter_for_each.Goals as goal

pub returns : goal.returns
returns g c =
    let seen = c.visit_each.ensures.visits in
    subst (λ x. Sees x.shards c.args.shard (λ shard. VisitsEach (λ p y q. goal.F-step g p y tt q) c.args.visit shard.cache.entries)) c.self.view_is (seen.0, (seen.1.0, (seen.1.1.0, (c.visit_each.result, seen.1.1.1))))
