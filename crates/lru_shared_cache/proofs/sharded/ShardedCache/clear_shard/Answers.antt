use Rattle.std.proofs.Common.{subst}
use Rattle.lru_shared_cache.specs.Counting.{ClearsShard}
use Rattle.lru_shared_cache.specs.Shards.{Owns}
use Rattle.lru_shared_cache.proofs.Turned.{owns_more}
use Rattle.lru_shared_cache.proofs.sharded.ShardedCache.clear_shard.Goals as goal

pub returns-clause-acts : goal.returns-clause-acts
returns-clause-acts g c =
    subst (λ x. Owns x.shards c.args.shard (λ before after. ClearsShard (λ p e q. goal.F-step g p e tt q) c.args.visit before after) c.clear.new.shards.shards.items) c.self.view_is
    (owns_more _ _ (λ a b act. (((c.clear.result, act.0), act.1.0), act.1.1)) _ _ c.args.shard c.clear.ensures.acts)
