use Rattle.std.proofs.Common.{subst}
use Rattle.lru_shared_cache.specs.Counting.{DrainsShardTo}
use Rattle.lru_shared_cache.specs.Shards.{Owns}
use Rattle.lru_shared_cache.specs.Turns.{InTurn}
use Rattle.lru_shared_cache.proofs.Turned.{turns_seen}
use Rattle.lru_shared_cache.proofs.sharded.ShardedCache.drain.Goals as goal

pub returns-clause-acts : goal.returns-clause-acts
returns-clause-acts g c = (
  c.drain_all.result,
  subst (λ x. InTurn (λ s i P t. Owns s i P t) (λ v a u b. DrainsShardTo (λ p e q. goal.F-step g p e tt q) v a u b) g.row.N x.shards c.args.visit c.drain_all.result c.drain_all.new.shards.shards.items) c.self.view_is
      (subst (λ n. InTurn (λ s i P t. Owns s i P t) (λ v a u b. DrainsShardTo (λ p e q. goal.F-step g p e tt q) v a u b) n c.self.inside.shards.shards.items c.args.visit c.drain_all.result c.drain_all.new.shards.shards.items) c.self.invariant.1
      (turns_seen (λ o. o.shards.items) (λ s i P t. Owns s i P t) _ _ c.self.inside.shards c.drain_all.new.shards c.args.visit c.drain_all.result c.drain_all.ensures.acts)),
)
