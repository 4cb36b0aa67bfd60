use Rattle.std.proofs.Common.{subst}
use Rattle.lru_shared_cache.specs.Calls.{RetainsShard}
use Rattle.lru_shared_cache.specs.Shards.{Owns}
use Rattle.lru_shared_cache.specs.Turns.{EachInTurn}
use Rattle.lru_shared_cache.proofs.Turned.{each_seen}
use Rattle.lru_shared_cache.proofs.sharded.ShardedCache.retain.Goals as goal

pub returns-clause-acts : goal.returns-clause-acts
returns-clause-acts g c =
    subst (λ x. EachInTurn (λ s i P t. Owns s i P t) (λ a b. RetainsShard (λ p k v w b q. goal.F-step g p k v w b q) c.args.keep a b) g.row.N x.shards c.retain_all.new.shards.shards.items) c.self.view_is
    (subst (λ n. EachInTurn (λ s i P t. Owns s i P t) (λ a b. RetainsShard (λ p k v w b q. goal.F-step g p k v w b q) c.args.keep a b) n c.self.inside.shards.shards.items c.retain_all.new.shards.shards.items) c.self.invariant.1
    (each_seen (λ o. o.shards.items) (λ s i P t. Owns s i P t) _ _ c.self.inside.shards c.retain_all.new.shards c.retain_all.ensures.acts))
