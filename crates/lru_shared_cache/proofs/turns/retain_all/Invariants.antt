use Rattle.std.proofs.Common.{◌≡◌}
use Rattle.lru_shared_cache.specs.Calls.{RetainsShard}
use Rattle.lru_shared_cache.specs.Turns.{EachInTurn}
use Rattle.lru_shared_cache.proofs.turns.retain_all.Given as goal

abbrev pub invariant-loop-shard : goal.invariant-loop-shard
invariant-loop-shard g l =
    EachInTurn (λ s i P t. g.T.Shards.does s i P t) (λ a b. RetainsShard (λ p k v w b q. goal.F-step g p k v w b q) l.keep (g.X.Kept.inside a) (g.X.Kept.inside b)) l.shard l.fn.shards l.shards
    × (g.T.Shards.many l.shards ≡ g.T.Shards.many l.fn.shards)
