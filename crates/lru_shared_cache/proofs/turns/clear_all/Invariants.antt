use Rattle.std.proofs.Common.{◌≡◌}
use denote.Param.Always.{always_mut}
use Rattle.lru_shared_cache.specs.Counting.{ClearsShardTo}
use Rattle.lru_shared_cache.specs.Turns.{InTurn}
use Rattle.lru_shared_cache.proofs.turns.clear_all.Given as goal

abbrev pub invariant-loop-shard : goal.invariant-loop-shard
invariant-loop-shard g l =
    always_mut g.F.FnMut l.visit
    × (InTurn (λ s i P t. g.T.Shards.does s i P t) (λ v a u b. ClearsShardTo (λ p x q. goal.F-step g p x tt q) v (g.X.Kept.inside a) u (g.X.Kept.inside b)) l.shard l.fn.shards l.fn.visit l.visit l.shards
    × (g.T.Shards.many l.shards ≡ g.T.Shards.many l.fn.shards))
