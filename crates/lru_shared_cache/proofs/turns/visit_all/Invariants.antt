use denote.Param.Always.{always_mut}
use Rattle.lru_shared_cache.specs.Calls.{VisitsEachTo}
use Rattle.lru_shared_cache.specs.Turns.{GoesOn}
use Rattle.lru_shared_cache.proofs.turns.visit_all.Given as goal

abbrev pub invariant-loop-shard : goal.invariant-loop-shard
invariant-loop-shard g l =
    always_mut g.F.FnMut l.visit
    × GoesOn (λ i v u. g.T.Shards.sees l.shards i (λ shard. VisitsEachTo (λ p x q. goal.F-step g p x tt q) v (g.X.Kept.inside shard).cache.entries u)) l.shard l.fn.visit l.visit
