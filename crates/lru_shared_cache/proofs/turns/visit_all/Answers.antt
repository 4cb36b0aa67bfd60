use Rattle.std.proofs.Common.{◌≡◌, refl, subst, arith}
use Rattle.lru_shared_cache.specs.Calls.{VisitsEachTo}
use Rattle.lru_shared_cache.specs.Turns.{GoesOn}
use Rattle.lru_shared_cache.proofs.Turned.{goes_one}
use Rattle.lru_shared_cache.proofs.turns.visit_all.Goals as goal

pub loop-shard-init : goal.loop-shard-init
loop-shard-init g c = (c.requires, refl)

pub loop-shard-preserved : goal.loop-shard-preserved
loop-shard-preserved g c = (
  c.visit_each-visit.ensures.again,
  goes_one (λ i v u. g.T.Shards.sees c.args.shards.now i (λ shard. VisitsEachTo (λ p x q. goal.F-step g p x tt q) v (g.X.Kept.inside shard).cache.entries u)) c.loop-shard.shard c.args.visit c.loop-shard.visit c.visit_each-visit.result c.loop-shard.invariant.1 c.visit_each-visit.ensures.visits,
)

pub visit_each-visit-requires-clause-shard : goal.visit_each-visit-requires-clause-shard
visit_each-visit-requires-clause-shard g c = omega (arith, c.count-shard-end.ensures)

pub returns : goal.returns
returns g c =
    let all : c.loop-shard.shard ≡ g.T.Shards.many c.args.shards.now = omega (arith, c.loop-shard-test.false, c.count-shard-end.ensures) in
    subst (λ n. GoesOn (λ i v u. g.T.Shards.sees c.args.shards.now i (λ shard. VisitsEachTo (λ p x q. goal.F-step g p x tt q) v (g.X.Kept.inside shard).cache.entries u)) n c.args.visit c.loop-shard.visit) all c.loop-shard.invariant.1
