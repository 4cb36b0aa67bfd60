use Rattle.std.proofs.Common.{refl, ◌∙◌, ◌≡◌, subst, arith}
use Rattle.lru_shared_cache.specs.Counting.{DrainsShardTo}
use Rattle.lru_shared_cache.specs.Turns.{InTurn}
use Rattle.lru_shared_cache.proofs.Turned.{one_more}
use Rattle.lru_shared_cache.proofs.turns.drain_all.Goals as goal

pub loop-shard-init : goal.loop-shard-init
loop-shard-init g c = (c.requires, ((refl, refl), refl))

pub loop-shard-preserved : goal.loop-shard-preserved
loop-shard-preserved g c = (
  c.drain-visit.ensures.again,
  (
    one_more (λ s i P t. g.T.Shards.does s i P t) (λ v a u b. DrainsShardTo (λ p x q. goal.F-step g p x tt q) v (g.X.Kept.inside a) u (g.X.Kept.inside b)) c.loop-shard.shard c.args.shards.now c.loop-shard.shards c.drain-visit.new.shards
        c.args.visit c.loop-shard.visit c.drain-visit.result c.loop-shard.invariant.1.0 c.drain-visit.ensures.acts,
    c.drain-visit.ensures.many ∙ c.loop-shard.invariant.1.1,
  ),
)

pub drain-visit-requires-clause-shard : goal.drain-visit-requires-clause-shard
drain-visit-requires-clause-shard g c = omega (arith, c.loop-shard.invariant.1.1, c.count-shard-end.ensures)

pub returns-clause-acts : goal.returns-clause-acts
returns-clause-acts g c =
    let all : c.loop-shard.shard ≡ g.T.Shards.many c.args.shards.now = omega (arith, c.loop-shard-test.false, c.count-shard-end.ensures) in
    subst (λ n. InTurn (λ s i P t. g.T.Shards.does s i P t) (λ v a u b. DrainsShardTo (λ p x q. goal.F-step g p x tt q) v (g.X.Kept.inside a) u (g.X.Kept.inside b)) n c.args.shards.now c.args.visit c.loop-shard.visit c.loop-shard.shards) all c.loop-shard.invariant.1.0
