use Rattle.std.proofs.Common.{◌≡◌, refl, ◌∙◌, subst, arith}
use Rattle.lru_shared_cache.specs.Calls.{RetainsShard}
use Rattle.lru_shared_cache.specs.Turns.{EachInTurn}
use Rattle.lru_shared_cache.proofs.Turned.{each_more}
use Rattle.lru_shared_cache.proofs.turns.retain_all.Goals as goal

pub loop-shard-init : goal.loop-shard-init
loop-shard-init g c = (refl, refl)

pub loop-shard-preserved : goal.loop-shard-preserved
loop-shard-preserved g c = (
  each_more (λ s i P t. g.T.Shards.does s i P t) (λ a b. RetainsShard (λ p k v w b q. goal.F-step g p k v w b q) c.args.keep (g.X.Kept.inside a) (g.X.Kept.inside b)) c.loop-shard.shard c.args.shards.now c.loop-shard.shards c.retain_by.new.shards c.loop-shard.invariant.0 c.retain_by.ensures.acts,
  c.retain_by.ensures.many ∙ c.loop-shard.invariant.1,
)

pub retain_by-requires-clause-shard : goal.retain_by-requires-clause-shard
retain_by-requires-clause-shard g c = omega (arith, c.loop-shard.invariant.1, c.count-shard-end.ensures)

pub returns-clause-acts : goal.returns-clause-acts
returns-clause-acts g c =
    let all : c.loop-shard.shard ≡ g.T.Shards.many c.args.shards.now = omega (arith, c.loop-shard-test.false, c.count-shard-end.ensures) in
    subst (λ n. EachInTurn (λ s i P t. g.T.Shards.does s i P t) (λ a b. RetainsShard (λ p k v w b q. goal.F-step g p k v w b q) c.args.keep (g.X.Kept.inside a) (g.X.Kept.inside b)) n c.args.shards.now c.loop-shard.shards) all c.loop-shard.invariant.0
