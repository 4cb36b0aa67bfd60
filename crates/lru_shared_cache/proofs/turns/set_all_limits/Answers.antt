use Rattle.std.proofs.Common.{refl, ap, subst, ◌∙◌, ◌≡◌, arith}
use Rattle.std.specs.Prelude.{◌/◌}
use Rattle.lru_shared_cache.specs.Counting.{LimitsShardTo}
use Rattle.lru_shared_cache.specs.Turns.{InTurn}
use Rattle.lru_shared_cache.proofs.Turned.{one_more}
use Rattle.lru_shared_cache.proofs.turns.set_all_limits.Goals as goal

pub loop-shard-init : goal.loop-shard-init
loop-shard-init g c = (c.requires, ((refl, refl), refl))

pub loop-shard-preserved : goal.loop-shard-preserved
loop-shard-preserved g c =
    let many = g.T.Shards.many c.args.shards.now in
    let weight_is = c.part.ensures.weight ∙ ap (λ n. c.args.limits.weight / n) c.count-count.ensures in
    let entries_is = c.part.ensures.entries ∙ ap (λ n. c.args.limits.entries / n) c.count-count.ensures in
    let acts =
    subst (λ n. g.T.Shards.does c.loop-shard.shards c.loop-shard.shard (λ a b. LimitsShardTo (λ p x q. goal.F-step g p x tt q) c.loop-shard.visit (c.args.limits.weight / many) n (g.X.Kept.inside a) c.set_limits-visit.result (g.X.Kept.inside b)) c.set_limits-visit.new.shards) entries_is
    (subst (λ w. g.T.Shards.does c.loop-shard.shards c.loop-shard.shard (λ a b. LimitsShardTo (λ p x q. goal.F-step g p x tt q) c.loop-shard.visit w c.part.result.entries (g.X.Kept.inside a) c.set_limits-visit.result (g.X.Kept.inside b)) c.set_limits-visit.new.shards) weight_is c.set_limits-visit.ensures.acts)
    in (
      c.set_limits-visit.ensures.again,
      (
        one_more (λ s i P t. g.T.Shards.does s i P t)
            (λ v a u b. LimitsShardTo (λ p x q. goal.F-step g p x tt q) v (c.args.limits.weight / many) (c.args.limits.entries / many) (g.X.Kept.inside a) u (g.X.Kept.inside b)) c.loop-shard.shard c.args.shards.now c.loop-shard.shards c.set_limits-visit.new.shards
            c.args.visit c.loop-shard.visit c.set_limits-visit.result c.loop-shard.invariant.1.0 acts,
        c.set_limits-visit.ensures.many ∙ c.loop-shard.invariant.1.1,
      ),
    )

pub set_limits-visit-requires-clause-shard : goal.set_limits-visit-requires-clause-shard
set_limits-visit-requires-clause-shard g c = omega (arith, c.loop-shard.invariant.1.1, c.count-count.ensures)

pub returns-clause-acts : goal.returns-clause-acts
returns-clause-acts g c =
    let all : c.loop-shard.shard ≡ g.T.Shards.many c.args.shards.now = omega (arith, c.loop-shard-test.false, c.count-count.ensures) in
    subst (λ n. InTurn (λ s i P t. g.T.Shards.does s i P t) (λ v a u b. LimitsShardTo (λ p x q. goal.F-step g p x tt q) v (c.args.limits.weight / g.T.Shards.many c.args.shards.now) (c.args.limits.entries / g.T.Shards.many c.args.shards.now) (g.X.Kept.inside a) u (g.X.Kept.inside b)) n c.args.shards.now c.args.visit c.loop-shard.visit c.loop-shard.shards) all c.loop-shard.invariant.1.0
