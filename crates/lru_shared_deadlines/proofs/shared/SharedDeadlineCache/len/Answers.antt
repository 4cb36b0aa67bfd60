use Rattle.std.proofs.Common.{◌≡◌, [], refl, subst, arith, length}
use Rattle.std.specs.Prelude.{◌-◌, ◌^◌, min, sum_by}
use Rattle.lru_shared_deadlines.specs.Answers.{MayBeAll}
use Rattle.lru_shared_deadlines.proofs.Seen.{adds_one}
use Rattle.lru_shared_deadlines.proofs.shared.SharedDeadlineCache.len.Goals as goal

pub loop-shard-init : goal.loop-shard-init
loop-shard-init g c = ([], (refl, refl))

pub loop-shard-preserved : goal.loop-shard-preserved
loop-shard-preserved g c = adds_one (λ shard. length shard.cache.entries) c.loop-shard.shard c.loop-shard.len c.shard_len.result c.saturating_add-len.result c.loop-shard.invariant c.shard_len.ensures c.saturating_add-len.ensures

pub returns : goal.returns
returns g c =
    let all : c.loop-shard.shard ≡ g.row.N = omega (arith, c.loop-shard-test.false) in
    subst (λ n. MayBeAll g.row.K.Denot g.row.V.Denot g.row.S.Denot n (λ shards. c.loop-shard.len ≡ min (sum_by (λ shard. length shard.cache.entries) shards) (2 ^ 64 - 1))) all c.loop-shard.invariant
