use Rattle.std.proofs.Common.{◌≡◌, [], refl, subst, arith}
use Rattle.std.specs.Prelude.{◌-◌, ◌^◌, min, sum_by}
use Rattle.lru_shared_segmented.specs.Answers.{MayBeAll}
use Rattle.lru_owned_cache.specs.Entries.{weight_of}
use Rattle.lru_shared_segmented.proofs.Seen.{adds_one}
use Rattle.lru_shared_segmented.proofs.shared.SharedSegmentedCache.protected_weight.Goals as goal

pub loop-shard-init : goal.loop-shard-init
loop-shard-init g c = ([], (refl, refl))

pub loop-shard-preserved : goal.loop-shard-preserved
loop-shard-preserved g c = adds_one (λ shard. weight_of shard.cache.upper) c.loop-shard.shard c.loop-shard.weight c.shard_protected_weight.result c.saturating_add-weight.result c.loop-shard.invariant c.shard_protected_weight.ensures c.saturating_add-weight.ensures

pub returns : goal.returns
returns g c =
    let all : c.loop-shard.shard ≡ g.row.N = omega (arith, c.loop-shard-test.false) in
    subst (λ n. MayBeAll g.row.K.Denot g.row.V.Denot g.row.S.Denot n (λ shards. c.loop-shard.weight ≡ min (sum_by (λ shard. weight_of shard.cache.upper) shards) (2 ^ 64 - 1))) all c.loop-shard.invariant
