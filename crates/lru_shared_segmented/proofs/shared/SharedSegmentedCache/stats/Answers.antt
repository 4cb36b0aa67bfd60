use Rattle.std.proofs.Common.{◌≡◌, [], refl, subst, arith}
use Rattle.lru_shared_cache.specs.Counts.{total}
use Rattle.lru_shared_segmented.specs.Answers.{MayBeAll}
use Rattle.lru_shared_segmented.proofs.Seen.{counts_one}
use Rattle.lru_shared_segmented.proofs.shared.SharedSegmentedCache.stats.Goals as goal

pub loop-shard-init : goal.loop-shard-init
loop-shard-init g c = ([], (refl, c.none-stats.ensures))

pub loop-shard-preserved : goal.loop-shard-preserved
loop-shard-preserved g c = counts_one c.loop-shard.shard c.loop-shard.stats c.shard_stats.result c.plus-stats.result c.loop-shard.invariant c.shard_stats.ensures c.plus-stats.ensures

pub returns : goal.returns
returns g c =
    let all : c.loop-shard.shard ≡ g.row.N = omega (arith, c.loop-shard-test.false) in
    subst (λ n. MayBeAll g.row.K.Denot g.row.V.Denot g.row.S.Denot n (λ shards. c.loop-shard.stats ≡ total shards)) all c.loop-shard.invariant
