use Rattle.std.proofs.Common.{◌≡◌, [], refl, subst, arith}
use Rattle.lru_shared_cache.specs.Counts.{total}
use Rattle.lru_shared_cache.specs.Related.{MaySeeAllRelated}
use Rattle.lru_shared_cache.proofs.Seen.{counts_one}
use Rattle.lru_shared_cache.proofs.shared.SharedCache.stats.Goals as goal

pub loop-shard-init : goal.loop-shard-init
loop-shard-init g c = ([], (refl, ((λ k d none. absurd (omega (arith, none))), c.none-stats.ensures)))

pub loop-shard-preserved : goal.loop-shard-preserved
loop-shard-preserved g c = counts_one g.Rel.Relation.holds c.loop-shard.shard c.loop-shard.stats c.shard_stats.result c.plus-stats.result c.shard_stats.ensures.0.shard c.loop-shard.invariant c.shard_stats.ensures.0.related c.shard_stats.ensures.1 c.plus-stats.ensures

pub returns : goal.returns
returns g c =
    let all : c.loop-shard.shard ≡ g.row.N = omega (arith, c.loop-shard-test.false) in
    subst (λ n. MaySeeAllRelated g.Rel.Relation.holds g.row.S.Denot n (λ shards. c.loop-shard.stats ≡ total shards)) all c.loop-shard.invariant
