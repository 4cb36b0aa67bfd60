use Rattle.std.proofs.Common.{◌≡◌, [], refl, subst, arith}
use Rattle.std.specs.Prelude.{◌-◌, ◌^◌, min, sum_by}
use Rattle.lru_shared_cache.specs.Related.{MaySeeAllRelated}
use Rattle.lru_owned_cache.specs.Entries.{weight_of}
use Rattle.lru_shared_cache.proofs.Seen.{adds_one}
use Rattle.lru_shared_cache.proofs.shared.SharedCache.weight.Goals as goal

pub loop-shard-init : goal.loop-shard-init
loop-shard-init g c = ([], (refl, ((λ k d none. absurd (omega (arith, none))), refl)))

pub loop-shard-preserved : goal.loop-shard-preserved
loop-shard-preserved g c = adds_one g.Rel.Relation.holds (λ shard. weight_of shard.cache.entries) c.loop-shard.shard c.loop-shard.weight c.shard_weight.result c.saturating_add-weight.result c.shard_weight.ensures.0.shard c.loop-shard.invariant c.shard_weight.ensures.0.related c.shard_weight.ensures.1 c.saturating_add-weight.ensures

pub returns : goal.returns
returns g c =
    let all : c.loop-shard.shard ≡ g.row.N = omega (arith, c.loop-shard-test.false) in
    subst (λ n. MaySeeAllRelated g.Rel.Relation.holds g.row.S.Denot n (λ shards. c.loop-shard.weight ≡ min (sum_by (λ shard. weight_of shard.cache.entries) shards) (2 ^ 64 - 1))) all c.loop-shard.invariant
