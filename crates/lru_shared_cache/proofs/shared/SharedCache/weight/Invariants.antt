use Rattle.std.proofs.Common.{◌≡◌}
use Rattle.std.specs.Prelude.{◌-◌, ◌^◌, min, sum_by}
use Rattle.lru_owned_cache.specs.Entries.{weight_of}
use Rattle.lru_shared_cache.specs.Related.{MaySeeAllRelated}
use Rattle.lru_shared_cache.proofs.shared.SharedCache.weight.Given as goal

abbrev pub invariant-loop-shard : goal.invariant-loop-shard
invariant-loop-shard g l = MaySeeAllRelated g.Rel.Relation.holds g.row.S.Denot l.shard (λ shards. l.weight ≡ min (sum_by (λ shard. weight_of shard.cache.entries) shards) (2 ^ 64 - 1))
