use Rattle.std.proofs.Common.{◌≡◌}
use Rattle.lru_shared_cache.specs.Counts.{total}
use Rattle.lru_shared_cache.specs.Related.{MaySeeAllRelated}
use Rattle.lru_shared_cache.proofs.shared.SharedCache.stats.Given as goal

abbrev pub invariant-loop-shard : goal.invariant-loop-shard
invariant-loop-shard g l = MaySeeAllRelated g.Rel.Relation.holds g.row.S.Denot l.shard (λ shards. l.stats ≡ total shards)
