use Rattle.std.proofs.Common.{◌≡◌}
use Rattle.lru_shared_cache.specs.Popping.{AreEmpty}
use Rattle.lru_shared_cache.proofs.sharded.ShardedCache.pop_last_among.Given as goal

abbrev pub invariant-loop-shard : goal.invariant-loop-shard
invariant-loop-shard g l = AreEmpty l.fn.first l.shard l.fn.self.shards × ((l.self.shards ≡ l.fn.self.shards) × (l.self.hashes ≡ l.fn.self.hashes))
