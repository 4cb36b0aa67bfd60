use Rattle.std.proofs.Common.{◌≡◌}
use Rattle.std.specs.Prelude.{replicate}
use Rattle.lru_shared_cache.specs.Sharded.{empty_shard}
use Rattle.lru_shared_cache.proofs.sharded.empty_shards.Given as goal

abbrev pub invariant-loop : goal.invariant-loop
invariant-loop g l = l.made.items ≡ replicate l.counter (empty_shard l.hash_builder l.most_weight l.most_entries)
