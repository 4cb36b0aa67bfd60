use Rattle.std.proofs.Common.{◌≡◌, vec_len}
use Rattle.std.specs.Prelude.{All}
use Rattle.lru_shared_cache.specs.Sharded.{empty_shard}
use Rattle.lru_shared_cache.proofs.shared.empty_shards.Given as goal

abbrev pub invariant-loop : goal.invariant-loop
invariant-loop g l = (vec_len l.made ≡ l.counter) × All (λ one. one.shard ≡ empty_shard l.hash_builder l.part.weight l.part.entries) l.made.items
