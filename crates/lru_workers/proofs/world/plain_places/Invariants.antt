use Rattle.std.proofs.Common.{◌≡◌, vec_len}
use Rattle.lru_workers.proofs.world.plain_places.Given as goal

abbrev pub invariant-loop-shard : goal.invariant-loop-shard
invariant-loop-shard g l = vec_len l.places ≡ l.shard
