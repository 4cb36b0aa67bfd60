use Rattle.std.proofs.Common.{◌≡◌, vec_len, length}
use Rattle.lru_shared_cache.proofs.locked.behind_locks.Given as goal

abbrev pub invariant-loop-cache : goal.invariant-loop-cache
invariant-loop-cache g l = vec_len l.shards ≡ length l.yielded
