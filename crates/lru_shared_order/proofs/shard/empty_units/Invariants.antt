use Rattle.std.proofs.Common.{◌≡◌, vec_len}
use Rattle.lru_shared_order.proofs.shard.empty_units.Given as goal

abbrev pub invariant-loop-number : goal.invariant-loop-number
invariant-loop-number g l = vec_len l.units ≡ l.number
