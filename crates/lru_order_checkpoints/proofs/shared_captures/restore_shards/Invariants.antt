use Rattle.std.proofs.Common.{◌≡◌, ℕ, length}
use Rattle.std.specs.Prelude.{Result}
use Rattle.std.specs.Vec.Iter.{into_iter_items, into_iter_len}
use Rattle.lru_shard.specs.declared.unit.Refused.{Refused}
use Rattle.lru_order_checkpoints.specs.Captures.{MayPutShards}
use Rattle.lru_order_checkpoints.proofs.shared_captures.restore_shards.Given as goal

-- the shards that are to be put yet are put behind those that were
abbrev pub invariant-loop-rows : goal.invariant-loop-rows
invariant-loop-rows g l =
    ((answer : Result (Unit {0}) (Refused (ℕ × g.row.V.Denot))) → MayPutShards g.row.N (into_iter_items l.rest) answer → MayPutShards g.row.N l.fn.shards.items answer)
    × (length (into_iter_items l.rest) ≡ into_iter_len l.rest)

abbrev pub decreases-loop-rows : goal.decreases-loop-rows
decreases-loop-rows g l = length (into_iter_items l.rest)
