use Rattle.std.proofs.Common.{◌≡◌, ℕ, length}
use Rattle.std.specs.Prelude.{Result}
use Rattle.std.specs.Vec.Iter.{into_iter_items, into_iter_len}
use Rattle.lru_shard.specs.declared.unit.Refused.{Refused}
use Rattle.lru_order_checkpoints.specs.Captures.{MayPutEach}
use Rattle.lru_order_checkpoints.proofs.shared_captures.restore_shard.Given as goal

-- what is to be put yet is put behind what was
abbrev pub invariant-loop-row : goal.invariant-loop-row
invariant-loop-row g l =
    ((answer : Result (Unit {0}) (Refused (ℕ × g.row.V.Denot))) → MayPutEach g.row.N (into_iter_items l.rest) answer → MayPutEach g.row.N l.fn.rows.items answer)
    × (length (into_iter_items l.rest) ≡ into_iter_len l.rest)

abbrev pub decreases-loop-row : goal.decreases-loop-row
decreases-loop-row g l = length (into_iter_items l.rest)
