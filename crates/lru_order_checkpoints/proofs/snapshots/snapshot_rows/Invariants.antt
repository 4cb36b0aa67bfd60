use Rattle.std.proofs.Common.{◌≡◌, ◌++◌, length}
use Rattle.std.specs.Prelude.{map}
use Rattle.std.specs.Vec.Iter.{into_iter_items, into_iter_len}
use Rattle.lru_order_checkpoints.proofs.snapshots.snapshot_rows.Given as goal

-- those before the rest are rows
abbrev pub invariant-loop-key : goal.invariant-loop-key
invariant-loop-key g l =
    (map (λ row. (row.key, row.weight)) l.rows.items ++ into_iter_items l.rest ≡ l.fn.snapshot.items)
    × (length (into_iter_items l.rest) ≡ into_iter_len l.rest)

abbrev pub decreases-loop-key : goal.decreases-loop-key
decreases-loop-key g l = length (into_iter_items l.rest)
