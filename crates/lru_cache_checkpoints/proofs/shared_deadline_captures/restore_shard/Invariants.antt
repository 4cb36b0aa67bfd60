use Rattle.std.proofs.Common.{◌≡◌, ℕ, ◌+◌, ◌≤◌, length}
use Rattle.std.specs.Prelude.{Result, reverse, map}
use Rattle.std.specs.Vec.Iter.{into_iter_items, into_iter_len}
use Rattle.lru_owned_cache.specs.declared.cache.Refused.{Refused}
use Rattle.lru_deadlines.specs.declared.deadlines.Until.{Until}
use Rattle.lru_shared_deadlines.specs.declared.ages.Aged.{Aged}
use Rattle.lru_cache_checkpoints.specs.Captures.{MayPutEntries}
use Rattle.lru_cache_checkpoints.specs.CapturedAges.{aged_row}
use Rattle.lru_cache_checkpoints.proofs.shared_deadline_captures.restore_shard.Given as goal

-- what is to be put yet is put behind what was
abbrev pub invariant-loop-row : goal.invariant-loop-row
invariant-loop-row g l =
    ((answer : Result ℕ (Refused g.row.K.Denot (Until (Aged g.row.V.Denot)))) → MayPutEntries g.K.PartialEq.eq (map aged_row (into_iter_items l.rest)) l.left_out answer → MayPutEntries g.K.PartialEq.eq (map aged_row (reverse l.fn.rows.items)) 0 answer)
    × ((length (into_iter_items l.rest) ≡ into_iter_len l.rest)
    × (l.left_out + length (into_iter_items l.rest) ≤ length l.fn.rows.items))

abbrev pub decreases-loop-row : goal.decreases-loop-row
decreases-loop-row g l = length (into_iter_items l.rest)
