use Rattle.std.proofs.Common.{◌≡◌, ℕ, List, ◌++◌, length}
use Rattle.lru_frames.specs.Copies.{AreEach}
use Rattle.lru_deadlines.specs.declared.deadlines.Until.{Until}
use Rattle.lru_shared_deadlines.specs.declared.ages.Aged.{Aged}
use Rattle.lru_cache_checkpoints.specs.CapturedAges.{IsAgedCopy}
use Rattle.lru_cache_checkpoints.proofs.shared_deadline_captures.capture_ages.Given as goal

-- those before the rest were copied
abbrev pub invariant-loop-key : goal.invariant-loop-key
invariant-loop-key g l = (front : List (g.row.K.Denot × Until (Aged g.row.V.Denot) × ℕ)) × ((front ++ l.rest ≡ l.initial.rest) × AreEach (IsAgedCopy g.K.Clone.is_clone g.V.Clone.is_clone) front l.rows.items)

abbrev pub decreases-loop-key : goal.decreases-loop-key
decreases-loop-key g l = length l.rest
