use Rattle.std.proofs.Common.{◌≡◌, ℕ, List, ◌++◌, length}
use Rattle.lru_frames.specs.Copies.{AreEach}
use Rattle.lru_deadlines.specs.declared.deadlines.Until.{Until}
use Rattle.lru_cache_checkpoints.specs.CapturedDeadlines.{IsDeadlineCopy}
use Rattle.lru_cache_checkpoints.proofs.deadline_captures.capture_deadlines.Given as goal

-- those before the rest were copied
abbrev pub invariant-loop-key : goal.invariant-loop-key
invariant-loop-key g l = (front : List (g.row.K.Denot × Until g.row.V.Denot × ℕ)) × ((front ++ l.rest ≡ l.initial.rest) × AreEach (IsDeadlineCopy g.K.Clone.is_clone g.V.Clone.is_clone) front l.rows.items)

abbrev pub decreases-loop-key : goal.decreases-loop-key
decreases-loop-key g l = length l.rest
