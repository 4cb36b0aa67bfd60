use Rattle.std.proofs.Common.{◌≡◌, ℕ, List, ◌++◌, length}
use Rattle.lru_frames.specs.Copies.{AreEach}
use Rattle.lru_order_checkpoints.specs.Captures.{IsCopy}
use Rattle.lru_order_checkpoints.proofs.rows.copies.Given as goal

-- those before the rest were copied
abbrev pub invariant-loop-pair : goal.invariant-loop-pair
invariant-loop-pair g l = (front : List ((ℕ × g.row.V.Denot) × ℕ)) × ((front ++ l.rest ≡ l.initial.rest) × AreEach (IsCopy g.V.Clone.is_clone) front l.rows.items)

abbrev pub decreases-loop-pair : goal.decreases-loop-pair
decreases-loop-pair g l = length l.rest
