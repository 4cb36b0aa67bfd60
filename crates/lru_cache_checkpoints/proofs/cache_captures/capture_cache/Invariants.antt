use Rattle.std.proofs.Common.{◌≡◌, ℕ, List, ◌++◌, length}
use Rattle.lru_frames.specs.Copies.{AreEach, IsEntryCopy}
use Rattle.lru_cache_checkpoints.proofs.cache_captures.capture_cache.Given as goal

-- those before the rest were copied
abbrev pub invariant-loop-key : goal.invariant-loop-key
invariant-loop-key g l = (front : List (g.row.K.Denot × g.row.V.Denot × ℕ)) × ((front ++ l.rest ≡ l.initial.rest) × AreEach (IsEntryCopy g.K.Clone.is_clone g.V.Clone.is_clone) front l.rows.items)

abbrev pub decreases-loop-key : goal.decreases-loop-key
decreases-loop-key g l = length l.rest
