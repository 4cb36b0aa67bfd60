use Rattle.std.proofs.Common.{◌≡◌, ℕ, ◌<◌, Some}
use Rattle.std.specs.Prelude.{slice_get}
use Rattle.lru_boxes.proofs.seats.PutSeat.are_all.Given as goal

abbrev pub invariant-loop-putter : goal.invariant-loop-putter
invariant-loop-putter g l = (k : ℕ) → k < l.putter → (s : _) → slice_get l.seats k ≡ Some s → s.number ≡ k
