use Rattle.std.proofs.Common.{◌≡◌, ℕ, ◌<◌, Some}
use Rattle.std.specs.Prelude.{slice_get}
use Rattle.lru_boxes.proofs.seats.TakeSeat.are_all.Given as goal

abbrev pub invariant-loop-taker : goal.invariant-loop-taker
invariant-loop-taker g l = (k : ℕ) → k < l.taker → (s : _) → slice_get l.seats k ≡ Some s → s.number ≡ k
