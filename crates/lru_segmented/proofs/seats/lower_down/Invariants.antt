use Rattle.std.proofs.Common.{length}
use Rattle.lru_segmented.specs.Seats.{Lowering}
use Rattle.lru_segmented.proofs.seats.lower_down.Given as goal

abbrev pub invariant-loop-seats : goal.invariant-loop-seats
invariant-loop-seats g l = Lowering l.most_weight l.most_rows l.fn.seats l.seats

abbrev pub decreases-loop-seats : goal.decreases-loop-seats
decreases-loop-seats g l = length l.seats.upper
