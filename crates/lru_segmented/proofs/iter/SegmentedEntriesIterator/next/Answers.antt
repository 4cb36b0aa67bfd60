use Rattle.std.proofs.Common.{length, ap, arith}
use Rattle.std.specs.Prelude.{map}
use Rattle.lru_segmented.specs.Representation.{bare}
use Rattle.lru_segmented.proofs.iter.SegmentedEntriesIterator.next.Goals as goal

pub returns-clause-steps : goal.returns-clause-steps
returns-clause-steps g c = rw (← c.self.view_is) (ap (map bare) c.in_ok-key.ensures.steps)

pub returns-clause-goes : goal.returns-clause-goes
returns-clause-goes g c = record { on = λ _. (tt, tt, omega (arith, ap length (returns-clause-steps g c))); keeps = tt; rests = λ _. tt }
