use Rattle.std.proofs.Common.{length, ap, ◌∙◌, arith, [], ◌∷◌}
use Rattle.std.specs.Prelude.{map}
use Rattle.std.proofs.lemmas.List.{length_push, map-append}
use Rattle.lru_segmented.specs.Representation.{bare}
use Rattle.lru_segmented.proofs.iter.SegmentedEntriesDoubleEndedIterator.next_back.Goals as goal

pub returns-clause-steps : goal.returns-clause-steps
returns-clause-steps g c =
    rw (← c.self.view_is) (ap (map bare) c.in_ok-key.ensures.steps ∙ map-append bare c.next_back.new.self ((c.in_ok-key.key.now, c.in_ok-key.seat.now, c.in_ok-key.weight) ∷ []))

pub returns-clause-goes : goal.returns-clause-goes
returns-clause-goes g c =
    let fewer = ap length (returns-clause-steps g c) ∙ length_push (map bare c.next_back.new.self) (c.in_ok-key.key.now, c.in_ok-key.seat.now.value, c.in_ok-key.weight) in
    record { on = λ _. (tt, tt, omega (arith, fewer)); keeps = tt; rests = λ _. tt }
