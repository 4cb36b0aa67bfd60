use Rattle.std.proofs.Common.{◌∙◌}
use Rattle.lru_boxes.proofs.Desks.{desk_taking}
use Rattle.lru_boxes.proofs.desk.Desk.take.Goals as goal

pub invariant_of-self-2 : goal.invariant_of-self-2
invariant_of-self-2 g c =
    let old = c.self.invariant in
    let note = c.note.ensures in
    (old.0, ((old.1.0.0, note.ids.0 ∙ old.1.0.1), desk_taking _ _ _ _ c.args.seat.now.share c.take.new.share _ _ _ _ (c.in-Some.slip, c.in-Some.key) c.args.seat.now.number _ c.in-Some.is c.in_ok-slip.ensures.takes c.take.ensures.seats note.known note.desk old.1.1))
