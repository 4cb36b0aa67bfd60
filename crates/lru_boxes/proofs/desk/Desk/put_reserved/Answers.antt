use Rattle.std.proofs.Common.{◌∙◌}
use Rattle.lru_boxes.proofs.Desks.{desk_put}
use Rattle.lru_boxes.proofs.desk.Desk.put_reserved.Goals as goal

pub invariant_of-self : goal.invariant_of-self
invariant_of-self g c =
    let old = c.self.invariant in
    let put = c.put_reserved-slip.ensures in
    let note = c.note.ensures in
    ((old.0.0, note.ids.0 ∙ old.0.1), (old.1.0, desk_put _ _ _ _ _ _ _ c.args.hash c.args.key c.args.weight c.args.seat.now.number _ _ put.seats put.book put.slip note.known note.desk old.1.1))
