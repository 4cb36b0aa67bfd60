use Rattle.lru_boxes.proofs.Desks.{desk_left}
use Rattle.lru_boxes.proofs.desk.Desk.leave.Goals as goal

pub invariant_of-self : goal.invariant_of-self
invariant_of-self g c = let old = c.self.invariant in (old.0, (old.1.0, desk_left _ _ _ _ _ _ c.leave.ensures.seats c.leave.ensures.left old.1.1))
