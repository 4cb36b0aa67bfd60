use Rattle.lru_boxes.proofs.Desks.{desk_shut}
use Rattle.lru_boxes.proofs.desk.Desk.close.Goals as goal

pub invariant_of-self : goal.invariant_of-self
invariant_of-self g c = let old = c.self.invariant in (old.0, (old.1.0, desk_shut _ _ _ _ _ _ c.close.ensures.seats c.close.ensures.shut old.1.1))
