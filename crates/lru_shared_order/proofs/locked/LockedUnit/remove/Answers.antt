use Rattle.lru_shared_order.proofs.Homes.{home_remove}
use Rattle.lru_shared_order.proofs.locked.LockedUnit.remove.Goals as goal

pub invariant_of-self-clause-home : goal.invariant_of-self-clause-home
invariant_of-self-clause-home g c =
    let old = c.args.self.now in
    home_remove g.row.N old.number c.args.key old.unit c.remove.new.self c.remove.ensures.rows old.home
