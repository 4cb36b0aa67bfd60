use Rattle.lru_shared_order.proofs.Homes.{home_access}
use Rattle.lru_shared_order.proofs.locked.LockedUnit.promote.Goals as goal

pub invariant_of-self-clause-home : goal.invariant_of-self-clause-home
invariant_of-self-clause-home g c =
    let old = c.args.self.now in
    home_access g.row.N old.number c.args.key old.unit c.access.new.self c.access.ensures.rows old.home
