use Rattle.lru_shared_order.proofs.Homes.{home_evict}
use Rattle.lru_shared_order.proofs.locked.LockedUnit.evict.Goals as goal

pub invariant_of-self-clause-home : goal.invariant_of-self-clause-home
invariant_of-self-clause-home g c =
    let old = c.args.self.now in
    home_evict g.row.N old.number old.unit c.evict.new.self c.evict.ensures.rows old.home
