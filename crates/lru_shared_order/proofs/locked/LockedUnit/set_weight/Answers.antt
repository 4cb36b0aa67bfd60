use Rattle.lru_shared_order.proofs.Homes.{home_set}
use Rattle.lru_shared_order.proofs.locked.LockedUnit.set_weight.Goals as goal

pub invariant_of-self-clause-home : goal.invariant_of-self-clause-home
invariant_of-self-clause-home g c =
    let old = c.args.self.now in
    home_set g.row.N old.number c.args.key c.max.result old.unit c.set_weight.new.self c.set_weight.result c.set_weight.ensures old.home
