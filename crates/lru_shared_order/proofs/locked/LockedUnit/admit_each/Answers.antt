use Rattle.std.proofs.Common.{◌∙◌}
use Rattle.lru_shared_order.proofs.Answered.{each_later}
use Rattle.lru_shared_order.proofs.Homes.{home_each}
use Rattle.lru_shared_order.proofs.locked.LockedUnit.admit_each.Goals as goal

pub invariant_of-self-clause-capped : goal.invariant_of-self-clause-capped
invariant_of-self-clause-capped g c =
    let old = c.args.self.now in
    (each_later g.row.N old.number old.unit c.admit_each.new.unit c.args.batch.now.items c.admit_each.new.batch.items old.capped c.admit_each.ensures).1 ∙ old.capped

pub invariant_of-self-clause-home : goal.invariant_of-self-clause-home
invariant_of-self-clause-home g c =
    let old = c.args.self.now in
    home_each g.row.N old.number c.args.batch.now.items c.admit_each.new.batch.items old.unit c.admit_each.new.unit c.admit_each.ensures old.home
