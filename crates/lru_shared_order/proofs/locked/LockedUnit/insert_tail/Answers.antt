use Rattle.lru_shard.proofs.EditsOf.{edits_tail}
use Rattle.lru_shared_order.proofs.Homes.{home_edit}
use Rattle.lru_shared_order.proofs.locked.LockedUnit.insert_tail.Goals as goal

pub invariant_of-self-clause-home : goal.invariant_of-self-clause-home
invariant_of-self-clause-home g c =
    let old = c.args.self.now in
    home_edit g.row.N old.number c.args.key old.unit c.insert_tail.new.self (edits_tail old.unit c.args.key c.args.«data» c.args.weight c.insert_tail.result c.insert_tail.new.self c.insert_tail.ensures) c.requires old.home
