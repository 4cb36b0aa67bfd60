use Rattle.lru_shard.proofs.EditsOf.{edits_admit}
use Rattle.lru_shared_order.proofs.Homes.{home_edit}
use Rattle.lru_shared_order.proofs.locked.LockedUnit.admit.Goals as goal

pub invariant_of-self-clause-home : goal.invariant_of-self-clause-home
invariant_of-self-clause-home g c =
    let old = c.args.self.now in
    home_edit g.row.N old.number c.args.key old.unit c.admit-answer.new.self (edits_admit old.unit c.args.key c.args.«data» c.max.result c.admit-answer.result c.admit-answer.new.self c.admit-answer.ensures) c.requires old.home
