use Rattle.lru_shard.proofs.Told.{untold_from}
use Rattle.lru_shard.proofs.EditsOf.{edits_update}
use Rattle.lru_shared_order.proofs.Homes.{home_edit}
use Rattle.lru_shared_order.proofs.locked.LockedUnit.update_or_admit.Goals as goal

pub invariant_of-self-clause-home : goal.invariant_of-self-clause-home
invariant_of-self-clause-home g c =
    let old = c.args.self.now in
    home_edit g.row.N old.number c.args.key old.unit c.update_or_admit.new.self (edits_update _ _ old.unit c.args.key c.update_or_admit.result c.update_or_admit.new.self c.update_or_admit.ensures) c.requires.home old.home

pub returns-in-Err : goal.returns-in-Err
returns-in-Err g c = untold_from _ _ c.args.self.now.unit c.args.key c.in-Err.refused c.untold.result c.untold.ensures.cause c.untold.ensures.held c.update_or_admit.new.self c.in-Err.ensures
