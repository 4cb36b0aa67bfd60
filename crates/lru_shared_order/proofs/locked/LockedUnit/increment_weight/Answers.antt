use Rattle.lru_shard.proofs.EditsOf.{edits_increment}
use Rattle.lru_shared_order.proofs.Homes.{home_edit}
use Rattle.lru_shared_order.proofs.locked.LockedUnit.increment_weight.Goals as goal

pub invariant_of-self-clause-home : goal.invariant_of-self-clause-home
invariant_of-self-clause-home g c =
    let old = c.args.self.now in
    home_edit g.row.N old.number c.args.key old.unit c.increment_weight-answer.new.self (edits_increment _ old.unit c.args.key c.args.delta c.args.max_weight c.increment_weight-answer.result c.increment_weight-answer.new.self c.increment_weight-answer.ensures) c.requires.home old.home
