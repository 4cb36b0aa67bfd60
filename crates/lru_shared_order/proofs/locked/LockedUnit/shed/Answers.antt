use Rattle.std.proofs.Common.{◌≤◌, arith}
use Rattle.lru_shard.specs.Row.{weight_of}
use Rattle.lru_shard.specs.Limits.{cap_of}
use Rattle.lru_shared_order.proofs.Homes.{home_fewer}
use Rattle.lru_shared_order.proofs.Sheds.{shed_times, sheds_light}
use Rattle.lru_shared_order.proofs.locked.LockedUnit.shed.Goals as goal

pub invariant_of-self-clause-home : goal.invariant_of-self-clause-home
invariant_of-self-clause-home g c =
    let old = c.args.self.now in
    home_fewer g.row.N old.number old.unit c.shed.new.unit (shed_times (λ p x q. goal.F-step g p x tt q) c.args.visit.now old.unit c.args.room.weight c.args.room.len c.shed.new.unit c.shed.new.visit c.shed.ensures.done) old.home

pub returns-clause-visited : goal.returns-clause-visited
returns-clause-visited g c =
    let old = c.args.self.now in
    let light : weight_of old.unit.rows ≤ cap_of g.row.N = omega (arith, c.used_weight-weight.ensures.valid.light, old.capped) in
    sheds_light (λ p x q. goal.F-step g p x tt q) c.args.visit.now old.unit c.args.room.weight c.args.room.len c.shed.new.unit c.shed.new.visit (cap_of g.row.N) c.shed.ensures.done light
