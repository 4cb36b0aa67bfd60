use Rattle.std.proofs.Common.{arith}
use Rattle.lru_segmented.proofs.Seated.{seat_stands, out_light, out_upper, kept_upper_out, kept_lower_out, taken_is, view_out}
use Rattle.lru_segmented.proofs.seats.Seats.take.Goals as goal

pub pass-self-inside-requires : goal.pass-self-inside-requires
pass-self-inside-requires g c = seat_stands c.self.inside.rows.held c.self.inside.rows.hashes c.self.inside.boundary c.self.inside.weight c.self.inside.upper_weight c.self.inside.upper_len c.self.invariant c.args.self.now c.self.view_is c.args.place c.requires

pub take-row-requires : goal.take-row-requires
take-row-requires g c = seat_stands c.self.inside.rows.held c.self.inside.rows.hashes c.self.inside.boundary c.self.inside.weight c.self.inside.upper_weight c.self.inside.upper_len c.self.invariant c.args.self.now c.self.view_is c.args.place c.requires

pub overflow_sub-self : goal.overflow_sub-self
overflow_sub-self g c = omega (arith, out_light c.self.inside.rows.held c.self.inside.rows.hashes c.self.inside.boundary c.self.inside.weight c.self.inside.upper_weight c.self.inside.upper_len c.self.invariant c.args.self.now c.self.view_is c.args.place c.requires c.take-row.result c.take-row.ensures.taken c.take-row.new.self.held c.take-row.ensures.rows)

pub invariant_of-self : goal.invariant_of-self
invariant_of-self g c = kept_lower_out c.self.inside.rows.held c.self.inside.rows.hashes c.self.inside.boundary c.self.inside.weight c.self.inside.upper_weight c.self.inside.upper_len c.self.invariant c.args.self.now c.self.view_is c.args.place c.requires c.take-row.result c.take-row.ensures.taken c.take-row.new.self.held c.take-row.ensures.rows c.pass-self-inside.result c.pass-self-inside.ensures c.if-not-upper.true

pub returns-then-not-upper-clause-taken : goal.returns-then-not-upper-clause-taken
returns-then-not-upper-clause-taken g c = taken_is c.self.inside.rows.held c.self.inside.rows.hashes c.self.inside.boundary c.self.inside.weight c.self.inside.upper_weight c.self.inside.upper_len c.self.invariant c.args.self.now c.self.view_is c.args.place c.requires c.take-row.result c.take-row.ensures.taken c.take-row.new.self.held c.take-row.ensures.rows

pub returns-then-not-upper-clause-rows : goal.returns-then-not-upper-clause-rows
returns-then-not-upper-clause-rows g c = view_out c.self.inside.rows.held c.self.inside.rows.hashes c.self.inside.boundary c.self.inside.weight c.self.inside.upper_weight c.self.inside.upper_len c.self.invariant c.args.self.now c.self.view_is c.args.place c.requires c.take-row.result c.take-row.ensures.taken c.take-row.new.self.held c.take-row.ensures.rows c.take-row.new.self.hashes c.take-row.ensures.hashes

pub overflow_sub-self-2 : goal.overflow_sub-self-2
overflow_sub-self-2 g c = omega (arith, (out_upper c.self.inside.rows.held c.self.inside.rows.hashes c.self.inside.boundary c.self.inside.weight c.self.inside.upper_weight c.self.inside.upper_len c.self.invariant c.args.self.now c.self.view_is c.args.place c.requires c.take-row.result c.take-row.ensures.taken c.take-row.new.self.held c.take-row.ensures.rows c.if-not-upper.false).0)

pub overflow_sub-self-3 : goal.overflow_sub-self-3
overflow_sub-self-3 g c = omega (arith, (out_upper c.self.inside.rows.held c.self.inside.rows.hashes c.self.inside.boundary c.self.inside.weight c.self.inside.upper_weight c.self.inside.upper_len c.self.invariant c.args.self.now c.self.view_is c.args.place c.requires c.take-row.result c.take-row.ensures.taken c.take-row.new.self.held c.take-row.ensures.rows c.if-not-upper.false).1)

pub invariant_of-self-2 : goal.invariant_of-self-2
invariant_of-self-2 g c = kept_upper_out c.self.inside.rows.held c.self.inside.rows.hashes c.self.inside.boundary c.self.inside.weight c.self.inside.upper_weight c.self.inside.upper_len c.self.invariant c.args.self.now c.self.view_is c.args.place c.requires c.take-row.result c.take-row.ensures.taken c.take-row.new.self.held c.take-row.ensures.rows c.pass-self-inside.result c.pass-self-inside.ensures c.if-not-upper.false

pub returns-clause-taken : goal.returns-clause-taken
returns-clause-taken g c = taken_is c.self.inside.rows.held c.self.inside.rows.hashes c.self.inside.boundary c.self.inside.weight c.self.inside.upper_weight c.self.inside.upper_len c.self.invariant c.args.self.now c.self.view_is c.args.place c.requires c.take-row.result c.take-row.ensures.taken c.take-row.new.self.held c.take-row.ensures.rows

pub returns-clause-rows : goal.returns-clause-rows
returns-clause-rows g c = view_out c.self.inside.rows.held c.self.inside.rows.hashes c.self.inside.boundary c.self.inside.weight c.self.inside.upper_weight c.self.inside.upper_len c.self.invariant c.args.self.now c.self.view_is c.args.place c.requires c.take-row.result c.take-row.ensures.taken c.take-row.new.self.held c.take-row.ensures.rows c.take-row.new.self.hashes c.take-row.ensures.hashes
