use Rattle.std.proofs.Common.{arith, ◌∙◌}
use Rattle.lru_segmented.proofs.Seated.{seat_stands, sunk_stands, sunk_weight, sunk_fits, kept_sunk_lower, kept_sunk_upper, view_sunk}
use Rattle.lru_segmented.proofs.seats.Seats.sink.Goals as goal

pub pass-passed-requires : goal.pass-passed-requires
pass-passed-requires g c = seat_stands c.self.inside.rows.held c.self.inside.rows.hashes c.self.inside.boundary c.self.inside.weight c.self.inside.upper_weight c.self.inside.upper_len c.self.invariant c.args.self.now c.self.view_is c.args.place c.requires

pub demote-requires : goal.demote-requires
demote-requires g c = seat_stands c.self.inside.rows.held c.self.inside.rows.hashes c.self.inside.boundary c.self.inside.weight c.self.inside.upper_weight c.self.inside.upper_len c.self.invariant c.args.self.now c.self.view_is c.args.place c.requires

pub weight_at-weight-requires : goal.weight_at-weight-requires
weight_at-weight-requires g c = sunk_stands c.self.inside.rows.held c.self.inside.rows.hashes c.self.inside.boundary c.self.inside.weight c.self.inside.upper_weight c.self.inside.upper_len c.self.invariant c.args.self.now c.self.view_is c.args.place c.requires c.demote.new.self.held c.demote.ensures.rows

pub mark-upper-requires : goal.mark-upper-requires
mark-upper-requires g c = sunk_stands c.self.inside.rows.held c.self.inside.rows.hashes c.self.inside.boundary c.self.inside.weight c.self.inside.upper_weight c.self.inside.upper_len c.self.invariant c.args.self.now c.self.view_is c.args.place c.requires c.demote.new.self.held c.demote.ensures.rows

pub invariant_of-self : goal.invariant_of-self
invariant_of-self g c = kept_sunk_lower c.self.inside.rows.held c.self.inside.rows.hashes c.self.inside.boundary c.self.inside.weight c.self.inside.upper_weight c.self.inside.upper_len c.self.invariant c.args.self.now c.self.view_is c.args.place c.requires c.demote.new.self.held c.demote.ensures.rows c.mark-upper.result c.mark-upper.new.rows.held c.mark-upper.ensures.marks c.pass-passed.result c.pass-passed.ensures c.begins-self-inside.result c.begins-self-inside.ensures c.if-not-upper.true

pub returns-then-not-upper : goal.returns-then-not-upper
returns-then-not-upper g c = view_sunk c.self.inside.rows.held c.self.inside.rows.hashes c.self.inside.boundary c.self.inside.weight c.self.inside.upper_weight c.self.inside.upper_len c.self.invariant c.args.self.now c.self.view_is c.args.place c.requires c.demote.new.self.held c.demote.ensures.rows c.mark-upper.result c.mark-upper.new.rows.held c.mark-upper.ensures.marks c.mark-upper.new.rows.hashes (c.mark-upper.ensures.hashes ∙ c.demote.ensures.hashes)

pub overflow_sub-self : goal.overflow_sub-self
overflow_sub-self g c = omega (arith, (sunk_fits c.self.inside.rows.held c.self.inside.rows.hashes c.self.inside.boundary c.self.inside.weight c.self.inside.upper_weight c.self.inside.upper_len c.self.invariant c.args.self.now c.self.view_is c.args.place c.requires c.demote.new.self.held c.demote.ensures.rows c.mark-upper.result c.mark-upper.new.rows.held c.mark-upper.ensures.marks c.weight_at-weight.result (sunk_weight c.self.inside.rows.held c.self.inside.rows.hashes c.self.inside.boundary c.self.inside.weight c.self.inside.upper_weight c.self.inside.upper_len c.self.invariant c.args.self.now c.self.view_is c.args.place c.requires c.demote.new.self.held c.demote.ensures.rows c.weight_at-weight.result c.weight_at-weight.ensures) c.if-not-upper.false).0)

pub overflow_sub-self-2 : goal.overflow_sub-self-2
overflow_sub-self-2 g c = omega (arith, (sunk_fits c.self.inside.rows.held c.self.inside.rows.hashes c.self.inside.boundary c.self.inside.weight c.self.inside.upper_weight c.self.inside.upper_len c.self.invariant c.args.self.now c.self.view_is c.args.place c.requires c.demote.new.self.held c.demote.ensures.rows c.mark-upper.result c.mark-upper.new.rows.held c.mark-upper.ensures.marks c.weight_at-weight.result (sunk_weight c.self.inside.rows.held c.self.inside.rows.hashes c.self.inside.boundary c.self.inside.weight c.self.inside.upper_weight c.self.inside.upper_len c.self.invariant c.args.self.now c.self.view_is c.args.place c.requires c.demote.new.self.held c.demote.ensures.rows c.weight_at-weight.result c.weight_at-weight.ensures) c.if-not-upper.false).1)

pub invariant_of-self-2 : goal.invariant_of-self-2
invariant_of-self-2 g c = kept_sunk_upper c.self.inside.rows.held c.self.inside.rows.hashes c.self.inside.boundary c.self.inside.weight c.self.inside.upper_weight c.self.inside.upper_len c.self.invariant c.args.self.now c.self.view_is c.args.place c.requires c.demote.new.self.held c.demote.ensures.rows c.mark-upper.result c.mark-upper.new.rows.held c.mark-upper.ensures.marks c.pass-passed.result c.pass-passed.ensures c.begins-self-inside.result c.begins-self-inside.ensures c.if-not-upper.false c.weight_at-weight.result (sunk_weight c.self.inside.rows.held c.self.inside.rows.hashes c.self.inside.boundary c.self.inside.weight c.self.inside.upper_weight c.self.inside.upper_len c.self.invariant c.args.self.now c.self.view_is c.args.place c.requires c.demote.new.self.held c.demote.ensures.rows c.weight_at-weight.result c.weight_at-weight.ensures)

pub returns : goal.returns
returns g c = view_sunk c.self.inside.rows.held c.self.inside.rows.hashes c.self.inside.boundary c.self.inside.weight c.self.inside.upper_weight c.self.inside.upper_len c.self.invariant c.args.self.now c.self.view_is c.args.place c.requires c.demote.new.self.held c.demote.ensures.rows c.mark-upper.result c.mark-upper.new.rows.held c.mark-upper.ensures.marks c.mark-upper.new.rows.hashes (c.mark-upper.ensures.hashes ∙ c.demote.ensures.hashes)
