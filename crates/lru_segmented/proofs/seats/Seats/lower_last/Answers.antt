use Rattle.std.proofs.Common.{arith, sym}
use Rattle.lru_segmented.proofs.Seated.{boundary_stands, end_there, last_stands, lowered_fits, kept_lowered, view_lowered}
use Rattle.lru_segmented.proofs.seats.Seats.lower_last.Goals as goal

pub end_before-requires : goal.end_before-requires
end_before-requires g c = boundary_stands c.self.inside.rows.held c.self.inside.rows.hashes c.self.inside.boundary c.self.inside.weight c.self.inside.upper_weight c.self.inside.upper_len c.self.invariant c.args.self.now c.self.view_is

pub unreachable-requires : goal.unreachable-requires
unreachable-requires g c = end_there c.self.inside.rows.held c.self.inside.rows.hashes c.self.inside.boundary c.self.inside.weight c.self.inside.upper_weight c.self.inside.upper_len c.self.invariant c.args.self.now c.self.view_is c.requires (sym c.in_default.ensures)

pub weight_at-weight-requires : goal.weight_at-weight-requires
weight_at-weight-requires g c = last_stands c.self.inside.rows.held c.self.inside.rows.hashes c.self.inside.boundary c.self.inside.weight c.self.inside.upper_weight c.self.inside.upper_len c.self.invariant c.args.self.now c.self.view_is c.requires c.in-Some.place c.in-Some.ensures

pub mark-requires : goal.mark-requires
mark-requires g c = last_stands c.self.inside.rows.held c.self.inside.rows.hashes c.self.inside.boundary c.self.inside.weight c.self.inside.upper_weight c.self.inside.upper_len c.self.invariant c.args.self.now c.self.view_is c.requires c.in-Some.place c.in-Some.ensures

pub overflow_sub-self : goal.overflow_sub-self
overflow_sub-self g c = omega (arith, (lowered_fits c.self.inside.rows.held c.self.inside.rows.hashes c.self.inside.boundary c.self.inside.weight c.self.inside.upper_weight c.self.inside.upper_len c.self.invariant c.args.self.now c.self.view_is c.requires c.in-Some.place c.in-Some.ensures c.weight_at-weight.result c.weight_at-weight.ensures).0)

pub overflow_sub-self-2 : goal.overflow_sub-self-2
overflow_sub-self-2 g c = omega (arith, (lowered_fits c.self.inside.rows.held c.self.inside.rows.hashes c.self.inside.boundary c.self.inside.weight c.self.inside.upper_weight c.self.inside.upper_len c.self.invariant c.args.self.now c.self.view_is c.requires c.in-Some.place c.in-Some.ensures c.weight_at-weight.result c.weight_at-weight.ensures).1)

pub invariant_of-self : goal.invariant_of-self
invariant_of-self g c = kept_lowered c.self.inside.rows.held c.self.inside.rows.hashes c.self.inside.boundary c.self.inside.weight c.self.inside.upper_weight c.self.inside.upper_len c.self.invariant c.args.self.now c.self.view_is c.requires c.in-Some.place c.in-Some.ensures c.weight_at-weight.result c.weight_at-weight.ensures c.mark.result c.mark.new.rows.held c.mark.ensures.marks

pub returns : goal.returns
returns g c = view_lowered c.self.inside.rows.held c.self.inside.rows.hashes c.self.inside.boundary c.self.inside.weight c.self.inside.upper_weight c.self.inside.upper_len c.self.invariant c.args.self.now c.self.view_is c.requires c.in-Some.place c.in-Some.ensures c.weight_at-weight.result c.weight_at-weight.ensures c.mark.result c.mark.new.rows.held c.mark.ensures.marks c.mark.new.rows.hashes c.mark.ensures.hashes
