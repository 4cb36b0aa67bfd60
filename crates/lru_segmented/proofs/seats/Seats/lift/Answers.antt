use Rattle.std.proofs.Common.{arith, sym, ◌∙◌}
use Rattle.std.proofs.lemmas.Bool.{false≢true}
use Rattle.lru_segmented.proofs.Seated.{seat_stands, seat_says, kept_moved, view_moved, moved_weight, first_stands, first_weight, says, lifted_fits, kept_raised, view_lifted}
use Rattle.lru_segmented.proofs.seats.Seats.lift.Goals as goal

pub value_at-requires : goal.value_at-requires
value_at-requires g c = seat_stands c.self.inside.rows.held c.self.inside.rows.hashes c.self.inside.boundary c.self.inside.weight c.self.inside.upper_weight c.self.inside.upper_len c.self.invariant c.args.self.now c.self.view_is c.args.place c.requires

pub promote-requires : goal.promote-requires
promote-requires g c = seat_stands c.self.inside.rows.held c.self.inside.rows.hashes c.self.inside.boundary c.self.inside.weight c.self.inside.upper_weight c.self.inside.upper_len c.self.invariant c.args.self.now c.self.view_is c.args.place c.requires

pub invariant_of-self : goal.invariant_of-self
invariant_of-self g c = kept_moved c.self.inside.rows.held c.self.inside.rows.hashes c.self.inside.boundary c.self.inside.weight c.self.inside.upper_weight c.self.inside.upper_len c.self.invariant c.args.self.now c.self.view_is c.args.place c.requires c.promote.new.self.held c.promote.ensures.rows (sym (seat_says c.self.inside.rows.held c.self.inside.rows.hashes c.self.inside.boundary c.self.inside.weight c.self.inside.upper_weight c.self.inside.upper_len c.self.invariant c.args.self.now c.self.view_is c.args.place c.requires c.value_at.result.now c.value_at.ensures) ∙ c.if-upper.true)

pub returns-then-upper-clause-lifted : goal.returns-then-upper-clause-lifted
returns-then-upper-clause-lifted g c = view_moved c.self.inside.rows.held c.self.inside.rows.hashes c.self.inside.boundary c.self.inside.weight c.self.inside.upper_weight c.self.inside.upper_len c.self.invariant c.args.self.now c.self.view_is c.args.place c.requires c.promote.new.self.held c.promote.ensures.rows (sym (seat_says c.self.inside.rows.held c.self.inside.rows.hashes c.self.inside.boundary c.self.inside.weight c.self.inside.upper_weight c.self.inside.upper_len c.self.invariant c.args.self.now c.self.view_is c.args.place c.requires c.value_at.result.now c.value_at.ensures) ∙ c.if-upper.true) c.promote.new.self.hashes c.promote.ensures.hashes

pub returns-then-upper-clause-kept : goal.returns-then-upper-clause-kept
returns-then-upper-clause-kept g c = λ _. moved_weight c.self.inside.rows.held c.self.inside.rows.hashes c.self.inside.boundary c.self.inside.weight c.self.inside.upper_weight c.self.inside.upper_len c.self.invariant c.args.self.now c.self.view_is c.args.place c.requires c.promote.new.self.held c.promote.ensures.rows (sym (seat_says c.self.inside.rows.held c.self.inside.rows.hashes c.self.inside.boundary c.self.inside.weight c.self.inside.upper_weight c.self.inside.upper_len c.self.invariant c.args.self.now c.self.view_is c.args.place c.requires c.value_at.result.now c.value_at.ensures) ∙ c.if-upper.true) c.promote.new.self.hashes c.promote.ensures.hashes

pub pass-self-inside-requires : goal.pass-self-inside-requires
pass-self-inside-requires g c = seat_stands c.self.inside.rows.held c.self.inside.rows.hashes c.self.inside.boundary c.self.inside.weight c.self.inside.upper_weight c.self.inside.upper_len c.self.invariant c.args.self.now c.self.view_is c.args.place c.requires

pub promote-requires-2 : goal.promote-requires-2
promote-requires-2 g c = seat_stands c.self.inside.rows.held c.self.inside.rows.hashes c.self.inside.boundary c.self.inside.weight c.self.inside.upper_weight c.self.inside.upper_len c.self.invariant c.args.self.now c.self.view_is c.args.place c.requires

pub weight_at-weight-requires : goal.weight_at-weight-requires
weight_at-weight-requires g c = first_stands c.self.inside.rows.held c.self.inside.rows.hashes c.self.inside.boundary c.self.inside.weight c.self.inside.upper_weight c.self.inside.upper_len c.self.invariant c.args.self.now c.self.view_is c.args.place c.requires c.promote-2.new.self.held c.promote-2.ensures.rows

pub mark-requires : goal.mark-requires
mark-requires g c = first_stands c.self.inside.rows.held c.self.inside.rows.hashes c.self.inside.boundary c.self.inside.weight c.self.inside.upper_weight c.self.inside.upper_len c.self.invariant c.args.self.now c.self.view_is c.args.place c.requires c.promote-2.new.self.held c.promote-2.ensures.rows

pub overflow_add-self : goal.overflow_add-self
overflow_add-self g c = omega (arith, (lifted_fits c.self.inside.rows.held c.self.inside.rows.hashes c.self.inside.boundary c.self.inside.weight c.self.inside.upper_weight c.self.inside.upper_len c.self.invariant c.args.self.now c.self.view_is c.args.place c.requires c.promote-2.new.self.held c.promote-2.ensures.rows c.mark.result c.mark.new.rows.held c.mark.ensures.marks c.weight_at-weight.result (first_weight c.self.inside.rows.held c.self.inside.rows.hashes c.self.inside.boundary c.self.inside.weight c.self.inside.upper_weight c.self.inside.upper_len c.self.invariant c.args.self.now c.self.view_is c.args.place c.requires c.promote-2.new.self.held c.promote-2.ensures.rows c.weight_at-weight.result c.weight_at-weight.ensures) (says c.self.inside.rows.held c.self.inside.rows.hashes c.self.inside.boundary c.self.inside.weight c.self.inside.upper_weight c.self.inside.upper_len c.self.invariant c.args.self.now c.self.view_is c.args.place c.requires c.promote-2.new.self.held c.promote-2.ensures.rows c.mark.result c.mark.new.rows.held c.mark.ensures.marks ∙ sym (seat_says c.self.inside.rows.held c.self.inside.rows.hashes c.self.inside.boundary c.self.inside.weight c.self.inside.upper_weight c.self.inside.upper_len c.self.invariant c.args.self.now c.self.view_is c.args.place c.requires c.value_at.result.now c.value_at.ensures) ∙ c.if-upper.false)).0)

pub overflow_add-self-2 : goal.overflow_add-self-2
overflow_add-self-2 g c = omega (arith, (lifted_fits c.self.inside.rows.held c.self.inside.rows.hashes c.self.inside.boundary c.self.inside.weight c.self.inside.upper_weight c.self.inside.upper_len c.self.invariant c.args.self.now c.self.view_is c.args.place c.requires c.promote-2.new.self.held c.promote-2.ensures.rows c.mark.result c.mark.new.rows.held c.mark.ensures.marks c.weight_at-weight.result (first_weight c.self.inside.rows.held c.self.inside.rows.hashes c.self.inside.boundary c.self.inside.weight c.self.inside.upper_weight c.self.inside.upper_len c.self.invariant c.args.self.now c.self.view_is c.args.place c.requires c.promote-2.new.self.held c.promote-2.ensures.rows c.weight_at-weight.result c.weight_at-weight.ensures) (says c.self.inside.rows.held c.self.inside.rows.hashes c.self.inside.boundary c.self.inside.weight c.self.inside.upper_weight c.self.inside.upper_len c.self.invariant c.args.self.now c.self.view_is c.args.place c.requires c.promote-2.new.self.held c.promote-2.ensures.rows c.mark.result c.mark.new.rows.held c.mark.ensures.marks ∙ sym (seat_says c.self.inside.rows.held c.self.inside.rows.hashes c.self.inside.boundary c.self.inside.weight c.self.inside.upper_weight c.self.inside.upper_len c.self.invariant c.args.self.now c.self.view_is c.args.place c.requires c.value_at.result.now c.value_at.ensures) ∙ c.if-upper.false)).1)

pub invariant_of-self-2 : goal.invariant_of-self-2
invariant_of-self-2 g c = kept_raised c.self.inside.rows.held c.self.inside.rows.hashes c.self.inside.boundary c.self.inside.weight c.self.inside.upper_weight c.self.inside.upper_len c.self.invariant c.args.self.now c.self.view_is c.args.place c.requires c.promote-2.new.self.held c.promote-2.ensures.rows c.mark.result c.mark.new.rows.held c.mark.ensures.marks c.pass-self-inside.result c.pass-self-inside.ensures (says c.self.inside.rows.held c.self.inside.rows.hashes c.self.inside.boundary c.self.inside.weight c.self.inside.upper_weight c.self.inside.upper_len c.self.invariant c.args.self.now c.self.view_is c.args.place c.requires c.promote-2.new.self.held c.promote-2.ensures.rows c.mark.result c.mark.new.rows.held c.mark.ensures.marks ∙ sym (seat_says c.self.inside.rows.held c.self.inside.rows.hashes c.self.inside.boundary c.self.inside.weight c.self.inside.upper_weight c.self.inside.upper_len c.self.invariant c.args.self.now c.self.view_is c.args.place c.requires c.value_at.result.now c.value_at.ensures) ∙ c.if-upper.false) c.weight_at-weight.result (first_weight c.self.inside.rows.held c.self.inside.rows.hashes c.self.inside.boundary c.self.inside.weight c.self.inside.upper_weight c.self.inside.upper_len c.self.invariant c.args.self.now c.self.view_is c.args.place c.requires c.promote-2.new.self.held c.promote-2.ensures.rows c.weight_at-weight.result c.weight_at-weight.ensures)

pub returns-clause-lifted : goal.returns-clause-lifted
returns-clause-lifted g c = view_lifted c.self.inside.rows.held c.self.inside.rows.hashes c.self.inside.boundary c.self.inside.weight c.self.inside.upper_weight c.self.inside.upper_len c.self.invariant c.args.self.now c.self.view_is c.args.place c.requires c.promote-2.new.self.held c.promote-2.ensures.rows c.mark.result c.mark.new.rows.held c.mark.ensures.marks c.mark.new.rows.hashes (c.mark.ensures.hashes ∙ c.promote-2.ensures.hashes)

pub returns-clause-kept : goal.returns-clause-kept
returns-clause-kept g c = λ e. absurd (false≢true (sym e))
