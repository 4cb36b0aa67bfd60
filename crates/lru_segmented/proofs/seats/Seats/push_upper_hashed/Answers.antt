use Rattle.std.proofs.Common.{arith, ◌∙◌, ap, subst, sym}
use Rattle.lru_rows.specs.Rows.{LacksPlace, recency}
use Rattle.lru_segmented.specs.Seats.{rows}
use Rattle.lru_segmented.proofs.Seated.{unseated, weighs, no_seat, few_rows, counted, unchanged, kept_upper_more, view_upper_more, lacks}
use Rattle.lru_segmented.proofs.seats.Seats.push_upper_hashed.Goals as goal

pub push_first_hashed-requires-clause-absent : goal.push_first_hashed-requires-clause-absent
push_first_hashed-requires-clause-absent g c = unseated c.self.inside.rows.held c.self.inside.rows.hashes c.self.inside.boundary c.self.inside.weight c.self.inside.upper_weight c.self.inside.upper_len c.self.invariant c.args.self.now c.self.view_is g.K.PartialEq.eq c.args.key c.requires.absent

pub overflow_add-self : goal.overflow_add-self
overflow_add-self g c = omega (arith, c.requires.light, weighs c.self.inside.rows.held c.self.inside.rows.hashes c.self.inside.boundary c.self.inside.weight c.self.inside.upper_weight c.self.inside.upper_len c.self.invariant c.args.self.now c.self.view_is)

pub overflow_add-self-in-Ok : goal.overflow_add-self-in-Ok
overflow_add-self-in-Ok g c = omega (arith, c.requires.light, weighs c.self.inside.rows.held c.self.inside.rows.hashes c.self.inside.boundary c.self.inside.weight c.self.inside.upper_weight c.self.inside.upper_len c.self.invariant c.args.self.now c.self.view_is, (counted c.self.inside.rows.held c.self.inside.rows.hashes c.self.inside.boundary c.self.inside.weight c.self.inside.upper_weight c.self.inside.upper_len c.self.invariant c.args.self.now c.self.view_is).0, (counted c.self.inside.rows.held c.self.inside.rows.hashes c.self.inside.boundary c.self.inside.weight c.self.inside.upper_weight c.self.inside.upper_len c.self.invariant c.args.self.now c.self.view_is).1, c.in-Ok.ensures.pushes.0)

pub invariant_of-self : goal.invariant_of-self
invariant_of-self g c = kept_upper_more c.self.inside.rows.held c.self.inside.rows.hashes c.self.inside.boundary c.self.inside.weight c.self.inside.upper_weight c.self.inside.upper_len c.self.invariant c.args.self.now c.self.view_is c.args.key c.args.value c.args.weight c.in-Ok.place c.in-Ok.ensures.pushes.0 c.in-Ok.ensures.pushes.1 c.push_first_hashed.new.self.held c.in-Ok.ensures.pushes.2

pub returns-in-Ok : goal.returns-in-Ok
returns-in-Ok g c = (
  few_rows c.self.inside.rows.held c.self.inside.rows.hashes c.self.inside.boundary c.self.inside.weight c.self.inside.upper_weight c.self.inside.upper_len c.self.invariant c.args.self.now c.self.view_is c.in-Ok.ensures.pushes.0,
  (no_seat c.self.inside.rows.held c.self.inside.rows.hashes c.self.inside.boundary c.self.inside.weight c.self.inside.upper_weight c.self.inside.upper_len c.self.invariant c.args.self.now c.self.view_is c.args.key c.args.value c.args.weight c.in-Ok.place c.in-Ok.ensures.pushes.0 c.in-Ok.ensures.pushes.1, view_upper_more c.self.inside.rows.held c.self.inside.rows.hashes c.self.inside.boundary c.self.inside.weight c.self.inside.upper_weight c.self.inside.upper_len c.self.invariant c.args.self.now c.self.view_is c.args.key c.args.value c.args.weight c.in-Ok.place c.in-Ok.ensures.pushes.0 c.in-Ok.ensures.pushes.1 c.push_first_hashed.new.self.held c.in-Ok.ensures.pushes.2 c.push_first_hashed.new.self.hashes c.in-Ok.ensures.hashes),
)

pub returns-in-Err : goal.returns-in-Err
returns-in-Err g c = (
  subst (LacksPlace (recency (rows c.args.self.now) c.args.self.now.free)) (sym c.stripped.ensures.cause) (lacks c.self.inside.rows.held c.self.inside.rows.hashes c.self.inside.boundary c.self.inside.weight c.self.inside.upper_weight c.self.inside.upper_len c.self.invariant c.args.self.now c.self.view_is c.in-Err.back.cause c.in-Err.ensures.pushes.0),
  (
    c.stripped.ensures.key ∙ c.in-Err.ensures.pushes.1,
    (c.stripped.ensures.value ∙ ap (λ y. y.value) c.in-Err.ensures.pushes.2, unchanged c.self.inside.rows.held c.self.inside.rows.hashes c.self.inside.boundary c.self.inside.weight c.self.inside.upper_weight c.self.inside.upper_len c.self.invariant c.args.self.now c.self.view_is c.push_first_hashed.new.self.held c.in-Err.ensures.pushes.3 c.push_first_hashed.new.self.hashes c.in-Err.ensures.hashes),
  ),
)
