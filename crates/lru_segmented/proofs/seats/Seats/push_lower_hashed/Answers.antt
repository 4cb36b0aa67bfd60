use Rattle.std.proofs.Common.{arith, ◌∙◌, ap, subst, sym}
use Rattle.lru_rows.specs.Rows.{LacksPlace, recency}
use Rattle.lru_segmented.specs.Seats.{rows}
use Rattle.lru_segmented.proofs.Seated.{unseated, boundary_stands, weighs, no_seat, few_rows, unchanged, kept_lower_more, view_lower_more, lacks}
use Rattle.lru_segmented.proofs.seats.Seats.push_lower_hashed.Goals as goal

pub push_before_hashed-requires-clause-absent : goal.push_before_hashed-requires-clause-absent
push_before_hashed-requires-clause-absent g c = unseated c.self.inside.rows.held c.self.inside.rows.hashes c.self.inside.boundary c.self.inside.weight c.self.inside.upper_weight c.self.inside.upper_len c.self.invariant c.args.self.now c.self.view_is g.K.PartialEq.eq c.args.key c.requires.absent

pub push_before_hashed-requires-clause-before : goal.push_before_hashed-requires-clause-before
push_before_hashed-requires-clause-before g c = boundary_stands c.self.inside.rows.held c.self.inside.rows.hashes c.self.inside.boundary c.self.inside.weight c.self.inside.upper_weight c.self.inside.upper_len c.self.invariant c.args.self.now c.self.view_is

pub overflow_add-self : goal.overflow_add-self
overflow_add-self g c = omega (arith, c.requires.light, weighs c.self.inside.rows.held c.self.inside.rows.hashes c.self.inside.boundary c.self.inside.weight c.self.inside.upper_weight c.self.inside.upper_len c.self.invariant c.args.self.now c.self.view_is)

pub invariant_of-self : goal.invariant_of-self
invariant_of-self g c = kept_lower_more c.self.inside.rows.held c.self.inside.rows.hashes c.self.inside.boundary c.self.inside.weight c.self.inside.upper_weight c.self.inside.upper_len c.self.invariant c.args.self.now c.self.view_is c.args.key c.args.value c.args.weight c.in-Ok.place c.in-Ok.ensures.pushes.0 c.in-Ok.ensures.pushes.1 c.push_before_hashed.new.self.held c.in-Ok.ensures.pushes.2

pub returns-in-Ok : goal.returns-in-Ok
returns-in-Ok g c = (
  few_rows c.self.inside.rows.held c.self.inside.rows.hashes c.self.inside.boundary c.self.inside.weight c.self.inside.upper_weight c.self.inside.upper_len c.self.invariant c.args.self.now c.self.view_is c.in-Ok.ensures.pushes.0,
  (no_seat c.self.inside.rows.held c.self.inside.rows.hashes c.self.inside.boundary c.self.inside.weight c.self.inside.upper_weight c.self.inside.upper_len c.self.invariant c.args.self.now c.self.view_is c.args.key c.args.value c.args.weight c.in-Ok.place c.in-Ok.ensures.pushes.0 c.in-Ok.ensures.pushes.1, view_lower_more c.self.inside.rows.held c.self.inside.rows.hashes c.self.inside.boundary c.self.inside.weight c.self.inside.upper_weight c.self.inside.upper_len c.self.invariant c.args.self.now c.self.view_is c.args.key c.args.value c.args.weight c.in-Ok.place c.in-Ok.ensures.pushes.0 c.in-Ok.ensures.pushes.1 c.push_before_hashed.new.self.held c.in-Ok.ensures.pushes.2 c.push_before_hashed.new.self.hashes c.in-Ok.ensures.hashes),
)

pub returns-in-Err : goal.returns-in-Err
returns-in-Err g c = (
  subst (LacksPlace (recency (rows c.args.self.now) c.args.self.now.free)) (sym c.stripped.ensures.cause) (lacks c.self.inside.rows.held c.self.inside.rows.hashes c.self.inside.boundary c.self.inside.weight c.self.inside.upper_weight c.self.inside.upper_len c.self.invariant c.args.self.now c.self.view_is c.in-Err.back.cause c.in-Err.ensures.pushes.0),
  (
    c.stripped.ensures.key ∙ c.in-Err.ensures.pushes.1,
    (c.stripped.ensures.value ∙ ap (λ y. y.value) c.in-Err.ensures.pushes.2, unchanged c.self.inside.rows.held c.self.inside.rows.hashes c.self.inside.boundary c.self.inside.weight c.self.inside.upper_weight c.self.inside.upper_len c.self.invariant c.args.self.now c.self.view_is c.push_before_hashed.new.self.held c.in-Err.ensures.pushes.3 c.push_before_hashed.new.self.hashes c.in-Err.ensures.hashes),
  ),
)
