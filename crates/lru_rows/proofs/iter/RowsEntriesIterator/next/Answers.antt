use Rattle.std.proofs.Common.{length, ap, sym, ◌∙◌, arith, subst, ◌∷◌}
use Rattle.std.specs.Prelude.{is_some, map}
use Rattle.lru_list.specs.Linked.{indices_of}
use Rattle.lru_rows.specs.Rows.{entry_of}
use Rattle.lru_rows.specs.Representation.Columns.{rows_in, ShowsAll}
use Rattle.lru_rows.proofs.Shown.{entries-cons}
use Rattle.lru_rows.proofs.iter.RowsEntriesIterator.next.Goals as goal

pub pair_at-weight-requires-clause-held : goal.pair_at-weight-requires-clause-held
pair_at-weight-requires-clause-held g c =
    ap is_some (subst (ShowsAll c.self.inside.weights.now c.self.inside.values.now) (ap indices_of c.in_ok-place.ensures.steps) c.self.invariant).0.1

pub pair_at-weight-requires-clause-weighed : goal.pair_at-weight-requires-clause-weighed
pair_at-weight-requires-clause-weighed g c = (subst (ShowsAll c.self.inside.weights.now c.self.inside.values.now) (ap indices_of c.in_ok-place.ensures.steps) c.self.invariant).1.0

pub invariant_of-self-2 : goal.invariant_of-self-2
invariant_of-self-2 g c = (subst (ShowsAll c.self.inside.weights.now c.self.inside.values.now) (ap indices_of c.in_ok-place.ensures.steps) c.self.invariant).1.1

pub returns-clause-steps : goal.returns-clause-steps
returns-clause-steps g c =
    let weights = c.self.inside.weights.now in
    let values = c.self.inside.values.now in
    rw (← c.self.view_is)
    (ap (λ ps. map entry_of (rows_in weights values ps)) c.in_ok-place.ensures.steps ∙ entries-cons weights values (c.in_ok-place.place, c.in_ok-place.key.now) c.next.new.self c.pair_at-weight.result.0.now c.pair_at-weight.ensures.value
    ∙ ap (λ n. (c.in_ok-place.key.now, c.pair_at-weight.result.0.now, n) ∷ map entry_of (rows_in weights values c.next.new.self)) (sym c.pair_at-weight.ensures.weight))

pub returns-clause-goes : goal.returns-clause-goes
returns-clause-goes g c = record { on = λ _. (tt, tt, omega (arith, ap length (returns-clause-steps g c))); keeps = tt; rests = λ _. tt }
