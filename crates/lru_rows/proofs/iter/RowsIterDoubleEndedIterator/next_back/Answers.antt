use Rattle.std.proofs.Common.{length, ap, sym, ◌∙◌, arith, subst, [], ◌∷◌, ◌++◌}
use Rattle.std.specs.Prelude.{is_some}
use Rattle.std.proofs.lemmas.List.{length_push}
use Rattle.lru_rows.specs.Representation.Columns.{pairs_at, ShowsAll}
use Rattle.lru_rows.proofs.Shown.{shows_split, pairs-push}
use Rattle.lru_rows.proofs.iter.RowsIterDoubleEndedIterator.next_back.Goals as goal

pub pair_at-requires-clause-held : goal.pair_at-requires-clause-held
pair_at-requires-clause-held g c =
    let i = c.self.inside in
    let split = shows_split i.weights.now i.values.now c.next_back.new.self c.in_ok-place.place (subst (ShowsAll i.weights.now i.values.now) c.in_ok-place.ensures.steps c.self.invariant) in
    ap is_some split.1.0.1

pub pair_at-requires-clause-weighed : goal.pair_at-requires-clause-weighed
pair_at-requires-clause-weighed g c =
    let i = c.self.inside in
    (shows_split i.weights.now i.values.now c.next_back.new.self c.in_ok-place.place (subst (ShowsAll i.weights.now i.values.now) c.in_ok-place.ensures.steps c.self.invariant)).1.1

pub invariant_of-self-2 : goal.invariant_of-self-2
invariant_of-self-2 g c =
    let i = c.self.inside in
    (shows_split i.weights.now i.values.now c.next_back.new.self c.in_ok-place.place (subst (ShowsAll i.weights.now i.values.now) c.in_ok-place.ensures.steps c.self.invariant)).0

pub returns-clause-steps : goal.returns-clause-steps
returns-clause-steps g c =
    let weights = c.self.inside.weights.now in
    let values = c.self.inside.values.now in
    rw (← c.self.view_is)
    (ap (pairs_at weights values) c.in_ok-place.ensures.steps ∙ pairs-push weights values c.next_back.new.self c.in_ok-place.place c.pair_at.result.0.now c.pair_at.ensures.value
    ∙ ap (λ n. pairs_at weights values c.next_back.new.self ++ (c.pair_at.result.0.now, n) ∷ []) (sym c.pair_at.ensures.weight))

pub returns-clause-goes : goal.returns-clause-goes
returns-clause-goes g c =
    let i = c.self.inside in
    let fewer = ap length (returns-clause-steps g c) ∙ length_push (pairs_at i.weights.now i.values.now c.next_back.new.self) (c.pair_at.result.0.now, c.pair_at.result.1) in
    record { on = λ _. (tt, tt, omega (arith, fewer)); keeps = tt; rests = λ _. tt }
