use Rattle.std.proofs.Common.{length, ap, sym, ◌∙◌, arith, subst, [], ◌∷◌, ◌++◌}
use Rattle.std.specs.Prelude.{is_some, map}
use Rattle.lru_list.specs.Linked.{indices_of}
use Rattle.lru_rows.specs.Rows.{entry_of}
use Rattle.std.proofs.lemmas.List.{length_push}
use Rattle.lru_rows.specs.Representation.Columns.{rows_in, ShowsAll}
use Rattle.lru_rows.proofs.Shown.{shows_split, entries-push, places-push}
use Rattle.lru_rows.proofs.iter.RowsEntriesDoubleEndedIterator.next_back.Goals as goal

pub pair_at-weight-requires-clause-held : goal.pair_at-weight-requires-clause-held
pair_at-weight-requires-clause-held g c =
    let i = c.self.inside in
    let split = shows_split i.weights.now i.values.now (indices_of c.next_back.new.self) c.in_ok-place.place (subst (ShowsAll i.weights.now i.values.now) (ap indices_of c.in_ok-place.ensures.steps ∙ places-push i.weights.now i.values.now c.next_back.new.self (c.in_ok-place.place, c.in_ok-place.key.now)) c.self.invariant) in
    ap is_some split.1.0.1

pub pair_at-weight-requires-clause-weighed : goal.pair_at-weight-requires-clause-weighed
pair_at-weight-requires-clause-weighed g c =
    let i = c.self.inside in
    (shows_split i.weights.now i.values.now (indices_of c.next_back.new.self) c.in_ok-place.place (subst (ShowsAll i.weights.now i.values.now) (ap indices_of c.in_ok-place.ensures.steps ∙ places-push i.weights.now i.values.now c.next_back.new.self (c.in_ok-place.place, c.in_ok-place.key.now)) c.self.invariant)).1.1

pub invariant_of-self-2 : goal.invariant_of-self-2
invariant_of-self-2 g c =
    let i = c.self.inside in
    (shows_split i.weights.now i.values.now (indices_of c.next_back.new.self) c.in_ok-place.place (subst (ShowsAll i.weights.now i.values.now) (ap indices_of c.in_ok-place.ensures.steps ∙ places-push i.weights.now i.values.now c.next_back.new.self (c.in_ok-place.place, c.in_ok-place.key.now)) c.self.invariant)).0

pub returns-clause-steps : goal.returns-clause-steps
returns-clause-steps g c =
    let weights = c.self.inside.weights.now in
    let values = c.self.inside.values.now in
    rw (← c.self.view_is)
    (ap (λ ps. map entry_of (rows_in weights values ps)) c.in_ok-place.ensures.steps ∙ entries-push weights values c.next_back.new.self (c.in_ok-place.place, c.in_ok-place.key.now) c.pair_at-weight.result.0.now c.pair_at-weight.ensures.value
    ∙ ap (λ n. map entry_of (rows_in weights values c.next_back.new.self) ++ (c.in_ok-place.key.now, c.pair_at-weight.result.0.now, n) ∷ []) (sym c.pair_at-weight.ensures.weight))

pub returns-clause-goes : goal.returns-clause-goes
returns-clause-goes g c =
    let i = c.self.inside in
    let fewer = ap length (returns-clause-steps g c) ∙ length_push (map entry_of (rows_in i.weights.now i.values.now c.next_back.new.self)) (c.in_ok-place.key.now, c.pair_at-weight.result.0.now, c.pair_at-weight.result.1) in
    record { on = λ _. (tt, tt, omega (arith, fewer)); keeps = tt; rests = λ _. tt }
