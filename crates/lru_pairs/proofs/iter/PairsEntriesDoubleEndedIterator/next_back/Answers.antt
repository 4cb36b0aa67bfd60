use Rattle.std.proofs.Common.{length, ap, sym, ◌∙◌, arith, subst, [], ◌∷◌, ◌++◌}
use Rattle.std.specs.Prelude.{map}
use Rattle.std.proofs.lemmas.List.{length_push}
use Rattle.lru_rows.specs.Rows.{entry_of}
use Rattle.lru_pairs.specs.Representation.Nodes.{rows_in, AreWeighed}
use Rattle.lru_pairs.proofs.Shown.{weighed_split, entries-push}
use Rattle.lru_pairs.proofs.iter.PairsEntriesDoubleEndedIterator.next_back.Goals as goal

pub pair_of-pair-requires : goal.pair_of-pair-requires
pair_of-pair-requires g c = (weighed_split c.self.inside.weights.now c.next_back.new.self (c.in_ok-place.place, c.in_ok-place.node.now) (subst (AreWeighed c.self.inside.weights.now) c.in_ok-place.ensures.steps c.self.invariant)).1.0

pub weight_at-requires : goal.weight_at-requires
weight_at-requires g c = (weighed_split c.self.inside.weights.now c.next_back.new.self (c.in_ok-place.place, c.in_ok-place.node.now) (subst (AreWeighed c.self.inside.weights.now) c.in_ok-place.ensures.steps c.self.invariant)).1.1

pub invariant_of-self-2 : goal.invariant_of-self-2
invariant_of-self-2 g c = (weighed_split c.self.inside.weights.now c.next_back.new.self (c.in_ok-place.place, c.in_ok-place.node.now) (subst (AreWeighed c.self.inside.weights.now) c.in_ok-place.ensures.steps c.self.invariant)).0

pub returns-clause-steps : goal.returns-clause-steps
returns-clause-steps g c =
    let weights = c.self.inside.weights.now in
    rw (← c.self.view_is)
    (ap (λ ps. map entry_of (rows_in weights ps)) c.in_ok-place.ensures.steps ∙ entries-push weights c.next_back.new.self (c.in_ok-place.place, c.in_ok-place.node.now) c.pair_of-pair.result.now c.pair_of-pair.ensures
    ∙ ap (λ n. map entry_of (rows_in weights c.next_back.new.self) ++ (c.pair_of-pair.result.now.0, c.pair_of-pair.result.now.1, n) ∷ []) (sym c.weight_at.ensures))

pub returns-clause-goes : goal.returns-clause-goes
returns-clause-goes g c =
    let fewer = ap length (returns-clause-steps g c) ∙ length_push (map entry_of (rows_in c.self.inside.weights.now c.next_back.new.self)) (c.pair_of-pair.result.now.0, c.pair_of-pair.result.now.1, c.weight_at.result) in
    record { on = λ _. (tt, tt, omega (arith, fewer)); keeps = tt; rests = λ _. tt }
