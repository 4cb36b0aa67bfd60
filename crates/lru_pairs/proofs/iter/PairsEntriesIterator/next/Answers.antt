use Rattle.std.proofs.Common.{length, ap, sym, ◌∙◌, arith, subst, ◌∷◌}
use Rattle.std.specs.Prelude.{map}
use Rattle.lru_rows.specs.Rows.{entry_of}
use Rattle.lru_pairs.specs.Representation.Nodes.{rows_in, AreWeighed}
use Rattle.lru_pairs.proofs.Shown.{entries-cons}
use Rattle.lru_pairs.proofs.iter.PairsEntriesIterator.next.Goals as goal

pub pair_of-pair-requires : goal.pair_of-pair-requires
pair_of-pair-requires g c = (subst (AreWeighed c.self.inside.weights.now) c.in_ok-place.ensures.steps c.self.invariant).0

pub weight_at-requires : goal.weight_at-requires
weight_at-requires g c = (subst (AreWeighed c.self.inside.weights.now) c.in_ok-place.ensures.steps c.self.invariant).1.0

pub invariant_of-self-2 : goal.invariant_of-self-2
invariant_of-self-2 g c = (subst (AreWeighed c.self.inside.weights.now) c.in_ok-place.ensures.steps c.self.invariant).1.1

pub returns-clause-steps : goal.returns-clause-steps
returns-clause-steps g c =
    let weights = c.self.inside.weights.now in
    rw (← c.self.view_is)
    (ap (λ ps. map entry_of (rows_in weights ps)) c.in_ok-place.ensures.steps ∙ entries-cons weights (c.in_ok-place.place, c.in_ok-place.node.now) c.next.new.self c.pair_of-pair.result.now c.pair_of-pair.ensures
    ∙ ap (λ n. (c.pair_of-pair.result.now.0, c.pair_of-pair.result.now.1, n) ∷ map entry_of (rows_in weights c.next.new.self)) (sym c.weight_at.ensures))

pub returns-clause-goes : goal.returns-clause-goes
returns-clause-goes g c = record { on = λ _. (tt, tt, omega (arith, ap length (returns-clause-steps g c))); keeps = tt; rests = λ _. tt }
