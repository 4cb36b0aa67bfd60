use Rattle.std.proofs.Common.{length, ap, ◌∙◌, arith, subst}
use Rattle.std.proofs.lemmas.List.{length_push}
use Rattle.lru_pairs.specs.Representation.Nodes.{ArePairs, keys_in}
use Rattle.lru_pairs.proofs.Shown.{pairs_split, keys-push}
use Rattle.lru_pairs.proofs.iter.PairsKeysDoubleEndedIterator.next_back.Goals as goal

pub pair_of-requires : goal.pair_of-requires
pair_of-requires g c = (pairs_split c.next_back.new.self c.in_ok-node.node.now (subst ArePairs c.in_ok-node.ensures.steps c.self.invariant)).1

pub invariant_of-self-2 : goal.invariant_of-self-2
invariant_of-self-2 g c = (pairs_split c.next_back.new.self c.in_ok-node.node.now (subst ArePairs c.in_ok-node.ensures.steps c.self.invariant)).0

pub returns-clause-steps : goal.returns-clause-steps
returns-clause-steps g c = rw (← c.self.view_is) (ap keys_in c.in_ok-node.ensures.steps ∙ keys-push c.next_back.new.self c.in_ok-node.node.now c.pair_of.result.now c.pair_of.ensures)

pub returns-clause-goes : goal.returns-clause-goes
returns-clause-goes g c =
    let fewer = ap length (returns-clause-steps g c) ∙ length_push (keys_in c.next_back.new.self) c.pair_of.result.now.0 in
    record { on = λ _. (tt, tt, omega (arith, fewer)); keeps = tt; rests = λ _. tt }
