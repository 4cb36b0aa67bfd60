use Rattle.std.proofs.Common.{length, ap, ◌∙◌, arith, subst}
use Rattle.lru_pairs.specs.Representation.Nodes.{ArePairs, keys_in}
use Rattle.lru_pairs.proofs.Shown.{keys-cons}
use Rattle.lru_pairs.proofs.iter.PairsKeysIterator.next.Goals as goal

pub pair_of-requires : goal.pair_of-requires
pair_of-requires g c = (subst ArePairs c.in_ok-node.ensures.steps c.self.invariant).0

pub invariant_of-self-2 : goal.invariant_of-self-2
invariant_of-self-2 g c = (subst ArePairs c.in_ok-node.ensures.steps c.self.invariant).1

pub returns-clause-steps : goal.returns-clause-steps
returns-clause-steps g c = rw (← c.self.view_is) (ap keys_in c.in_ok-node.ensures.steps ∙ keys-cons c.in_ok-node.node.now c.next.new.self c.pair_of.result.now c.pair_of.ensures)

pub returns-clause-goes : goal.returns-clause-goes
returns-clause-goes g c = record { on = λ _. (tt, tt, omega (arith, ap length (returns-clause-steps g c))); keeps = tt; rests = λ _. tt }
