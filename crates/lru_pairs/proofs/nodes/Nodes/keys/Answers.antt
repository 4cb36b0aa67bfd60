use Rattle.std.proofs.Common.{subst, sym, ap, ◌∙◌}
use Rattle.lru_pairs.specs.Representation.Nodes.{ArePairs, keys_in}
use Rattle.lru_pairs.proofs.Shown.{pairs_all, all_keys}
use Rattle.lru_pairs.proofs.nodes.Nodes.keys.Goals as goal

pub invariant_of-result : goal.invariant_of-result
invariant_of-result g c = subst ArePairs (sym c.iter.ensures.rest) (pairs_all c.self.inside.list.live c.self.invariant.held)

pub returns : goal.returns
returns g c = ap keys_in c.iter.ensures.rest ∙ all_keys c.self.inside.weights.items c.self.inside.list c.self.invariant c.args.self.now c.self.view_is
