use Rattle.lru_pairs.proofs.Shown.{all_weighed, all_entries}
use Rattle.lru_pairs.proofs.nodes.Nodes.entries.Goals as goal

pub invariant_of-result : goal.invariant_of-result
invariant_of-result g c = rw c.as_slice.ensures.value (rw c.entries.ensures.rest (all_weighed c.self.inside.weights.items c.self.inside.list c.self.invariant))

pub returns : goal.returns
returns g c = rw c.as_slice.ensures.value (rw c.entries.ensures.rest (all_entries c.self.inside.weights.items c.self.inside.list c.self.invariant c.args.self.now c.self.view_is))
