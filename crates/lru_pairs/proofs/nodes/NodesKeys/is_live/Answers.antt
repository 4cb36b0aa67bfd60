use Rattle.std.proofs.Common.{◌∙◌}
use Rattle.lru_pairs.proofs.Seen.{keys_is}
use Rattle.lru_pairs.proofs.nodes.NodesKeys.is_live.Goals as goal

pub returns : goal.returns
returns g c = c.is_live.ensures ∙ keys_is c.self.inside.weights.items c.self.inside.list c.self.invariant c.args.self.now c.self.view_is c.args.place
