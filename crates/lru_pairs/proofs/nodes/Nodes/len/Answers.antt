use Rattle.lru_pairs.proofs.Seen.{len_is, valid}
use Rattle.lru_pairs.proofs.nodes.Nodes.len.Goals as goal

pub returns-clause-len : goal.returns-clause-len
returns-clause-len g c = len_is c.self.inside.weights.items c.self.inside.list c.self.invariant c.args.self.now c.self.view_is c.len.result c.len.ensures.len

pub returns-clause-valid : goal.returns-clause-valid
returns-clause-valid g c = valid c.self.inside.weights.items c.self.inside.list c.self.invariant c.args.self.now c.self.view_is
