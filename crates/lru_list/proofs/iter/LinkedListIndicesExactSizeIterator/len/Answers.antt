use Rattle.std.proofs.Common.{sym}
use Rattle.lru_list.specs.Representation.Nodes.{nexts}
use Rattle.lru_list.proofs.Chains.{length-path}
use Rattle.lru_list.proofs.iter.LinkedListIndicesExactSizeIterator.len.Goals as goal

pub returns-clause-value : goal.returns-clause-value
returns-clause-value g c =
    let it = c.self.inside in
    rw (← c.self.view_is) (sym (length-path (nexts it.nodes.now) it.count it.first))
