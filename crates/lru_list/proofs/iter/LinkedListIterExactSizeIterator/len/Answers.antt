use Rattle.std.proofs.Common.{sym}
use Rattle.lru_list.proofs.LinkedSpans.{length-rest}
use Rattle.lru_list.proofs.iter.LinkedListIterExactSizeIterator.len.Goals as goal

pub returns-clause-value : goal.returns-clause-value
returns-clause-value g c =
    let it = c.self.inside in
    rw (← c.self.view_is) (sym (length-rest it.nodes.now it.head it.tail it.left c.self.invariant))
