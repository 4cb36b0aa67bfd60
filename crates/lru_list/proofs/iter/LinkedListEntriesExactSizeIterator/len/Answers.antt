use Rattle.std.proofs.Common.{sym}
use Rattle.lru_list.proofs.LinkedSpans.{length-pairs_of}
use Rattle.lru_list.proofs.iter.LinkedListEntriesExactSizeIterator.len.Goals as goal

pub returns-clause-value : goal.returns-clause-value
returns-clause-value g c =
    let it = c.self.inside in
    rw (← c.self.view_is) (sym (length-pairs_of it.nodes.now it.front it.back it.left c.self.invariant))
