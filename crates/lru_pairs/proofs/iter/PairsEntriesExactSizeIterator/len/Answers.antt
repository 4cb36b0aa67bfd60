use Rattle.std.proofs.Common.{sym, ◌∙◌}
use Rattle.lru_pairs.proofs.Shown.{length-entries}
use Rattle.lru_pairs.proofs.iter.PairsEntriesExactSizeIterator.len.Goals as goal

pub returns-clause-value : goal.returns-clause-value
returns-clause-value g c =
    let i = c.self.inside in
    rw (← c.self.view_is) (c.len.ensures.value ∙ sym (length-entries i.weights.now i.nodes c.self.invariant))
