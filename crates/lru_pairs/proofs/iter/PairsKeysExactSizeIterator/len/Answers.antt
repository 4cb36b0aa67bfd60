use Rattle.std.proofs.Common.{sym, ◌∙◌}
use Rattle.lru_pairs.proofs.Shown.{length-keys}
use Rattle.lru_pairs.proofs.iter.PairsKeysExactSizeIterator.len.Goals as goal

pub returns-clause-value : goal.returns-clause-value
returns-clause-value g c =
    let i = c.self.inside in
    rw (← c.self.view_is) (c.len.ensures.value ∙ sym (length-keys i.nodes c.self.invariant))
