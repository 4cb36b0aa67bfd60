use Rattle.std.proofs.Common.{sym, ◌∙◌}
use Rattle.std.proofs.lemmas.List.{length-map}
use Rattle.lru_segmented.specs.Representation.{bare}
use Rattle.lru_segmented.proofs.iter.SegmentedEntriesExactSizeIterator.len.Goals as goal

pub returns-clause-value : goal.returns-clause-value
returns-clause-value g c = rw (← c.self.view_is) (c.len.ensures.value ∙ sym (length-map c.self.inside.pairs bare))
