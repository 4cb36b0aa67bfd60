use Rattle.std.proofs.Common.{◌∙◌, sym, ap, subst, length}
use Rattle.lru_segmented.specs.Segmented.{Segmented, entries, IsSegmented}
use Rattle.lru_segmented.proofs.Caches.{long, valid_cache}
use Rattle.lru_segmented.proofs.segmented.SegmentedCache.len.Goals as goal

pub returns-clause-value : goal.returns-clause-value
returns-clause-value g c = c.len.ensures.value ∙ sym (long c.self.inside.seats c.self.inside.most_weight c.self.inside.most_entries c.self.inside.most_protected) ∙ ap (λ (x : Segmented g.row.K.Denot g.row.V.Denot g.row.S.Denot). length (entries x)) c.self.view_is

pub returns-clause-valid : goal.returns-clause-valid
returns-clause-valid g c = subst (λ (x : Segmented g.row.K.Denot g.row.V.Denot g.row.S.Denot). IsSegmented g.K.PartialEq.eq x) c.self.view_is (valid_cache c.self.inside.seats c.self.inside.most_weight c.self.inside.most_entries c.self.inside.most_protected g.K.PartialEq.eq c.self.invariant c.len.ensures.valid)
