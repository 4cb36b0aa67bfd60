use Rattle.std.proofs.Common.{◌∙◌, sym, ap, length}
use Rattle.lru_segmented.specs.Segmented.{Segmented}
use Rattle.lru_owned_cache.proofs.Rows.{length-entries}
use Rattle.lru_segmented.proofs.segmented.SegmentedCache.protected_len.Goals as goal

pub returns : goal.returns
returns g c = c.upper_len.ensures ∙ sym (length-entries c.self.inside.seats.upper) ∙ ap (λ (x : Segmented g.row.K.Denot g.row.V.Denot g.row.S.Denot). length x.upper) c.self.view_is
