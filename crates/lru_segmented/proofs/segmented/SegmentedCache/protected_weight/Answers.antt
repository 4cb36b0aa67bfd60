use Rattle.std.proofs.Common.{◌∙◌, sym, ap}
use Rattle.lru_owned_cache.specs.Entries.{weight_of}
use Rattle.lru_segmented.specs.Segmented.{Segmented}
use Rattle.lru_owned_cache.proofs.Rows.{weight-entries}
use Rattle.lru_segmented.proofs.segmented.SegmentedCache.protected_weight.Goals as goal

pub returns : goal.returns
returns g c = c.upper_weight.ensures ∙ sym (weight-entries c.self.inside.seats.upper) ∙ ap (λ (x : Segmented g.row.K.Denot g.row.V.Denot g.row.S.Denot). weight_of x.upper) c.self.view_is
