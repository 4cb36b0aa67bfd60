use Rattle.std.proofs.Common.{◌∙◌, sym, ap}
use Rattle.lru_owned_cache.specs.Entries.{weight_of}
use Rattle.lru_segmented.specs.Segmented.{Segmented, entries}
use Rattle.lru_segmented.proofs.Caches.{heavy}
use Rattle.lru_segmented.proofs.segmented.SegmentedCache.weight.Goals as goal

pub returns : goal.returns
returns g c = c.weight.ensures ∙ sym (heavy c.self.inside.seats c.self.inside.most_weight c.self.inside.most_entries c.self.inside.most_protected) ∙ ap (λ (x : Segmented g.row.K.Denot g.row.V.Denot g.row.S.Denot). weight_of (entries x)) c.self.view_is
