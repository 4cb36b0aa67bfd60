use Rattle.std.proofs.Common.{ap, ◌∙◌}
use Rattle.std.specs.Prelude.{map}
use Rattle.lru_owned_cache.specs.Cache.{parts_of}
use Rattle.lru_segmented.specs.Segmented.{Segmented, entries}
use Rattle.lru_segmented.proofs.Caches.{parts_are}
use Rattle.lru_segmented.proofs.segmented.SegmentedCache.iter.Goals as goal

pub returns : goal.returns
returns g c = c.entries.ensures ∙ parts_are c.self.inside.seats c.self.inside.most_weight c.self.inside.most_entries c.self.inside.most_protected ∙ ap (λ (x : Segmented g.row.K.Denot g.row.V.Denot g.row.S.Denot). map parts_of (entries x)) c.self.view_is
