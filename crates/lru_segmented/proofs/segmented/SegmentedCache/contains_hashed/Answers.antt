use Rattle.std.proofs.Common.{◌∙◌, ap}
use Rattle.std.specs.Prelude.{is_some}
use Rattle.lru_owned_cache.specs.Cache.{entry_of}
use Rattle.lru_segmented.specs.Segmented.{Segmented, entries}
use Rattle.lru_segmented.proofs.Caches.{found_some}
use Rattle.lru_segmented.proofs.segmented.SegmentedCache.contains_hashed.Goals as goal

pub returns : goal.returns
returns g c = c.is_some.ensures ∙ found_some c.self.inside.seats c.self.inside.most_weight c.self.inside.most_entries c.self.inside.most_protected g.Q.Query.stands_for c.args.query c.find_hashed.result c.find_hashed.ensures.finds ∙ ap (λ (x : Segmented g.row.K.Denot g.row.V.Denot g.row.S.Denot). is_some (entry_of g.Q.Query.stands_for (entries x) c.args.query)) c.self.view_is
