use Rattle.std.proofs.Common.{◌∙◌, sym, ap}
use Rattle.std.specs.Option.{option_map}
use Rattle.lru_owned_cache.specs.Cache.{entry_of}
use Rattle.lru_segmented.specs.Segmented.{Segmented, entries}
use Rattle.lru_segmented.proofs.Caches.{found_none, found_at, found_weight}
use Rattle.lru_segmented.proofs.segmented.SegmentedCache.weight_of.Goals as goal

pub returns-in_err-place : goal.returns-in_err-place
returns-in_err-place g c =
    c.from_residual.ensures
    ∙ ap (option_map (λ e. e.weight)) (sym (found_none c.self.inside.seats c.self.inside.most_weight c.self.inside.most_entries c.self.inside.most_protected g.K.PartialEq.eq c.args.key.now c.in_err-place.ensures.finds) ∙ ap (λ (x : Segmented g.row.K.Denot g.row.V.Denot g.row.S.Denot). entry_of g.K.PartialEq.eq (entries x) c.args.key.now) c.self.view_is)

pub weight_at-requires : goal.weight_at-requires
weight_at-requires g c = found_at c.self.inside.seats c.self.inside.most_weight c.self.inside.most_entries c.self.inside.most_protected g.K.PartialEq.eq c.args.key.now c.in_ok-place.place c.in_ok-place.ensures.finds

pub returns : goal.returns
returns g c =
    found_weight c.self.inside.seats c.self.inside.most_weight c.self.inside.most_entries c.self.inside.most_protected g.K.PartialEq.eq c.args.key.now c.in_ok-place.place c.weight_at.result c.in_ok-place.ensures.finds c.weight_at.ensures
    ∙ ap (λ (x : Segmented g.row.K.Denot g.row.V.Denot g.row.S.Denot). option_map (λ e. e.weight) (entry_of g.K.PartialEq.eq (entries x) c.args.key.now)) c.self.view_is
