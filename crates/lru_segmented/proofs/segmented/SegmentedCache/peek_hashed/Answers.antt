use Rattle.std.proofs.Common.{◌∙◌, sym, ap}
use Rattle.std.specs.Option.{option_copied, option_map}
use Rattle.lru_owned_cache.specs.Cache.{entry_of}
use Rattle.lru_segmented.specs.Segmented.{Segmented, entries}
use Rattle.lru_segmented.proofs.Caches.{found_none, found_at, found_value}
use Rattle.lru_segmented.proofs.segmented.SegmentedCache.peek_hashed.Goals as goal

pub returns-in_err-place : goal.returns-in_err-place
returns-in_err-place g c =
    ap option_copied c.from_residual.ensures
    ∙ ap (option_map (λ e. e.value)) (sym (found_none c.self.inside.seats c.self.inside.most_weight c.self.inside.most_entries c.self.inside.most_protected g.Q.Query.stands_for c.args.query c.in_err-place.ensures.finds) ∙ ap (λ (x : Segmented g.row.K.Denot g.row.V.Denot g.row.S.Denot). entry_of g.Q.Query.stands_for (entries x) c.args.query) c.self.view_is)

pub value_at-requires : goal.value_at-requires
value_at-requires g c = found_at c.self.inside.seats c.self.inside.most_weight c.self.inside.most_entries c.self.inside.most_protected g.Q.Query.stands_for c.args.query c.in_ok-place.place c.in_ok-place.ensures.finds

pub returns : goal.returns
returns g c =
    found_value c.self.inside.seats c.self.inside.most_weight c.self.inside.most_entries c.self.inside.most_protected g.Q.Query.stands_for c.args.query c.in_ok-place.place c.value_at.result.now c.in_ok-place.ensures.finds c.value_at.ensures
    ∙ ap (λ (x : Segmented g.row.K.Denot g.row.V.Denot g.row.S.Denot). option_map (λ e. e.value) (entry_of g.Q.Query.stands_for (entries x) c.args.query)) c.self.view_is
