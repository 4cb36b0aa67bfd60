use Rattle.std.proofs.Common.{◌∙◌, sym, ap, subst}
use Rattle.lru_owned_cache.specs.Cache.{entry_of}
use Rattle.lru_segmented.specs.Segmented.{Segmented, entries, removed, IsSegmented}
use Rattle.lru_segmented.proofs.Caches.{found_none, found_at, valid_cache, kept_out, out_entry, view_out}
use Rattle.lru_segmented.proofs.Lists.{not_removed}
use Rattle.lru_segmented.proofs.segmented.SegmentedCache.remove_hashed.Goals as goal

pub returns-in_err-place-clause-answer : goal.returns-in_err-place-clause-answer
returns-in_err-place-clause-answer g c =
    c.from_residual.ensures ∙ sym (ap (λ (x : Segmented g.row.K.Denot g.row.V.Denot g.row.S.Denot). entry_of g.Q.Query.stands_for (entries x) c.args.query) (sym c.self.view_is) ∙ found_none c.self.inside.seats c.self.inside.most_weight c.self.inside.most_entries c.self.inside.most_protected g.Q.Query.stands_for c.args.query c.in_err-place.ensures.finds)

pub returns-in_err-place-clause-left : goal.returns-in_err-place-clause-left
returns-in_err-place-clause-left g c =
    sym (not_removed g.Q.Query.stands_for c.args.query c.args.self.now (ap (λ (x : Segmented g.row.K.Denot g.row.V.Denot g.row.S.Denot). entry_of g.Q.Query.stands_for (entries x) c.args.query) (sym c.self.view_is) ∙ found_none c.self.inside.seats c.self.inside.most_weight c.self.inside.most_entries c.self.inside.most_protected g.Q.Query.stands_for c.args.query c.in_err-place.ensures.finds))

pub returns-in_err-place-clause-valid : goal.returns-in_err-place-clause-valid
returns-in_err-place-clause-valid g c = subst (λ (x : Segmented g.row.K.Denot g.row.V.Denot g.row.S.Denot). IsSegmented g.K.PartialEq.eq x) c.self.view_is (valid_cache c.self.inside.seats c.self.inside.most_weight c.self.inside.most_entries c.self.inside.most_protected g.K.PartialEq.eq c.self.invariant c.find_hashed.ensures.valid)

pub take-row-requires : goal.take-row-requires
take-row-requires g c = found_at c.self.inside.seats c.self.inside.most_weight c.self.inside.most_entries c.self.inside.most_protected g.Q.Query.stands_for c.args.query c.in_ok-place.place c.in_ok-place.ensures.finds

pub invariant_of-self : goal.invariant_of-self
invariant_of-self g c = kept_out c.self.inside.seats c.self.inside.most_weight c.self.inside.most_entries c.self.inside.most_protected c.in_ok-place.place c.take-row.new.self c.take-row.ensures.rows c.self.invariant

pub returns-clause-answer : goal.returns-clause-answer
returns-clause-answer g c =
    out_entry c.self.inside.seats c.self.inside.most_weight c.self.inside.most_entries c.self.inside.most_protected g.Q.Query.stands_for c.args.query g.K.PartialEq.eq g.met.K.Eq.laws.refl (g.met.Q.Query.respects_eq c.args.query) c.find_hashed.ensures.valid c.in_ok-place.place c.in_ok-place.ensures.finds c.take-row.result c.take-row.ensures.taken c.take-row.new.self c.take-row.ensures.rows
    ∙ ap (λ (x : Segmented g.row.K.Denot g.row.V.Denot g.row.S.Denot). entry_of g.Q.Query.stands_for (entries x) c.args.query) c.self.view_is

pub returns-clause-left : goal.returns-clause-left
returns-clause-left g c =
    view_out c.self.inside.seats c.self.inside.most_weight c.self.inside.most_entries c.self.inside.most_protected g.Q.Query.stands_for c.args.query g.K.PartialEq.eq g.met.K.Eq.laws.refl (g.met.Q.Query.respects_eq c.args.query) c.find_hashed.ensures.valid c.in_ok-place.place c.in_ok-place.ensures.finds c.take-row.result c.take-row.ensures.taken c.take-row.new.self c.take-row.ensures.rows
    ∙ ap (λ (x : Segmented g.row.K.Denot g.row.V.Denot g.row.S.Denot). removed g.Q.Query.stands_for x c.args.query) c.self.view_is

pub returns-clause-valid : goal.returns-clause-valid
returns-clause-valid g c = subst (λ (x : Segmented g.row.K.Denot g.row.V.Denot g.row.S.Denot). IsSegmented g.K.PartialEq.eq x) c.self.view_is (valid_cache c.self.inside.seats c.self.inside.most_weight c.self.inside.most_entries c.self.inside.most_protected g.K.PartialEq.eq c.self.invariant c.find_hashed.ensures.valid)
