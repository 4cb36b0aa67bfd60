use Rattle.std.proofs.Common.{◌∙◌, sym, ap, subst, refl, Some}
use Rattle.lru_owned_cache.specs.Cache.{entry_of}
use Rattle.lru_segmented.specs.Segmented.{Segmented, entries, UpdatesEntry}
use Rattle.lru_segmented.specs.Seats.{Lowers}
use Rattle.lru_segmented.specs.Representation.{segmented_in}
use Rattle.lru_segmented.proofs.Caches.{found_none, found_at, lifted_stands, unlowered_updated, kept_updated, view_updated}
use Rattle.lru_segmented.proofs.segmented.SegmentedCache.update_hashed.Goals as goal

pub returns-in_err-place : goal.returns-in_err-place
returns-in_err-place g c =
    subst (λ o. UpdatesEntry g.Q.Query.stands_for (λ lent w answer left. (g.U.FnOnce).post c.args.update (lent, (w, tt)) (answer, (left, tt))) c.args.self.now c.args.query o c.args.self.now) (sym c.from_residual.ensures)
    (ap (λ (x : Segmented g.row.K.Denot g.row.V.Denot g.row.S.Denot). entry_of g.Q.Query.stands_for (entries x) c.args.query) (sym c.self.view_is) ∙ found_none c.self.inside.seats c.self.inside.most_weight c.self.inside.most_entries c.self.inside.most_protected g.Q.Query.stands_for c.args.query c.in_err-place.ensures.finds, refl)

pub lift-grown-requires : goal.lift-grown-requires
lift-grown-requires g c = found_at c.self.inside.seats c.self.inside.most_weight c.self.inside.most_entries c.self.inside.most_protected g.Q.Query.stands_for c.args.query c.in_ok-place.place c.in_ok-place.ensures.finds

pub update-answer-requires-clause-held : goal.update-answer-requires-clause-held
update-answer-requires-clause-held g c = lifted_stands c.self.inside.seats c.self.inside.most_weight c.self.inside.most_entries c.self.inside.most_protected g.Q.Query.stands_for c.args.query g.K.PartialEq.eq g.met.K.Eq.laws.refl (g.met.Q.Query.respects_eq c.args.query) c.find_hashed.ensures.valid c.in_ok-place.place c.in_ok-place.ensures.finds c.lift-grown.new.self c.lift-grown.ensures.lifted

pub invariant_of-self : goal.invariant_of-self
invariant_of-self g c =
    kept_updated c.self.inside.seats c.self.inside.most_weight c.self.inside.most_entries c.self.inside.most_protected g.Q.Query.stands_for c.args.query g.K.PartialEq.eq g.met.K.Eq.laws.refl (g.met.Q.Query.respects_eq c.args.query) c.find_hashed.ensures.valid c.in_ok-place.place c.in_ok-place.ensures.finds c.lift-grown.new.self c.lift-grown.ensures.lifted (λ lent w answer left. (g.U.FnOnce).post c.args.update (lent, (w, tt)) (answer, (left, tt))) c.update-answer.result c.update-answer.new.self c.update-answer.ensures c.update-answer.new.self
    (unlowered_updated c.self.inside.seats c.self.inside.most_weight c.self.inside.most_entries c.self.inside.most_protected g.Q.Query.stands_for c.args.query g.K.PartialEq.eq g.met.K.Eq.laws.refl (g.met.Q.Query.respects_eq c.args.query) c.find_hashed.ensures.valid c.in_ok-place.place c.in_ok-place.ensures.finds c.lift-grown.new.self c.lift-grown.ensures.lifted (λ lent w answer left. (g.U.FnOnce).post c.args.update (lent, (w, tt)) (answer, (left, tt))) c.update-answer.result c.update-answer.new.self c.update-answer.ensures c.self.invariant (c.lift-grown.ensures.kept c.if-not-grown.true)) c.self.invariant

pub returns-then-not-grown : goal.returns-then-not-grown
returns-then-not-grown g c =
    subst (λ (x : Segmented g.row.K.Denot g.row.V.Denot g.row.S.Denot). UpdatesEntry g.Q.Query.stands_for (λ lent w answer left. (g.U.FnOnce).post c.args.update (lent, (w, tt)) (answer, (left, tt))) x c.args.query (Some c.update-answer.result) (segmented_in c.update-answer.new.self c.self.inside.most_weight c.self.inside.most_entries c.self.inside.most_protected)) c.self.view_is
    (view_updated c.self.inside.seats c.self.inside.most_weight c.self.inside.most_entries c.self.inside.most_protected g.Q.Query.stands_for c.args.query g.K.PartialEq.eq g.met.K.Eq.laws.refl (g.met.Q.Query.respects_eq c.args.query) c.find_hashed.ensures.valid c.in_ok-place.place c.in_ok-place.ensures.finds c.lift-grown.new.self c.lift-grown.ensures.lifted (λ lent w answer left. (g.U.FnOnce).post c.args.update (lent, (w, tt)) (answer, (left, tt))) c.update-answer.result c.update-answer.new.self c.update-answer.ensures c.update-answer.new.self
    (unlowered_updated c.self.inside.seats c.self.inside.most_weight c.self.inside.most_entries c.self.inside.most_protected g.Q.Query.stands_for c.args.query g.K.PartialEq.eq g.met.K.Eq.laws.refl (g.met.Q.Query.respects_eq c.args.query) c.find_hashed.ensures.valid c.in_ok-place.place c.in_ok-place.ensures.finds c.lift-grown.new.self c.lift-grown.ensures.lifted (λ lent w answer left. (g.U.FnOnce).post c.args.update (lent, (w, tt)) (answer, (left, tt))) c.update-answer.result c.update-answer.new.self c.update-answer.ensures c.self.invariant (c.lift-grown.ensures.kept c.if-not-grown.true)))

pub invariant_of-self-2 : goal.invariant_of-self-2
invariant_of-self-2 g c =
    kept_updated c.self.inside.seats c.self.inside.most_weight c.self.inside.most_entries c.self.inside.most_protected g.Q.Query.stands_for c.args.query g.K.PartialEq.eq g.met.K.Eq.laws.refl (g.met.Q.Query.respects_eq c.args.query) c.find_hashed.ensures.valid c.in_ok-place.place c.in_ok-place.ensures.finds c.lift-grown.new.self c.lift-grown.ensures.lifted (λ lent w answer left. (g.U.FnOnce).post c.args.update (lent, (w, tt)) (answer, (left, tt))) c.update-answer.result c.update-answer.new.self c.update-answer.ensures c.lower_down.new.seats
    (subst (λ n. Lowers c.self.inside.most_protected n c.update-answer.new.self c.lower_down.new.seats) c.most_upper.ensures c.lower_down.ensures) c.self.invariant

pub returns : goal.returns
returns g c =
    subst (λ (x : Segmented g.row.K.Denot g.row.V.Denot g.row.S.Denot). UpdatesEntry g.Q.Query.stands_for (λ lent w answer left. (g.U.FnOnce).post c.args.update (lent, (w, tt)) (answer, (left, tt))) x c.args.query (Some c.update-answer.result) (segmented_in c.lower_down.new.seats c.self.inside.most_weight c.self.inside.most_entries c.self.inside.most_protected)) c.self.view_is
    (view_updated c.self.inside.seats c.self.inside.most_weight c.self.inside.most_entries c.self.inside.most_protected g.Q.Query.stands_for c.args.query g.K.PartialEq.eq g.met.K.Eq.laws.refl (g.met.Q.Query.respects_eq c.args.query) c.find_hashed.ensures.valid c.in_ok-place.place c.in_ok-place.ensures.finds c.lift-grown.new.self c.lift-grown.ensures.lifted (λ lent w answer left. (g.U.FnOnce).post c.args.update (lent, (w, tt)) (answer, (left, tt))) c.update-answer.result c.update-answer.new.self c.update-answer.ensures c.lower_down.new.seats
    (subst (λ n. Lowers c.self.inside.most_protected n c.update-answer.new.self c.lower_down.new.seats) c.most_upper.ensures c.lower_down.ensures))
