use Rattle.std.proofs.Common.{◌∙◌, sym, ap, subst, refl, true}
use Rattle.lru_owned_cache.specs.Cache.{entry_of}
use Rattle.lru_segmented.specs.Segmented.{Segmented, entries, IsSegmented, Uses}
use Rattle.lru_segmented.specs.Seats.{Lowers}
use Rattle.lru_segmented.specs.Representation.{segmented_in}
use Rattle.lru_segmented.proofs.Caches.{found_none, found_at, valid_cache, unlowered, kept_used, view_used}
use Rattle.lru_segmented.proofs.segmented.SegmentedCache.promote_hashed.Goals as goal

pub returns-in_default-clause-uses : goal.returns-in_default-clause-uses
returns-in_default-clause-uses g c = (ap (λ (x : Segmented g.row.K.Denot g.row.V.Denot g.row.S.Denot). entry_of g.Q.Query.stands_for (entries x) c.args.query) (sym c.self.view_is) ∙ found_none c.self.inside.seats c.self.inside.most_weight c.self.inside.most_entries c.self.inside.most_protected g.Q.Query.stands_for c.args.query c.in_default.ensures.finds, refl)

pub returns-in_default-clause-valid : goal.returns-in_default-clause-valid
returns-in_default-clause-valid g c = subst (λ (x : Segmented g.row.K.Denot g.row.V.Denot g.row.S.Denot). IsSegmented g.K.PartialEq.eq x) c.self.view_is (valid_cache c.self.inside.seats c.self.inside.most_weight c.self.inside.most_entries c.self.inside.most_protected g.K.PartialEq.eq c.self.invariant c.find_hashed.ensures.valid)

pub lift-grown-requires : goal.lift-grown-requires
lift-grown-requires g c = found_at c.self.inside.seats c.self.inside.most_weight c.self.inside.most_entries c.self.inside.most_protected g.Q.Query.stands_for c.args.query c.in-Some.place c.in-Some.ensures.finds

pub invariant_of-self : goal.invariant_of-self
invariant_of-self g c = kept_used c.self.inside.seats c.self.inside.most_weight c.self.inside.most_entries c.self.inside.most_protected g.Q.Query.stands_for c.args.query g.K.PartialEq.eq g.met.K.Eq.laws.refl (g.met.Q.Query.respects_eq c.args.query) c.find_hashed.ensures.valid c.in-Some.place c.in-Some.ensures.finds c.lift-grown.new.self c.lift-grown.ensures.lifted c.lift-grown.new.self (unlowered c.self.inside.seats c.self.inside.most_weight c.self.inside.most_entries c.self.inside.most_protected c.self.invariant c.lift-grown.new.self (c.lift-grown.ensures.kept c.if-not-grown.true)) c.self.invariant

pub returns-then-not-grown-clause-uses : goal.returns-then-not-grown-clause-uses
returns-then-not-grown-clause-uses g c =
    subst (λ (x : Segmented g.row.K.Denot g.row.V.Denot g.row.S.Denot). Uses g.Q.Query.stands_for x c.args.query true (segmented_in c.lift-grown.new.self c.self.inside.most_weight c.self.inside.most_entries c.self.inside.most_protected)) c.self.view_is
    (view_used c.self.inside.seats c.self.inside.most_weight c.self.inside.most_entries c.self.inside.most_protected g.Q.Query.stands_for c.args.query g.K.PartialEq.eq g.met.K.Eq.laws.refl (g.met.Q.Query.respects_eq c.args.query) c.find_hashed.ensures.valid c.in-Some.place c.in-Some.ensures.finds c.lift-grown.new.self c.lift-grown.ensures.lifted c.lift-grown.new.self (unlowered c.self.inside.seats c.self.inside.most_weight c.self.inside.most_entries c.self.inside.most_protected c.self.invariant c.lift-grown.new.self (c.lift-grown.ensures.kept c.if-not-grown.true)))

pub returns-then-not-grown-clause-valid : goal.returns-then-not-grown-clause-valid
returns-then-not-grown-clause-valid g c = subst (λ (x : Segmented g.row.K.Denot g.row.V.Denot g.row.S.Denot). IsSegmented g.K.PartialEq.eq x) c.self.view_is (valid_cache c.self.inside.seats c.self.inside.most_weight c.self.inside.most_entries c.self.inside.most_protected g.K.PartialEq.eq c.self.invariant c.find_hashed.ensures.valid)

pub invariant_of-self-2 : goal.invariant_of-self-2
invariant_of-self-2 g c = kept_used c.self.inside.seats c.self.inside.most_weight c.self.inside.most_entries c.self.inside.most_protected g.Q.Query.stands_for c.args.query g.K.PartialEq.eq g.met.K.Eq.laws.refl (g.met.Q.Query.respects_eq c.args.query) c.find_hashed.ensures.valid c.in-Some.place c.in-Some.ensures.finds c.lift-grown.new.self c.lift-grown.ensures.lifted c.lower_down.new.seats (subst (λ n. Lowers c.self.inside.most_protected n c.lift-grown.new.self c.lower_down.new.seats) c.most_upper.ensures c.lower_down.ensures) c.self.invariant

pub returns-clause-uses : goal.returns-clause-uses
returns-clause-uses g c =
    subst (λ (x : Segmented g.row.K.Denot g.row.V.Denot g.row.S.Denot). Uses g.Q.Query.stands_for x c.args.query true (segmented_in c.lower_down.new.seats c.self.inside.most_weight c.self.inside.most_entries c.self.inside.most_protected)) c.self.view_is
    (view_used c.self.inside.seats c.self.inside.most_weight c.self.inside.most_entries c.self.inside.most_protected g.Q.Query.stands_for c.args.query g.K.PartialEq.eq g.met.K.Eq.laws.refl (g.met.Q.Query.respects_eq c.args.query) c.find_hashed.ensures.valid c.in-Some.place c.in-Some.ensures.finds c.lift-grown.new.self c.lift-grown.ensures.lifted c.lower_down.new.seats (subst (λ n. Lowers c.self.inside.most_protected n c.lift-grown.new.self c.lower_down.new.seats) c.most_upper.ensures c.lower_down.ensures))

pub returns-clause-valid : goal.returns-clause-valid
returns-clause-valid g c = subst (λ (x : Segmented g.row.K.Denot g.row.V.Denot g.row.S.Denot). IsSegmented g.K.PartialEq.eq x) c.self.view_is (valid_cache c.self.inside.seats c.self.inside.most_weight c.self.inside.most_entries c.self.inside.most_protected g.K.PartialEq.eq c.self.invariant c.find_hashed.ensures.valid)
