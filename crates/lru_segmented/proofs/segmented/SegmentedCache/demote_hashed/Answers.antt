use Rattle.std.proofs.Common.{sym, ap, subst, ◌∙◌}
use Rattle.std.specs.Prelude.{is_some}
use Rattle.lru_owned_cache.specs.Cache.{entry_of}
use Rattle.lru_segmented.specs.Segmented.{Segmented, entries, demoted, IsSegmented}
use Rattle.lru_segmented.proofs.Caches.{found_none, found_at, valid_cache, undemoted, kept_demoted, view_demoted, demoted_answer}
use Rattle.lru_segmented.proofs.segmented.SegmentedCache.demote_hashed.Goals as goal

pub returns-in_default-clause-answer : goal.returns-in_default-clause-answer
returns-in_default-clause-answer g c =
    sym (ap (λ (x : Segmented g.row.K.Denot g.row.V.Denot g.row.S.Denot). is_some (entry_of g.Q.Query.stands_for (entries x) c.args.query)) (sym c.self.view_is) ∙ ap is_some (found_none c.self.inside.seats c.self.inside.most_weight c.self.inside.most_entries c.self.inside.most_protected g.Q.Query.stands_for c.args.query c.in_default.ensures.finds))

pub returns-in_default-clause-left : goal.returns-in_default-clause-left
returns-in_default-clause-left g c =
    sym c.self.view_is ∙ undemoted c.self.inside.seats c.self.inside.most_weight c.self.inside.most_entries c.self.inside.most_protected g.Q.Query.stands_for c.args.query (found_none c.self.inside.seats c.self.inside.most_weight c.self.inside.most_entries c.self.inside.most_protected g.Q.Query.stands_for c.args.query c.in_default.ensures.finds) ∙ ap (λ (x : Segmented g.row.K.Denot g.row.V.Denot g.row.S.Denot). demoted g.Q.Query.stands_for x c.args.query) c.self.view_is

pub returns-in_default-clause-valid : goal.returns-in_default-clause-valid
returns-in_default-clause-valid g c = subst (λ (x : Segmented g.row.K.Denot g.row.V.Denot g.row.S.Denot). IsSegmented g.K.PartialEq.eq x) c.self.view_is (valid_cache c.self.inside.seats c.self.inside.most_weight c.self.inside.most_entries c.self.inside.most_protected g.K.PartialEq.eq c.self.invariant c.find_hashed.ensures.valid)

pub sink-requires : goal.sink-requires
sink-requires g c = found_at c.self.inside.seats c.self.inside.most_weight c.self.inside.most_entries c.self.inside.most_protected g.Q.Query.stands_for c.args.query c.in-Some.place c.in-Some.ensures.finds

pub invariant_of-self : goal.invariant_of-self
invariant_of-self g c = kept_demoted c.self.inside.seats c.self.inside.most_weight c.self.inside.most_entries c.self.inside.most_protected g.Q.Query.stands_for c.args.query g.K.PartialEq.eq g.met.K.Eq.laws.refl (g.met.Q.Query.respects_eq c.args.query) c.find_hashed.ensures.valid c.in-Some.place c.in-Some.ensures.finds c.sink.new.self c.sink.ensures c.self.invariant

pub returns-clause-answer : goal.returns-clause-answer
returns-clause-answer g c =
    demoted_answer c.self.inside.seats c.self.inside.most_weight c.self.inside.most_entries c.self.inside.most_protected g.Q.Query.stands_for c.args.query g.K.PartialEq.eq g.met.K.Eq.laws.refl (g.met.Q.Query.respects_eq c.args.query) c.find_hashed.ensures.valid c.in-Some.place c.in-Some.ensures.finds c.sink.new.self c.sink.ensures
    ∙ ap (λ (x : Segmented g.row.K.Denot g.row.V.Denot g.row.S.Denot). is_some (entry_of g.Q.Query.stands_for (entries x) c.args.query)) c.self.view_is

pub returns-clause-left : goal.returns-clause-left
returns-clause-left g c = view_demoted c.self.inside.seats c.self.inside.most_weight c.self.inside.most_entries c.self.inside.most_protected g.Q.Query.stands_for c.args.query g.K.PartialEq.eq g.met.K.Eq.laws.refl (g.met.Q.Query.respects_eq c.args.query) c.find_hashed.ensures.valid c.in-Some.place c.in-Some.ensures.finds c.sink.new.self c.sink.ensures ∙ ap (λ (x : Segmented g.row.K.Denot g.row.V.Denot g.row.S.Denot). demoted g.Q.Query.stands_for x c.args.query) c.self.view_is

pub returns-clause-valid : goal.returns-clause-valid
returns-clause-valid g c = subst (λ (x : Segmented g.row.K.Denot g.row.V.Denot g.row.S.Denot). IsSegmented g.K.PartialEq.eq x) c.self.view_is (valid_cache c.self.inside.seats c.self.inside.most_weight c.self.inside.most_entries c.self.inside.most_protected g.K.PartialEq.eq c.self.invariant c.find_hashed.ensures.valid)
