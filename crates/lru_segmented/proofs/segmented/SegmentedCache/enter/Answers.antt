use Rattle.std.proofs.Common.{◌∙◌, sym, ap, subst, arith, length, ◌∷◌}
use Rattle.lru_owned_cache.specs.Entries.{entry, weight_of}
use Rattle.lru_owned_cache.specs.Cache.{entry_of}
use Rattle.lru_segmented.specs.Segmented.{Segmented, entries, with_more, LacksPlace}
use Rattle.lru_segmented.specs.Representation.{segmented_in, IsKept}
use Rattle.lru_segmented.proofs.Caches.{row_none, heavy, kept_entered, view_entered, lacks_place}
use Rattle.lru_segmented.proofs.segmented.SegmentedCache.enter.Goals as goal

pub push_lower_hashed-requires-clause-absent : goal.push_lower_hashed-requires-clause-absent
push_lower_hashed-requires-clause-absent g c = row_none c.self.inside.seats c.self.inside.most_weight c.self.inside.most_entries c.self.inside.most_protected g.K.PartialEq.eq c.args.key (ap (λ (x : Segmented g.row.K.Denot g.row.V.Denot g.row.S.Denot). entry_of g.K.PartialEq.eq (entries x) c.args.key) c.self.view_is ∙ c.requires.absent)

pub push_lower_hashed-requires-clause-light : goal.push_lower_hashed-requires-clause-light
push_lower_hashed-requires-clause-light g c =
    omega (arith, c.requires.light, ap (λ (x : Segmented g.row.K.Denot g.row.V.Denot g.row.S.Denot). weight_of (entries x)) c.self.view_is, ap (λ (x : Segmented g.row.K.Denot g.row.V.Denot g.row.S.Denot). x.most_weight) c.self.view_is, heavy c.self.inside.seats c.self.inside.most_weight c.self.inside.most_entries c.self.inside.most_protected)

pub invariant_of-self : goal.invariant_of-self
invariant_of-self g c =
    kept_entered c.self.inside.seats c.self.inside.most_weight c.self.inside.most_entries c.self.inside.most_protected c.self.invariant c.args.key c.args.value c.args.weight
    (omega (arith, c.requires.light, ap (λ (x : Segmented g.row.K.Denot g.row.V.Denot g.row.S.Denot). weight_of (entries x)) c.self.view_is, ap (λ (x : Segmented g.row.K.Denot g.row.V.Denot g.row.S.Denot). x.most_weight) c.self.view_is))
    (omega (arith, c.requires.few, ap (λ (x : Segmented g.row.K.Denot g.row.V.Denot g.row.S.Denot). length (entries x)) c.self.view_is, ap (λ (x : Segmented g.row.K.Denot g.row.V.Denot g.row.S.Denot). x.most_entries) c.self.view_is)) c.in-Ok.field-0 c.push_lower_hashed.new.self c.in-Ok.ensures.1.1

pub returns-in-Ok : goal.returns-in-Ok
returns-in-Ok g c =
    view_entered c.self.inside.seats c.self.inside.most_weight c.self.inside.most_entries c.self.inside.most_protected c.self.invariant c.args.key c.args.value c.args.weight
    (omega (arith, c.requires.light, ap (λ (x : Segmented g.row.K.Denot g.row.V.Denot g.row.S.Denot). weight_of (entries x)) c.self.view_is, ap (λ (x : Segmented g.row.K.Denot g.row.V.Denot g.row.S.Denot). x.most_weight) c.self.view_is))
    (omega (arith, c.requires.few, ap (λ (x : Segmented g.row.K.Denot g.row.V.Denot g.row.S.Denot). length (entries x)) c.self.view_is, ap (λ (x : Segmented g.row.K.Denot g.row.V.Denot g.row.S.Denot). x.most_entries) c.self.view_is)) c.in-Ok.field-0 c.push_lower_hashed.new.self c.in-Ok.ensures.1.1
    ∙ ap (λ (x : Segmented g.row.K.Denot g.row.V.Denot g.row.S.Denot). with_more x x.upper (entry c.args.key c.args.value c.args.weight ∷ x.lower)) c.self.view_is

pub invariant_of-self-2 : goal.invariant_of-self-2
invariant_of-self-2 g c = subst (λ s. IsKept s c.self.inside.most_weight c.self.inside.most_entries c.self.inside.most_protected) (sym c.in-Err.ensures.1.1.1) c.self.invariant

pub returns : goal.returns
returns g c = (
  subst (λ (x : Segmented g.row.K.Denot g.row.V.Denot g.row.S.Denot). LacksPlace x c.cause_of.result) c.self.view_is
      (subst (LacksPlace (segmented_in c.self.inside.seats c.self.inside.most_weight c.self.inside.most_entries c.self.inside.most_protected)) (sym c.cause_of.ensures) (lacks_place c.self.inside.seats c.self.inside.most_weight c.self.inside.most_entries c.self.inside.most_protected c.in-Err.back.cause c.in-Err.ensures.0)),
  (
    c.in-Err.ensures.1.0,
    (c.in-Err.ensures.1.1.0, ap (λ s. segmented_in s c.self.inside.most_weight c.self.inside.most_entries c.self.inside.most_protected) c.in-Err.ensures.1.1.1 ∙ c.self.view_is),
  ),
)
