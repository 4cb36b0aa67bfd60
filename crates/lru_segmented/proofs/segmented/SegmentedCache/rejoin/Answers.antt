use Rattle.std.proofs.Common.{◌∙◌, ap, subst, arith, length}
use Rattle.lru_owned_cache.specs.Entries.{entry, weight_of}
use Rattle.lru_owned_cache.specs.Cache.{entry_of}
use Rattle.lru_segmented.specs.Segmented.{Segmented, entries, Rejoins}
use Rattle.lru_segmented.specs.Seats.{Lowers}
use Rattle.lru_segmented.specs.Representation.{segmented_in}
use Rattle.lru_segmented.proofs.Caches.{row_none, heavy, has_place, kept_rejoined, view_rejoined}
use Rattle.lru_segmented.proofs.segmented.SegmentedCache.rejoin.Goals as goal

pub push_upper_hashed-requires-clause-absent : goal.push_upper_hashed-requires-clause-absent
push_upper_hashed-requires-clause-absent g c = row_none c.self.inside.seats c.self.inside.most_weight c.self.inside.most_entries c.self.inside.most_protected g.K.PartialEq.eq c.args.key (ap (λ (x : Segmented g.row.K.Denot g.row.V.Denot g.row.S.Denot). entry_of g.K.PartialEq.eq (entries x) c.args.key) c.self.view_is ∙ c.requires.absent)

pub push_upper_hashed-requires-clause-light : goal.push_upper_hashed-requires-clause-light
push_upper_hashed-requires-clause-light g c =
    omega (arith, c.requires.light, ap (λ (x : Segmented g.row.K.Denot g.row.V.Denot g.row.S.Denot). weight_of (entries x)) c.self.view_is, ap (λ (x : Segmented g.row.K.Denot g.row.V.Denot g.row.S.Denot). x.most_weight) c.self.view_is, heavy c.self.inside.seats c.self.inside.most_weight c.self.inside.most_entries c.self.inside.most_protected)

pub unreachable-requires : goal.unreachable-requires
unreachable-requires g c = has_place c.self.inside.seats c.self.inside.most_weight c.self.inside.most_entries c.self.inside.most_protected c.in-Err.field-0.cause c.in-Err.ensures.0
    (omega (arith, c.requires.placed, ap (λ (x : Segmented g.row.K.Denot g.row.V.Denot g.row.S.Denot). length (entries x)) c.self.view_is, ap (λ (x : Segmented g.row.K.Denot g.row.V.Denot g.row.S.Denot). x.places) c.self.view_is))
    (omega (arith, c.requires.short, ap (λ (x : Segmented g.row.K.Denot g.row.V.Denot g.row.S.Denot). length (entries x)) c.self.view_is))

pub invariant_of-self : goal.invariant_of-self
invariant_of-self g c = kept_rejoined c.self.inside.seats c.self.inside.most_weight c.self.inside.most_entries c.self.inside.most_protected c.self.invariant c.args.key c.args.value c.args.weight
    (omega (arith, c.requires.light, ap (λ (x : Segmented g.row.K.Denot g.row.V.Denot g.row.S.Denot). weight_of (entries x)) c.self.view_is, ap (λ (x : Segmented g.row.K.Denot g.row.V.Denot g.row.S.Denot). x.most_weight) c.self.view_is))
    (omega (arith, c.requires.few, ap (λ (x : Segmented g.row.K.Denot g.row.V.Denot g.row.S.Denot). length (entries x)) c.self.view_is, ap (λ (x : Segmented g.row.K.Denot g.row.V.Denot g.row.S.Denot). x.most_entries) c.self.view_is)) c.in-Ok.field-0 c.push_upper_hashed.new.self c.in-Ok.ensures.1.1
    (omega (arith, c.requires.placed, ap (λ (x : Segmented g.row.K.Denot g.row.V.Denot g.row.S.Denot). length (entries x)) c.self.view_is, ap (λ (x : Segmented g.row.K.Denot g.row.V.Denot g.row.S.Denot). x.places) c.self.view_is)) c.lower_down.new.seats
    (subst (λ n. Lowers c.self.inside.most_protected n c.push_upper_hashed.new.self c.lower_down.new.seats) c.most_upper.ensures c.lower_down.ensures)

pub returns : goal.returns
returns g c =
    subst (λ (x : Segmented g.row.K.Denot g.row.V.Denot g.row.S.Denot). Rejoins x (entry c.args.key c.args.value c.args.weight) (segmented_in c.lower_down.new.seats c.self.inside.most_weight c.self.inside.most_entries c.self.inside.most_protected)) c.self.view_is
    (view_rejoined c.self.inside.seats c.self.inside.most_weight c.self.inside.most_entries c.self.inside.most_protected c.self.invariant c.args.key c.args.value c.args.weight
    (omega (arith, c.requires.light, ap (λ (x : Segmented g.row.K.Denot g.row.V.Denot g.row.S.Denot). weight_of (entries x)) c.self.view_is, ap (λ (x : Segmented g.row.K.Denot g.row.V.Denot g.row.S.Denot). x.most_weight) c.self.view_is))
    (omega (arith, c.requires.few, ap (λ (x : Segmented g.row.K.Denot g.row.V.Denot g.row.S.Denot). length (entries x)) c.self.view_is, ap (λ (x : Segmented g.row.K.Denot g.row.V.Denot g.row.S.Denot). x.most_entries) c.self.view_is)) c.in-Ok.field-0 c.push_upper_hashed.new.self c.in-Ok.ensures.1.1
    (omega (arith, c.requires.placed, ap (λ (x : Segmented g.row.K.Denot g.row.V.Denot g.row.S.Denot). length (entries x)) c.self.view_is, ap (λ (x : Segmented g.row.K.Denot g.row.V.Denot g.row.S.Denot). x.places) c.self.view_is)) c.lower_down.new.seats
    (subst (λ n. Lowers c.self.inside.most_protected n c.push_upper_hashed.new.self c.lower_down.new.seats) c.most_upper.ensures c.lower_down.ensures))
