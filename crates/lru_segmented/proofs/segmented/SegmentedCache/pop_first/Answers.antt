use Rattle.std.proofs.Common.{sym, subst, None, Some}
use Rattle.lru_owned_cache.specs.Entries.{entry}
use Rattle.lru_segmented.specs.Segmented.{Segmented, IsSegmented, PopsFirst}
use Rattle.lru_segmented.specs.Representation.{segmented_in}
use Rattle.lru_segmented.proofs.Caches.{none_first, first_at, valid_cache, kept_out, view_popped_first}
use Rattle.lru_segmented.proofs.segmented.SegmentedCache.pop_first.Goals as goal

pub returns-in_err-place-clause-pops : goal.returns-in_err-place-clause-pops
returns-in_err-place-clause-pops g c =
    subst (λ o. PopsFirst c.args.self.now o c.args.self.now) (sym c.from_residual.ensures)
    (subst (λ (x : Segmented g.row.K.Denot g.row.V.Denot g.row.S.Denot). PopsFirst x None x) c.self.view_is (none_first c.self.inside.seats c.self.inside.most_weight c.self.inside.most_entries c.self.inside.most_protected c.in_err-place.ensures.place))

pub returns-in_err-place-clause-valid : goal.returns-in_err-place-clause-valid
returns-in_err-place-clause-valid g c = subst (λ (x : Segmented g.row.K.Denot g.row.V.Denot g.row.S.Denot). IsSegmented g.K.PartialEq.eq x) c.self.view_is (valid_cache c.self.inside.seats c.self.inside.most_weight c.self.inside.most_entries c.self.inside.most_protected g.K.PartialEq.eq c.self.invariant c.in_err-place.ensures.valid)

pub take-row-requires : goal.take-row-requires
take-row-requires g c = first_at c.self.inside.seats c.self.inside.most_weight c.self.inside.most_entries c.self.inside.most_protected c.in_ok-place.place c.in_ok-place.ensures.place

pub invariant_of-self : goal.invariant_of-self
invariant_of-self g c = kept_out c.self.inside.seats c.self.inside.most_weight c.self.inside.most_entries c.self.inside.most_protected c.in_ok-place.place c.take-row.new.self c.take-row.ensures.rows c.self.invariant

pub returns-clause-pops : goal.returns-clause-pops
returns-clause-pops g c =
    let row = c.take-row.result in
    subst (λ (x : Segmented g.row.K.Denot g.row.V.Denot g.row.S.Denot). PopsFirst x (Some (entry row.key row.value row.weight)) (segmented_in c.take-row.new.self c.self.inside.most_weight c.self.inside.most_entries c.self.inside.most_protected)) c.self.view_is
    (view_popped_first c.self.inside.seats c.self.inside.most_weight c.self.inside.most_entries c.self.inside.most_protected c.in_ok-place.place c.in_ok-place.ensures.place c.in_ok-place.ensures.valid.places c.take-row.result c.take-row.ensures.taken c.take-row.new.self c.take-row.ensures.rows)

pub returns-clause-valid : goal.returns-clause-valid
returns-clause-valid g c = subst (λ (x : Segmented g.row.K.Denot g.row.V.Denot g.row.S.Denot). IsSegmented g.K.PartialEq.eq x) c.self.view_is (valid_cache c.self.inside.seats c.self.inside.most_weight c.self.inside.most_entries c.self.inside.most_protected g.K.PartialEq.eq c.self.invariant c.in_ok-place.ensures.valid)
