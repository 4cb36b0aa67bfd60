-- A row that is there, from what the code reads at its place: what a refusal says, and what a write at its place leaves.
use Rattle.std.proofs.Common.{◌≡◌, ℕ, ◌+◌, ◌-◌, ◌<◌, ◌≤◌, ◌∷◌, ◌++◌, length, Some, None, refl, sym, ap, ◌∙◌, arith, subst, inl, true}
use Rattle.std.specs.Prelude.{Option, is_some, nat_eq}
use Rattle.std.specs.Option.{option_map, option_map_or}
use Rattle.std.specs.Borrow.{MutBor}
use Rattle.std.proofs.lemmas.Bool.{false≢true}
use Rattle.std.proofs.lemmas.List.{map-append, length-append}
use Rattle.lru_rows.specs.Rows.{Placed, Recency, recency, placed, row_at, IsAt as IsAtPlace, Finds, IsRecency, promoted, with_value as with_value_at, with_weight as with_weight_at, UpdatesAt}
use Rattle.lru_shard.specs.declared.unit.Refused.{Refused}
use Rattle.lru_shard.specs.declared.unit.Cause.TheVariants.{Weight}
use Rattle.lru_shard.specs.Representation.{row_in, rows_in, IsKept}
use Rattle.lru_shard.specs.Row.{Row, row, row_of, times, weight_of, with_first, with_weight, with_value, without}
use Rattle.lru_shard.specs.Shard.{Shard, shard, IsShard, size_of, refusal, MayRefuse, Accepts, Declines, Refuses}
use Rattle.lru_shard.specs.Unit.{weight_at, accessed, tailed, Updates}
use Rattle.lru_shard.proofs.Edits.{IsAt, none_around, without-at, with_weight-at, with_value-at, weight-without, weight-first, length-first, weight-with_weight, weight-with_value, distinct-with_weight, distinct-with_value, accessed_at}
use Rattle.lru_shard.proofs.Places.{Splits, Stands, stands, row_at-split, first, weighted, valued, rows-split, row-of}
use Rattle.lru_shard.proofs.Pulls.{row_key}
use Rattle.lru_shard.proofs.Refusals.{refusal_none, refusal_weight, IsShard-allowed, IsShard-first}
use Rattle.lru_shard.proofs.UnitCalls.{tailed_same}

some_of : {A : Type 0} (a b : A) → Some a ≡ Some b → a ≡ b
some_of a b e = cc

module _ {T : Type 0} (r : Recency ℕ T) (used cap : ℕ) (kept : IsKept r used cap) (old : Shard T) (view : shard (rows_in r.rows) cap ≡ old) (valid : IsRecency nat_eq r.rows)
    (k p : ℕ) (finds : Finds nat_eq r.rows k (Some p)) where
  -- the row, between the others
  pub found : Placed ℕ T
  found = finds.0

  pub at_place : IsAtPlace r.rows p
  at_place = ap is_some finds.2

  pub stand : Stands r.rows p finds.0
  stand = stands r.rows p finds.0 finds.2 (valid.places p)

  row_here : row_of (rows_in r.rows) k ≡ Some (row_in finds.0)
  row_here = row-of r.rows k ∙ ap (option_map row_in) finds.1

  key_is : finds.0.key ≡ k
  key_is = row_key (rows_in r.rows) k (row_in finds.0) row_here

  whole_in : rows_in r.rows ≡ rows_in stand.before ++ row_in finds.0 ∷ rows_in stand.after
  whole_in = ap rows_in stand.splits.whole ∙ rows-split stand.before finds.0 stand.after

  around : (times k (rows_in stand.before) ≡ 0) × (times k (rows_in stand.after) ≡ 0)
  around = none_around (rows_in r.rows) (rows_in stand.before) (rows_in stand.after) k (row_in finds.0) kept.valid.keys whole_in key_is

  abbrev at : IsAt (rows_in r.rows) k (row_in finds.0)
  at = record { before = rows_in stand.before; after = rows_in stand.after; whole = whole_in; same_key = key_is; none_before = around.0; none_after = around.1 }

  pub row_there : row_of old.rows k ≡ Some (row k finds.0.value finds.0.weight)
  row_there = subst (λ (s : Shard T). row_of s.rows k ≡ Some (row k finds.0.value finds.0.weight)) view
      (row_here ∙ ap (λ j. Some (row j finds.0.value finds.0.weight)) key_is)

  -- what is read at the place
  pub weight_read : (w : ℕ) → option_map (λ (y : Placed ℕ T). y.weight) (row_at r.rows p) ≡ Some w → w ≡ finds.0.weight
  weight_read w read = some_of w finds.0.weight (sym read ∙ ap (option_map (λ (y : Placed ℕ T). y.weight)) finds.2)

  pub value_read : (d : T) → option_map (λ (y : Placed ℕ T). y.value) (row_at r.rows p) ≡ Some d → d ≡ finds.0.value
  value_read d read = some_of d finds.0.value (sym read ∙ ap (option_map (λ (y : Placed ℕ T). y.value)) finds.2)

  pub weight_there : (w : ℕ) → option_map (λ (y : Placed ℕ T). y.weight) (row_at r.rows p) ≡ Some w → w ≡ weight_at old.rows k
  weight_there w read = weight_read w read ∙ sym (ap (λ o. option_map_or (λ (x : Row T). x.weight) o 0) row_there)

  pub row_read : (w : ℕ) → option_map (λ (y : Placed ℕ T). y.weight) (row_at r.rows p) ≡ Some w → row_of old.rows k ≡ Some (row k finds.0.value w)
  row_read w read = row_there ∙ ap (λ v. Some (row k finds.0.value v)) (sym (weight_read w read))

  pub part_in : finds.0.weight ≤ used
  part_in = omega (arith, weight-without (rows_in r.rows) k (row_in finds.0) at, kept.used_is)

  pub part_read : (w : ℕ) → option_map (λ (y : Placed ℕ T). y.weight) (row_at r.rows p) ≡ Some w → w ≤ used
  part_read w read = omega (arith, weight_read w read, part_in)

  light : used ≤ cap
  light = omega (arith, kept.used_is, kept.valid.light)

  -- the sizes with another weight
  new_weight : (d : T) (w : ℕ) → weight_of (with_first (rows_in r.rows) (row k d w)) + finds.0.weight ≡ used + w
  new_weight d w = omega (arith, weight-first (rows_in r.rows) k (row_in finds.0) at d w, kept.used_is)

  as_long : (d : T) (w : ℕ) → length (with_first (rows_in r.rows) (row k d w)) ≡ length (rows_in r.rows)
  as_long d w = length-first (rows_in r.rows) k (row_in finds.0) at d w

  with_weight_is : (w : ℕ) → weight_of (with_weight (rows_in r.rows) k w) + finds.0.weight ≡ used + w
  with_weight_is w = omega (arith, weight-with_weight (rows_in r.rows) k (row_in finds.0) at w, kept.used_is)

  with_as_long : (w : ℕ) → length (with_weight (rows_in r.rows) k w) ≡ length (rows_in r.rows)
  with_as_long w = omega (
    arith,
    ap length (with_weight-at (rows_in r.rows) k (row_in finds.0) at w),
    ap length at.whole,
    length-append at.before (row (row_in finds.0).key (row_in finds.0).value w ∷ at.after),
    length-append at.before (row_in finds.0 ∷ at.after),
  )

  -- a heavier row is refused, and changes nothing
  module _ (w0 : ℕ) (read : option_map (λ (y : Placed ℕ T). y.weight) (row_at r.rows p) ≡ Some w0) (w : ℕ) (heavy : cap - (used - w0) < w) where
    pub heavy_there : (d : T) → refusal old.cap (size_of old.rows) (size_of (with_first old.rows (row k d w))) ≡ Some Weight
    heavy_there d = subst (λ (s : Shard T). refusal s.cap (size_of s.rows) (size_of (with_first s.rows (row k d w))) ≡ Some Weight) view
        (refusal_weight cap (size_of (rows_in r.rows)) (size_of (with_first (rows_in r.rows) (row k d w))) (inl (omega (arith, as_long d w))) (omega (arith, new_weight d w, part_in, weight_read w0 read)))

    pub refuses_heavy : (d : T) (refused : Refused T) → refused.cause ≡ Weight → refused.held ≡ d → Refuses old old (with_first old.rows (row k d w)) d refused
    refuses_heavy d refused is back = record {
      declines = record { may = subst (MayRefuse old.cap (size_of old.rows) (size_of (with_first old.rows (row k d w)))) (sym is) (heavy_there d); left = refl };
      held = back;
    }

    pub declines_heavy : Declines old old (with_weight old.rows k w) Weight
    declines_heavy = record {
      may = subst (λ (s : Shard T). refusal s.cap (size_of s.rows) (size_of (with_weight s.rows k w)) ≡ Some Weight) view
          (refusal_weight cap (size_of (rows_in r.rows)) (size_of (with_weight (rows_in r.rows) k w)) (inl (omega (arith, with_as_long w))) (omega (arith, with_weight_is w, part_in, weight_read w0 read)));
      left = refl;
    }

  others : without (rows_in r.rows) k ≡ rows_in (stand.before ++ stand.after)
  others = without-at (rows_in r.rows) k (row_in finds.0) at ∙ sym (map-append row_in stand.before stand.after)

  -- the row is written, and goes first
  module _ (w0 : ℕ) (read : option_map (λ (y : Placed ℕ T). y.weight) (row_at r.rows p) ≡ Some w0) (d : T) (w : ℕ) (fits : w ≤ cap - (used - w0)) (r' : Recency ℕ T) (is : r'.rows ≡ placed finds.0.place finds.0.key d w ∷ stand.before ++ stand.after) where
    view_first : rows_in r'.rows ≡ with_first (rows_in r.rows) (row k d w)
    view_first = ap rows_in is ∙ ap (λ j. row j d w ∷ rows_in (stand.before ++ stand.after)) key_is ∙ ap (λ rs. row k d w ∷ rs) (sym others)

    first_allowed : refusal cap (size_of (rows_in r.rows)) (size_of (with_first (rows_in r.rows) (row k d w))) ≡ None
    first_allowed = refusal_none cap (size_of (rows_in r.rows)) (size_of (with_first (rows_in r.rows) (row k d w))) (inl (omega (arith, as_long d w))) (omega (arith, new_weight d w, part_in, light, weight_read w0 read))

    pub kept_first : (sum : ℕ) → sum ≡ used - w0 + w → IsKept r' sum cap
    kept_first sum sum_is = record {
      valid = subst (λ rs. IsShard (shard rs cap)) (sym view_first) (IsShard-first cap (rows_in r.rows) (row k d w) kept.valid first_allowed);
      used_is = omega (arith, sum_is, new_weight d w, part_in, weight_read w0 read, ap weight_of view_first);
    }

    pub accepts_first : Accepts old (shard (rows_in r'.rows) cap) (with_first old.rows (row k d w))
    accepts_first = subst (λ (s : Shard T). Accepts s (shard (rows_in r'.rows) cap) (with_first s.rows (row k d w))) view (record {
      allowed = first_allowed;
      left = ap (λ rows. shard rows cap) view_first;
    })

  -- or stays where it is, with another weight
  module _ (w0 : ℕ) (read : option_map (λ (y : Placed ℕ T). y.weight) (row_at r.rows p) ≡ Some w0) (w : ℕ) (fits : w ≤ cap - (used - w0)) (r' : Recency ℕ T) (splits : Splits r'.rows p stand.before (placed finds.0.place finds.0.key finds.0.value w) stand.after) where
    view_weighted : rows_in r'.rows ≡ with_weight (rows_in r.rows) k w
    view_weighted =
        ap rows_in splits.whole ∙ rows-split stand.before (placed finds.0.place finds.0.key finds.0.value w) stand.after
        ∙ sym (with_weight-at (rows_in r.rows) k (row_in finds.0) at w)

    weighted_allowed : refusal cap (size_of (rows_in r.rows)) (size_of (with_weight (rows_in r.rows) k w)) ≡ None
    weighted_allowed = refusal_none cap (size_of (rows_in r.rows)) (size_of (with_weight (rows_in r.rows) k w)) (inl (omega (arith, with_as_long w))) (omega (arith, with_weight_is w, part_in, light, weight_read w0 read))

    pub kept_weighted : (sum : ℕ) → sum ≡ used - w0 + w → IsKept r' sum cap
    kept_weighted sum sum_is = record {
      valid = subst (λ rs. IsShard (shard rs cap)) (sym view_weighted)
          (IsShard-allowed cap (rows_in r.rows) (with_weight (rows_in r.rows) k w) kept.valid (distinct-with_weight (rows_in r.rows) k w kept.valid.keys) (omega (arith, with_as_long w)) weighted_allowed);
      used_is = omega (arith, sum_is, with_weight_is w, part_in, weight_read w0 read, ap weight_of view_weighted);
    }

    pub accepts_weighted : Accepts old (shard (rows_in r'.rows) cap) (with_weight old.rows k w)
    accepts_weighted = subst (λ (s : Shard T). Accepts s (shard (rows_in r'.rows) cap) (with_weight s.rows k w)) view (record {
      allowed = weighted_allowed;
      left = ap (λ rows. shard rows cap) view_weighted;
    })

  -- or with other data alone
  module _ (d : T) (r' : Recency ℕ T) (splits : Splits r'.rows p stand.before (placed finds.0.place finds.0.key d finds.0.weight) stand.after) where
    view_valued : rows_in r'.rows ≡ with_value (rows_in r.rows) k d
    view_valued =
        ap rows_in splits.whole ∙ rows-split stand.before (placed finds.0.place finds.0.key d finds.0.weight) stand.after
        ∙ sym (with_value-at (rows_in r.rows) k (row_in finds.0) at d)

    valued_long : length (with_value (rows_in r.rows) k d) ≡ length (rows_in r.rows)
    valued_long = omega (
      arith,
      ap length (with_value-at (rows_in r.rows) k (row_in finds.0) at d),
      ap length at.whole,
      length-append at.before (row (row_in finds.0).key d (row_in finds.0).weight ∷ at.after),
      length-append at.before (row_in finds.0 ∷ at.after),
    )

    pub kept_valued : IsKept r' used cap
    kept_valued = record {
      valid = subst (λ rs. IsShard (shard rs cap)) (sym view_valued) (record {
        keys = distinct-with_value (rows_in r.rows) k d kept.valid.keys;
        light = omega (arith, kept.valid.light, weight-with_value (rows_in r.rows) k (row_in finds.0) at d);
        short = omega (arith, kept.valid.short, valued_long);
      });
      used_is = omega (arith, kept.used_is, weight-with_value (rows_in r.rows) k (row_in finds.0) at d, ap weight_of view_valued);
    }

    pub left_valued : shard (rows_in r'.rows) cap ≡ shard (with_value old.rows k d) old.cap
    left_valued = subst (λ (s : Shard T). shard (rows_in r'.rows) cap ≡ shard (with_value s.rows k d) s.cap) view (ap (λ rows. shard rows cap) view_valued)

  own_weight : option_map (λ (y : Placed ℕ T). y.weight) (row_at r.rows p) ≡ Some finds.0.weight
  own_weight = ap (option_map (λ (y : Placed ℕ T). y.weight)) finds.2

  -- the row goes first as it is
  module _ (r' : Recency ℕ T) (is : r' ≡ recency (promoted r.rows p) r.free) where
    accessed_is : r'.rows ≡ placed finds.0.place finds.0.key finds.0.value finds.0.weight ∷ stand.before ++ stand.after
    accessed_is = first r.rows p stand.before finds.0 stand.after stand.splits r'.rows (ap (λ (x : Recency ℕ T). x.rows) is)

    pub kept_accessed : IsKept r' used cap
    kept_accessed = kept_first finds.0.weight own_weight finds.0.value finds.0.weight (omega (arith, part_in, light)) r' accessed_is used (omega (arith, part_in))

    pub view_accessed : shard (rows_in r'.rows) cap ≡ shard (accessed old.rows k) old.cap
    view_accessed = subst (λ (s : Shard T). shard (rows_in r'.rows) cap ≡ shard (accessed s.rows k) s.cap) view
        (ap (λ rows. shard rows cap)
        (view_first finds.0.weight own_weight finds.0.value finds.0.weight (omega (arith, part_in, light)) r' accessed_is
        ∙ sym (accessed_at (rows_in r.rows) k (row k finds.0.value finds.0.weight) (row_here ∙ ap (λ j. Some (row j finds.0.value finds.0.weight)) key_is))))

  -- a row that is there is not put last again
  pub accepts_tailed : (d : T) (w : ℕ) → Accepts old old (tailed old.rows k d w)
  accepts_tailed d w = subst (λ (s : Shard T). Accepts s s (tailed s.rows k d w)) view (record {
    allowed = ap (λ rs. refusal cap (size_of (rows_in r.rows)) (size_of rs)) (tailed_same (rows_in r.rows) k (row_in finds.0) row_here d w)
        ∙ refusal_none cap (size_of (rows_in r.rows)) (size_of (rows_in r.rows)) (inl (omega arith)) kept.valid.light;
    left = ap (λ rows. shard rows cap) (sym (tailed_same (rows_in r.rows) k (row_in finds.0) row_here d w));
  })

  -- what the writes at its place leave: other data, another weight, and the first place
  pub at_valued : (d : T) (r1 : Recency ℕ T) → r1 ≡ recency (with_value_at r.rows p d) r.free → Splits r1.rows p stand.before (placed finds.0.place finds.0.key d finds.0.weight) stand.after
  at_valued d r1 is = valued r.rows p stand.before finds.0 stand.after stand.splits d r1.rows (ap (λ (x : Recency ℕ T). x.rows) is)

  pub at_weighted : (d : T) (w v : ℕ) (r1 r2 : Recency ℕ T) → Splits r1.rows p stand.before (placed finds.0.place finds.0.key d v) stand.after → r2 ≡ recency (with_weight_at r1.rows p w) r1.free →
      Splits r2.rows p stand.before (placed finds.0.place finds.0.key d w) stand.after
  at_weighted d w v r1 r2 splits is = weighted r1.rows p stand.before (placed finds.0.place finds.0.key d v) stand.after splits w r2.rows (ap (λ (x : Recency ℕ T). x.rows) is)

  pub at_first : (d : T) (w : ℕ) (r2 r3 : Recency ℕ T) → Splits r2.rows p stand.before (placed finds.0.place finds.0.key d w) stand.after → r3 ≡ recency (promoted r2.rows p) r2.free →
      r3.rows ≡ placed finds.0.place finds.0.key d w ∷ stand.before ++ stand.after
  at_first d w r2 r3 splits is = first r2.rows p stand.before (placed finds.0.place finds.0.key d w) stand.after splits r3.rows (ap (λ (x : Recency ℕ T). x.rows) is)

  pub still_at : (x : Placed ℕ T) (r1 : Recency ℕ T) → Splits r1.rows p stand.before x stand.after → IsAtPlace r1.rows p
  still_at x r1 splits = ap is_some (row_at-split r1.rows p stand.before x stand.after splits)

  -- what a closure made of the data that it was lent
  pub changes : (w0 : ℕ) → option_map (λ (y : Placed ℕ T). y.weight) (row_at r.rows p) ≡ Some w0 → (post : MutBor T → ℕ → ℕ → MutBor T → Type 0) (given : ℕ) (r1 : Recency ℕ T) (u : UpdatesAt post r p given r1) →
      Updates post finds.0.value w0 given u.2
  changes w0 read post given r1 u =
      let same : u.0 ≡ finds.0 = some_of u.0 finds.0 (sym u.1 ∙ finds.2) in
      subst (λ v. Updates post finds.0.value v given u.2) (sym (weight_read w0 read))
      (subst (λ (y : Placed ℕ T). Updates post y.value y.weight given u.2) same (record { lent = u.3.lent; left = u.3.left; shows = u.3.shows; called = u.3.called; leaves = u.3.leaves }))

  -- what is lent is the row's
  pub value_found : (d : T) → option_map (λ (y : Placed ℕ T). y.value) (row_at r.rows p) ≡ Some d → Some d ≡ option_map (λ (x : Row T). x.value) (row_of old.rows k)
  value_found d read = ap (λ x. Some x) (value_read d read) ∙ sym (ap (option_map (λ (x : Row T). x.value)) row_there)

  pub weight_found : (w : ℕ) → option_map (λ (y : Placed ℕ T). y.weight) (row_at r.rows p) ≡ Some w → Some w ≡ option_map (λ (x : Row T). x.weight) (row_of old.rows k)
  weight_found w read = ap (λ x. Some x) (weight_read w read) ∙ sym (ap (option_map (λ (x : Row T). x.weight)) row_there)

  -- another weight alone, with the row's own data
  pub at_own : (w : ℕ) (r1 : Recency ℕ T) → r1 ≡ recency (with_weight_at r.rows p w) r.free → Splits r1.rows p stand.before (placed finds.0.place finds.0.key finds.0.value w) stand.after
  at_own w r1 is = weighted r.rows p stand.before finds.0 stand.after stand.splits w r1.rows (ap (λ (x : Recency ℕ T). x.rows) is)

-- a key that is found is not put last again
module _ {T : Type 0} (r : Recency ℕ T) (used cap : ℕ) (kept : IsKept r used cap) (old : Shard T) (view : shard (rows_in r.rows) cap ≡ old) (valid : IsRecency nat_eq r.rows) (k : ℕ) where
  pub tailed_found : (o : Option ℕ) → true ≡ is_some o → Finds nat_eq r.rows k o → (d : T) (w : ℕ) → Accepts old old (tailed old.rows k d w)
  tailed_found None e finds d w = absurd (false≢true (sym e))
  tailed_found (Some p) e finds d w = accepts_tailed r used cap kept old view valid k p finds d w
