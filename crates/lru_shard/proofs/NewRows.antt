-- A row more in a shard, from what the code knows: what a refusal says, and what the put of the row leaves.
use Rattle.std.proofs.Common.{◌≡◌, ℕ, ◌+◌, ◌-◌, ◌<◌, ◌≤◌, true, false, [], ◌∷◌, ◌++◌, length, Some, None, Ok, Err, sym, ap, ◌∙◌, arith, subst, inl, inr}
use Rattle.std.specs.Prelude.{Option, Result, max, nat_eq}
use Rattle.std.proofs.lemmas.Bool.{cases_Bool, leb-true, leb-false}
use Rattle.std.proofs.lemmas.List.{map-append}
use Rattle.lru_rows.specs.Rows.{Recency, recency, placed, row_of as placed_of, MakesVacancy}
use Rattle.lru_rows.specs.declared.rows.NoPlace.{NoPlace}
use Rattle.lru_shard.specs.declared.unit.Cause.{Cause}
use Rattle.lru_shard.specs.declared.unit.Cause.TheVariants.{Memory, Weight, Length}
use Rattle.lru_shard.specs.declared.unit.Refused.{Refused}
use Rattle.lru_shard.specs.Representation.{row_in, rows_in, IsKept}
use Rattle.lru_shard.specs.Row.{row, row_of, weight_of, times, with_first, with_last, with_weight}
use Rattle.lru_shard.specs.Shard.{Shard, shard, IsShard, Size, size_of, and_row, most_rows, is_full, refusal, MayRefuse, Accepts, Refuses}
use Rattle.lru_shard.specs.Unit.{tailed, RefusesNew}
use Rattle.lru_shard.proofs.Edits.{first-new, with_weight-absent, size-first_new, size-last, distinct-last}
use Rattle.lru_shard.proofs.Places.{unplaced, length-rows}
use Rattle.lru_shard.proofs.Refusals.{refusal_none, refusal_weight, refusal_length, allowed_light, IsShard-first, IsShard-allowed}
use Rattle.lru_shard.proofs.UnitCalls.{times_none, to_first, to_last, tailed_is, light_row, heavy_row}

-- a row that weighs nothing is refused for the length alone
module _ (cap : ℕ) (s : Size) (light : s.weight ≤ cap) where
  full_empty : is_full cap s ≡ true → refusal cap s (and_row s 0) ≡ Some Length
  full_empty full = refusal_length cap s (and_row s 0) (omega arith) (leb-true (most_rows cap) s.len full)

  room_empty : is_full cap s ≡ false → refusal cap s (and_row s 0) ≡ None
  room_empty room = refusal_none cap s (and_row s 0) (inr (leb-false (most_rows cap) s.len room)) (omega (arith, light))

  pub not_full : refusal cap s (and_row s 0) ≡ None → is_full cap s ≡ false
  not_full h = elim (cases_Bool (is_full cap s)) [
    | inl full ↦ let bad : Some Length ≡ None = sym (full_empty full) ∙ h in cc
    | inr room ↦ room
  ]

  full_of : refusal cap s (and_row s 0) ≡ Some Length → is_full cap s ≡ true
  full_of h = elim (cases_Bool (is_full cap s)) [
    | inl full ↦ full
    | inr room ↦ let bad : None ≡ Some Length = sym (room_empty room) ∙ h in cc
  ]

  not_heavy : refusal cap s (and_row s 0) ≡ Some Weight → ⊥
  not_heavy h = elim (cases_Bool (is_full cap s)) [
    | inl full ↦ let bad : Some Length ≡ Some Weight = sym (full_empty full) ∙ h in cc
    | inr room ↦ let bad : None ≡ Some Weight = sym (room_empty room) ∙ h in cc
  ]

module _ {T : Type 0} where
  -- before any data are made a new row is refused as one that weighs nothing is
  pub refuses_given : (Makes : T × ℕ → Type 0) (s : Shard T) (cause : Cause) (told : ℕ) (held : Option (T × ℕ)) → (size_of s.rows).weight ≤ s.cap → MayRefuse s.cap (size_of s.rows) (and_row (size_of s.rows) 0) cause → told ≡ 0 → held ≡ None → RefusesNew Makes s cause told held
  refuses_given Makes s Memory told held light may zero none = (not_full s.cap (size_of s.rows) light may.0, (zero, none))
  refuses_given Makes s Weight told held light may zero none = absurd (not_heavy s.cap (size_of s.rows) light may)
  refuses_given Makes s Length told held light may zero none = (full_of s.cap (size_of s.rows) light may, (zero, none))

  -- the rows stay where a place is made sure of, and one is put in front of them then
  pub vacant_same : (r r1 : Recency ℕ T) (result : Result (Unit {0}) NoPlace) → MakesVacancy r result r1 → r1.rows ≡ r.rows
  vacant_same r r1 (Ok done) made = ap (λ (x : Recency ℕ T). x.rows) made.1
  vacant_same r r1 (Err cause) made = ap (λ (x : Recency ℕ T). x.rows) made.1

  pub put_before : (r r1 r2 : Recency ℕ T) (k : ℕ) (d : T) (w : ℕ) (result : Result (Unit {0}) NoPlace) → MakesVacancy r result r1 →
      (puts : (p : ℕ) × (r2 ≡ recency (placed p k d w ∷ r1.rows) (r1.free - 1))) → r2.rows ≡ placed puts.0 k d w ∷ r.rows
  put_before r r1 r2 k d w result made puts = ap (λ (x : Recency ℕ T). x.rows) puts.1 ∙ ap (λ ps. placed puts.0 k d w ∷ ps) (vacant_same r r1 result made)

  module _ (r : Recency ℕ T) (used cap : ℕ) (kept : IsKept r used cap) (old : Shard T) (view : shard (rows_in r.rows) cap ≡ old) where
    pub light_old : (size_of old.rows).weight ≤ old.cap
    light_old = subst (λ (s : Shard T). (size_of s.rows).weight ≤ s.cap) view kept.valid.light

    rows_are : old.rows ≡ rows_in r.rows
    rows_are = ap (λ (s : Shard T). s.rows) (sym view)

    cap_is : old.cap ≡ cap
    cap_is = ap (λ (s : Shard T). s.cap) (sym view)

    -- why a row more is refused, and when it is not, by what the code knows: the length and the most
    module _ (len most w : ℕ) (len_is : len ≡ length r.rows) (most_is : most ≡ most_rows cap) where
      long_here : length (rows_in r.rows) ≡ len
      long_here = length-rows r.rows ∙ sym len_is

      pub full_here : most ≤ len → refusal old.cap (size_of old.rows) (and_row (size_of old.rows) w) ≡ Some Length
      full_here h = subst (λ (s : Shard T). refusal s.cap (size_of s.rows) (and_row (size_of s.rows) w) ≡ Some Length) view
          (refusal_length cap (size_of (rows_in r.rows)) (and_row (size_of (rows_in r.rows)) w) (omega arith) (omega (arith, long_here)))

      pub heavy_here : len < most → cap - used < w → refusal old.cap (size_of old.rows) (and_row (size_of old.rows) w) ≡ Some Weight
      heavy_here h heavy = subst (λ (s : Shard T). refusal s.cap (size_of s.rows) (and_row (size_of s.rows) w) ≡ Some Weight) view
          (refusal_weight cap (size_of (rows_in r.rows)) (and_row (size_of (rows_in r.rows)) w) (inr (omega (arith, long_here))) (omega (arith, kept.used_is)))

      pub light_here : len < most → w ≤ cap - used → refusal old.cap (size_of old.rows) (and_row (size_of old.rows) w) ≡ None
      light_here h light = subst (λ (s : Shard T). refusal s.cap (size_of s.rows) (and_row (size_of s.rows) w) ≡ None) view
          (refusal_none cap (size_of (rows_in r.rows)) (and_row (size_of (rows_in r.rows)) w) (inr (omega (arith, long_here))) (omega (arith, kept.used_is, kept.valid.light)))

    -- a refusal, in the words of the shard
    module _ (w : ℕ) (cause : Cause) (may : MayRefuse old.cap (size_of old.rows) (and_row (size_of old.rows) w) cause) where
      pub may_first : (k : ℕ) → row_of old.rows k ≡ None → (d : T) → MayRefuse old.cap (size_of old.rows) (size_of (with_first old.rows (row k d w))) cause
      may_first k free d = to_first old.rows k free old.cap d w cause may

      pub may_last : (k : ℕ) → row_of old.rows k ≡ None → (d : T) → MayRefuse old.cap (size_of old.rows) (size_of (tailed old.rows k d w)) cause
      may_last k free d = to_last old.rows k free old.cap d w cause may

      module _ (k : ℕ) (free : row_of old.rows k ≡ None) (d : T) (refused : Refused T) (is : refused.cause ≡ cause) (back : refused.held ≡ d) (new : Shard T) (left : new ≡ old) where
        pub refuses_first : Refuses old new (with_first old.rows (row k d w)) d refused
        refuses_first = record {
          declines = record { may = subst (MayRefuse old.cap (size_of old.rows) (size_of (with_first old.rows (row k d w)))) (sym is) (may_first k free d); left = left };
          held = back;
        }

        pub refuses_last : Refuses old new (tailed old.rows k d w) d refused
        refuses_last = record {
          declines = record { may = subst (MayRefuse old.cap (size_of old.rows) (size_of (tailed old.rows k d w))) (sym is) (may_last k free d); left = left };
          held = back;
        }

    -- where nothing stands against a row, want of memory may
    pub may_memory : (w : ℕ) → refusal old.cap (size_of old.rows) (and_row (size_of old.rows) w) ≡ None → MayRefuse old.cap (size_of old.rows) (and_row (size_of old.rows) w) Memory
    may_memory w allowed = (allowed, omega arith)

    module _ (k : ℕ) (free : row_of old.rows k ≡ None) where
      free_in : row_of (rows_in r.rows) k ≡ None
      free_in = ap (λ (s : Shard T). row_of s.rows k) view ∙ free

      -- the rows beneath have none either
      pub unplaced_in : placed_of nat_eq r.rows k ≡ None
      unplaced_in = unplaced r.rows k free_in

      none_times : times k (rows_in r.rows) ≡ 0
      none_times = times_none (rows_in r.rows) k free_in

      -- another weight for such a key changes nothing
      pub accepts_absent : (w : ℕ) → Accepts old old (with_weight old.rows k w)
      accepts_absent w = subst (λ (s : Shard T). Accepts s s (with_weight s.rows k w)) view (record {
        allowed = ap (λ rs. refusal cap (size_of (rows_in r.rows)) (size_of rs)) (with_weight-absent (rows_in r.rows) k none_times w)
            ∙ refusal_none cap (size_of (rows_in r.rows)) (size_of (rows_in r.rows)) (inl (omega arith)) kept.valid.light;
        left = ap (λ rows. shard rows cap) (sym (with_weight-absent (rows_in r.rows) k none_times w));
      })

      module _ (d : T) (w : ℕ) (allowed : refusal old.cap (size_of old.rows) (and_row (size_of old.rows) w) ≡ None) where
        allowed_in : refusal cap (size_of (rows_in r.rows)) (and_row (size_of (rows_in r.rows)) w) ≡ None
        allowed_in = subst (λ (s : Shard T). refusal s.cap (size_of s.rows) (and_row (size_of s.rows) w) ≡ None) (sym view) allowed

        pub sum_fits : used + w ≤ cap
        sum_fits = omega (arith, kept.used_is, allowed_light cap (size_of (rows_in r.rows)) (and_row (size_of (rows_in r.rows)) w) allowed_in)

        -- the row goes first
        module _ (p : ℕ) (r' : Recency ℕ T) (is : r'.rows ≡ placed p k d w ∷ r.rows) where
          first_is : rows_in r'.rows ≡ with_first (rows_in r.rows) (row k d w)
          first_is = ap rows_in is ∙ sym (first-new (rows_in r.rows) k none_times d w)

          first_allowed : refusal cap (size_of (rows_in r.rows)) (size_of (with_first (rows_in r.rows) (row k d w))) ≡ None
          first_allowed = ap (refusal cap (size_of (rows_in r.rows))) (size-first_new (rows_in r.rows) k none_times d w) ∙ allowed_in

          pub kept_first : IsKept r' (used + w) cap
          kept_first = record {
            valid = subst (λ rs. IsShard (shard rs cap)) (sym first_is) (IsShard-first cap (rows_in r.rows) (row k d w) kept.valid first_allowed);
            used_is = omega (arith, kept.used_is, ap weight_of first_is, ap (λ (z : Size). z.weight) (size-first_new (rows_in r.rows) k none_times d w));
          }

          pub accepts_first : Accepts old (shard (rows_in r'.rows) cap) (with_first old.rows (row k d w))
          accepts_first = subst (λ (s : Shard T). Accepts s (shard (rows_in r'.rows) cap) (with_first s.rows (row k d w))) view (record {
            allowed = first_allowed;
            left = ap (λ rows. shard rows cap) first_is;
          })

        -- or last
        module _ (p : ℕ) (r' : Recency ℕ T) (is : r'.rows ≡ r.rows ++ placed p k d w ∷ []) where
          last_is : rows_in r'.rows ≡ with_last (rows_in r.rows) (row k d w)
          last_is = ap rows_in is ∙ map-append row_in r.rows (placed p k d w ∷ [])

          last_allowed : refusal cap (size_of (rows_in r.rows)) (size_of (with_last (rows_in r.rows) (row k d w))) ≡ None
          last_allowed = ap (refusal cap (size_of (rows_in r.rows))) (size-last (rows_in r.rows) k none_times d w) ∙ allowed_in

          pub kept_last : IsKept r' (used + w) cap
          kept_last = record {
            valid = subst (λ rs. IsShard (shard rs cap)) (sym last_is)
                (IsShard-allowed cap (rows_in r.rows) (with_last (rows_in r.rows) (row k d w)) kept.valid (distinct-last (rows_in r.rows) k none_times d w kept.valid.keys)
                (omega (arith, ap (λ (z : Size). z.len) (size-last (rows_in r.rows) k none_times d w))) last_allowed);
            used_is = omega (arith, kept.used_is, ap weight_of last_is, ap (λ (z : Size). z.weight) (size-last (rows_in r.rows) k none_times d w));
          }

          tail_is : tailed (rows_in r.rows) k d w ≡ with_last (rows_in r.rows) (row k d w)
          tail_is = tailed_is (rows_in r.rows) k free_in cap d w

          pub accepts_last : Accepts old (shard (rows_in r'.rows) cap) (tailed old.rows k d w)
          accepts_last = subst (λ (s : Shard T). Accepts s (shard (rows_in r'.rows) cap) (tailed s.rows k d w)) view (record {
            allowed = ap (λ rs. refusal cap (size_of (rows_in r.rows)) (size_of rs)) tail_is ∙ last_allowed;
            left = ap (λ rows. shard rows cap) (last_is ∙ sym tail_is);
          })

    -- the weight of a row that takes its place as one that weighs nothing is known only later
    module _ (empty : refusal old.cap (size_of old.rows) (and_row (size_of old.rows) 0) ≡ None) where
      room_here : is_full cap (size_of (rows_in r.rows)) ≡ false
      room_here = not_full cap (size_of (rows_in r.rows)) kept.valid.light (subst (λ (s : Shard T). refusal s.cap (size_of s.rows) (and_row (size_of s.rows) 0) ≡ None) (sym view) empty)

      pub light_given : (w : ℕ) → w ≤ cap - used → refusal old.cap (size_of old.rows) (and_row (size_of old.rows) w) ≡ None
      light_given w h = subst (λ (s : Shard T). refusal s.cap (size_of s.rows) (and_row (size_of s.rows) w) ≡ None) view
          (light_row cap (size_of (rows_in r.rows)) w room_here (omega (arith, kept.used_is, kept.valid.light)))

      pub heavy_given : (given w : ℕ) → w ≡ max given 1 → cap - used < w → refusal old.cap (size_of old.rows) (and_row (size_of old.rows) (max given 1)) ≡ Some Weight
      heavy_given given w is h = subst (λ (s : Shard T). refusal s.cap (size_of s.rows) (and_row (size_of s.rows) (max given 1)) ≡ Some Weight) view
          (ap (λ v. refusal cap (size_of (rows_in r.rows)) (and_row (size_of (rows_in r.rows)) v)) (sym is)
          ∙ heavy_row cap (size_of (rows_in r.rows)) w room_here (omega (arith, kept.used_is)))

    -- rows that stay where places are made
    pub kept_vacant : (r' : Recency ℕ T) → r'.rows ≡ r.rows → IsKept r' used cap
    kept_vacant r' same = record {
      valid = subst (λ rs. IsShard (shard (rows_in rs) cap)) (sym same) kept.valid;
      used_is = kept.used_is ∙ ap (λ rs. weight_of (rows_in rs)) (sym same);
    }

    pub view_vacant : (r' : Recency ℕ T) → r'.rows ≡ r.rows → shard (rows_in r'.rows) cap ≡ old
    view_vacant r' same = ap (λ rs. shard (rows_in rs) cap) same ∙ view
