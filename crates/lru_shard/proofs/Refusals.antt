-- Laws of refusals: when there is one, and what a list that is not refused keeps to.
use Rattle.std.proofs.Common.{◌≡◌, ℕ, ◌+◌, ◌<◌, ◌≤◌, Bool, true, false, cond, ltb, leb, ◌&&◌, List, length, ◌++◌, Some, None, refl, sym, ap, ◌∙◌, arith, ◌⊎◌, inl, inr, length-append}
use Rattle.std.proofs.lemmas.Bool.{cases_Bool, cases_lt, lt-ltb, le-ltb, le-leb, lt-leb, and_from, and_left, and_right}
use Rattle.lru_shard.specs.Row.{Row, HasDistinctKeys, with_first}
use Rattle.lru_shard.specs.Shard.{shard, IsShard, Size, size_of, most_rows, refusal}
use Rattle.lru_shard.specs.declared.unit.Cause.TheVariants.{Weight, Length}
use Rattle.lru_shard.proofs.Rows.{weight-append, distinct-front, distinct-first, length-without-le}

-- the three outcomes
by_tests : (cap : ℕ) (old new : Size) (a b : Bool) → (ltb old.len new.len && leb (most_rows cap) old.len) ≡ a → ltb cap new.weight ≡ b →
    refusal cap old new ≡ cond a (Some Length) (cond b (Some Weight) None)
by_tests cap old new a b p q = ap (λ t. cond t (Some Length) (cond (ltb cap new.weight) (Some Weight) None)) p ∙ ap (λ t. cond a (Some Length) (cond t (Some Weight) None)) q

has_room : (cap : ℕ) (old new : Size) → (new.len ≤ old.len) ⊎ (old.len < most_rows cap) → (ltb old.len new.len && leb (most_rows cap) old.len) ≡ false
has_room cap old new (inl h) = and_left _ _ (le-ltb old.len new.len h)
has_room cap old new (inr h) = and_right (ltb old.len new.len) _ (lt-leb (most_rows cap) old.len h)

pub refusal_none : (cap : ℕ) (old new : Size) → (new.len ≤ old.len) ⊎ (old.len < most_rows cap) → new.weight ≤ cap → refusal cap old new ≡ None
refusal_none cap old new room light = by_tests cap old new false false (has_room cap old new room) (le-ltb cap new.weight light)

pub refusal_weight : (cap : ℕ) (old new : Size) → (new.len ≤ old.len) ⊎ (old.len < most_rows cap) → cap < new.weight → refusal cap old new ≡ Some Weight
refusal_weight cap old new room heavy = by_tests cap old new false true (has_room cap old new room) (lt-ltb cap new.weight heavy)

pub refusal_length : (cap : ℕ) (old new : Size) → old.len < new.len → most_rows cap ≤ old.len → refusal cap old new ≡ Some Length
refusal_length cap old new longer full = by_tests cap old new true (ltb cap new.weight) (and_from _ _ (lt-ltb old.len new.len longer) (le-leb (most_rows cap) old.len full)) refl

pub allowed_light : (cap : ℕ) (old new : Size) → refusal cap old new ≡ None → new.weight ≤ cap
allowed_light cap old new h =
    elim (cases_lt cap new.weight) [
      | inl heavy ↦ absurd (elim (cases_Bool (ltb old.len new.len && leb (most_rows cap) old.len)) [
        | inl e ↦ let x : Some Length ≡ None = sym (ap (λ b. cond b (Some Length) (cond (ltb cap new.weight) (Some Weight) None)) e) ∙ h in cc
        | inr e ↦ let x : Some Weight ≡ None = sym (ap (λ b. cond b (Some Length) (cond (ltb cap new.weight) (Some Weight) None)) e ∙ ap (λ b. cond b (Some Weight) None) (lt-ltb _ _ heavy)) ∙ h in cc
      ])
      | inr light ↦ light
    ]

pub allowed_short : (cap : ℕ) (old new : Size) → old.len ≤ most_rows cap → new.len ≤ old.len + 1 → refusal cap old new ≡ None → new.len ≤ most_rows cap
allowed_short cap old new s one h =
    elim (cases_lt (most_rows cap) new.len) [
      | inl long ↦ absurd (let e : (ltb old.len new.len && leb (most_rows cap) old.len) ≡ true = and_from (ltb old.len new.len) (leb (most_rows cap) old.len) (lt-ltb old.len new.len (omega arith)) (le-leb (most_rows cap) old.len (omega arith)) in
          let x : Some Length ≡ None = sym (ap (λ b. cond b (Some Length) (cond (ltb cap new.weight) (Some Weight) None)) e) ∙ h in cc)
      | inr short ↦ short
    ]

module _ {T : Type 0} where
  -- rows that are not refused in place of a shard's are a shard's too
  pub IsShard-allowed : (cap : ℕ) (old new : List (Row T)) → IsShard (shard old cap) → HasDistinctKeys new → length new ≤ length old + 1 →
      refusal cap (size_of old) (size_of new) ≡ None → IsShard (shard new cap)
  IsShard-allowed cap old new valid keys one allowed = record {
    keys = keys;
    light = allowed_light cap (size_of old) (size_of new) allowed;
    short = allowed_short cap (size_of old) (size_of new) valid.short one allowed;
  }

  pub IsShard-first : (cap : ℕ) (rows : List (Row T)) (r : Row T) → IsShard (shard rows cap) → refusal cap (size_of rows) (size_of (with_first rows r)) ≡ None → IsShard (shard (with_first rows r) cap)
  IsShard-first cap rows r h allowed =
      IsShard-allowed cap rows (with_first rows r) h (distinct-first rows r h.keys) (omega (arith, length-without-le r.key rows)) allowed

  -- a shard without its last rows
  pub IsShard-front : (cap : ℕ) (xs ys : List (Row T)) → IsShard (shard (xs ++ ys) cap) → IsShard (shard xs cap)
  IsShard-front cap xs ys h = record {
    keys = distinct-front xs ys h.keys;
    light = omega (arith, h.light, weight-append xs ys);
    short = omega (arith, h.short, length-append xs ys);
  }
