-- What a walk of admits and evictions makes of the upper segment.
use Rattle.std.proofs.Common.{◌≡◌, ℕ, ◌<◌, List, [], ◌∷◌, length, Some, None, Ok, Err, ap, ◌∙◌, subst, inl, inr, arith}
use Rattle.std.specs.Prelude.{Option, Result, nat_eq}
use Rattle.lru_owned_cache.specs.Cache.{entry_of}
use Rattle.lru_shard.specs.declared.unit.Refused.{Refused}
use Rattle.lru_segmented.specs.Segmented.{Segmented, entries}
use Rattle.lru_segmented.specs.SegmentedUnit.{Admitted, Admits, Evicts}
use Rattle.lru_segmented.specs.UnitLaws.{Call, Admit, Evict, Walks}

module _ {T S : Type 0} where
  -- an admit of a key that has no row
  admit_stays : (old : Segmented ℕ T S) (k : ℕ) (d : T) (w : ℕ) (answer : Result ℕ (Refused T)) (new : Segmented ℕ T S) → entry_of nat_eq (entries old) k ≡ None → Admits old k d w answer new → new.upper ≡ old.upper
  admit_stays old k d w (Ok was) new none (allowed, (was_is, admitted)) = ap (λ (c : Segmented ℕ T S). c.upper) (subst (λ o. Admitted old k d w o new) none admitted)
  admit_stays old k d w (Err r) new none (may, (held, is)) = ap (λ (c : Segmented ℕ T S). c.upper) is

  -- an eviction while the lower segment has rows
  evict_stays : (old : Segmented ℕ T S) (answer : Option (T × ℕ)) (new : Segmented ℕ T S) → 0 < length old.lower → Evicts old answer new → new.upper ≡ old.upper
  evict_stays old None new some (upper, (lower, is)) = ap (λ (c : Segmented ℕ T S). c.upper) is
  evict_stays old (Some p) new some (k, pops) =
      elim pops [
        | inl (front, (parts, is)) ↦ ap (λ (c : Segmented ℕ T S). c.upper) is
        | inr (front, (none, rest)) ↦ absurd (omega (arith, some, ap length none))
      ]

  pub no_walk : (calls : List (Call T)) (old new : Segmented ℕ T S) → Walks calls old new → new.upper ≡ old.upper
  no_walk [] old new is = ap (λ (c : Segmented ℕ T S). c.upper) is
  no_walk (Admit k d w ∷ calls) old new (none, (answer, (mid, (admits, rest)))) = no_walk calls mid new rest ∙ admit_stays old k d w answer mid none admits
  no_walk (Evict ∷ calls) old new (some, (answer, (mid, (evicts, rest)))) = no_walk calls mid new rest ∙ evict_stays old answer mid some evicts
