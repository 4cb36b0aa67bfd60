-- Whether an entry may enter.
use Rattle.std.proofs.Common.{◌≡◌, ℕ, ◌-◌, ◌<◌, ◌≤◌, Bool, true, false, cond, not, List, [], ◌∷◌, Option, Some, None, refl, sym, ap, ◌∙◌, subst}
use Rattle.std.specs.Prelude.{is_some}
use Rattle.lru_owned_cache.specs.declared.entry.Entry.{Entry}
use Rattle.lru_owned_cache.specs.Cache.{Leaves, entry_of, without}
use Rattle.lru_admission.specs.Sketch.{estimate}
use Rattle.lru_admission.specs.Admission.{Watched, all_rarer, AsksVictims, MayEnter}
use Rattle.lru_admission.proofs.Victims.{leaves_same}

module _ {K V : Type 0} (eq : K → K → Bool) where
  -- a key that has no entry is taken out of none
  without_none : (es : List (Entry K V)) (k : K) → entry_of eq es k ≡ None → without eq es k ≡ es
  without_none [] k h = refl
  without_none (e ∷ es) k h =
      let rest = without eq es k in
      elim (eq e.key k) as (λ b. cond b (Some e) (entry_of eq es k) ≡ None → cond (not b) (e ∷ rest) rest ≡ e ∷ es) [
        | true ↦ λ (found : Some e ≡ None). cc found
        | false ↦ λ none. ap (λ xs. e ∷ xs) (without_none es k none)
      ] h

  module _ {S : Type 0} (hash : K → ℕ) (old : Watched K V S) (k : K) (w : ℕ) where
    -- all that a walk over those that go tells
    pub enters : (count weight entries : ℕ) (answer : Bool) → entry_of eq old.cache.entries k ≡ None → w ≤ old.cache.most_weight → 0 < old.cache.most_entries → count ≡ estimate old.sketch (hash k) →
        weight ≡ old.cache.most_weight - w → entries ≡ old.cache.most_entries - 1 → AsksVictims hash old.sketch old.cache.entries count weight entries answer → MayEnter eq hash old k w answer
    enters count weight entries answer none light some is weight_is entries_is asked =
        let asks =
        subst (λ (n : ℕ). AsksVictims hash old.sketch old.cache.entries count (old.cache.most_weight - w) n answer) entries_is
        (subst (λ (m : ℕ). AsksVictims hash old.sketch old.cache.entries count m entries answer) weight_is asked) in
        let same = without_none old.cache.entries k none in
        elim answer as (λ b. AsksVictims hash old.sketch old.cache.entries count (old.cache.most_weight - w) (old.cache.most_entries - 1) b → MayEnter eq hash old k w b) [
          | true ↦ λ told. λ _ _ front gone _ leaves.
              let other = subst (λ (es : List (Entry K V)). Leaves (old.cache.most_weight - w) (old.cache.most_entries - 1) es front gone) same leaves in
              let gone_is = leaves_same (old.cache.most_weight - w) (old.cache.most_entries - 1) old.cache.entries told.0 told.1.0 front gone told.1.1.0 other in
              sym (told.1.1.1 ∙ (ap (λ (es : List (Entry K V)). all_rarer hash old.sketch count es) gone_is ∙ ap (λ n. all_rarer hash old.sketch n gone) is))
          | false ↦ λ told. record {
            new_key = none;
            light = light;
            some = some;
            front = told.0;
            gone = told.1.0;
            leaves = subst (λ (es : List (Entry K V)). Leaves (old.cache.most_weight - w) (old.cache.most_entries - 1) es told.0 told.1.0) (sym same) told.1.1.0;
            rarer = sym (told.1.1.1 ∙ ap (λ n. all_rarer hash old.sketch n told.1.0) is);
          }
        ] asks

    -- a key that has an entry asks nothing
    pub enters_again : (found : Bool) → found ≡ is_some (entry_of eq old.cache.entries k) → found ≡ true → MayEnter eq hash old k w true
    enters_again found is there = λ _ _ front gone none leaves. absurd (no_some (ap is_some none) (sym is ∙ there))
      where
        no_some : is_some (entry_of eq old.cache.entries k) ≡ false → is_some (entry_of eq old.cache.entries k) ≡ true → ⊥
        no_some a b = cc

    pub none_found : (o : Option (Entry K V)) (found : Bool) → found ≡ is_some o → found ≡ false → o ≡ None
    none_found None found is gone = refl
    none_found (Some e) found is gone = cc
