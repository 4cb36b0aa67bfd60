-- Entries whose values stand in a relation to their keys.
use Rattle.std.specs.Prelude.{◌≡◌, Bool, true, List, All}
use Rattle.lru_owned_cache.specs.declared.entry.Entry.{Entry}

module _ {K V : Type 0} (holds : K → V → Type 0) where
  -- a value stands in the relation to this key
  abbrev pub IsRelated : K → V → Type 0
  IsRelated key value = ∥ holds key value ∥₁

  -- each of these does to its own
  abbrev pub AreRelated : List (Entry K V) → Type 0
  AreRelated es = All (λ e. IsRelated e.key e.value) es

  -- a value stands in the relation to a key for which this query stands
  abbrev pub IsOf : {Q : Type 0} → (K → Q → Bool) → Q → V → Type 0
  IsOf eq query value = (key : K) × ((eq key query ≡ true) × IsRelated key value)
