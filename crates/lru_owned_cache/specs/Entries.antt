-- Entries of a cache, and rows seen as entries.
use Rattle.std.specs.Prelude.{Bool, ◌≡◌, ℕ, not, List, map, filter, reverse, sum_by, refl}
use Rattle.std.specs.List.{FoldsTo}
use Rattle.std.specs.Coded.{Coded, code_by, coded×, coded_ℕ}
use Rattle.std.specs.Borrow.{Bor}
use Rattle.lru_rows.specs.Rows.{Placed}
use Rattle.lru_owned_cache.specs.declared.entry.Entry.{Entry}

abbrev pub entry_code : {K V : Type 0} → Coded K → Coded V → Coded (Entry K V)
entry_code {K} {V} key value =
    code_by (K × (V × ℕ)) (coded× key (coded× value coded_ℕ)) (λ e. (e.key, (e.value, e.weight)))
    (λ p. record { key = p.0; value = p.1.0; weight = p.1.1 }) (λ _. refl)

module _ {K V : Type 0} where
  abbrev pub entry : K → V → ℕ → Entry K V
  entry k v w = record { key = k; value = v; weight = w }

  abbrev pub weight_of : List (Entry K V) → ℕ
  weight_of es = sum_by (λ e. e.weight) es

  abbrev pub entry_in : Placed K V → Entry K V
  entry_in r = entry r.key r.value r.weight

  abbrev pub entries_in : List (Placed K V) → List (Entry K V)
  entries_in rows = map entry_in rows

  abbrev pub weight_in : List (Placed K V) → ℕ
  weight_in rows = sum_by (λ r. r.weight) rows

  -- a closure was called with these entries, the last first
  abbrev pub IsShown : {F : Type 0} → (F → Entry K V → F → Type 0) → F → List (Entry K V) → Type 0
  IsShown {F} Step visit gone = (left : F) × FoldsTo Step visit (reverse gone) left

  -- a test that is given a key, a value and a weight answered this for an entry
  pub record Asks {F : Type 0} (step : F → Bor K → Bor V → ℕ → Bool → F → Type 0) (keep : F) (e : Entry K V) (answer : Bool) (next : F) : Type 0 where
    pub key : Bor K
    pub value : Bor V
    pub shows_key : key.now ≡ e.key
    pub shows_value : value.now ≡ e.value
    pub called : step keep key value e.weight answer next

  -- the entries of which a test answered true
  abbrev pub kept_of : List (Entry K V × Bool) → List (Entry K V)
  kept_of asked = map (λ a. a.0) (filter (λ a. a.1) asked)

  -- the entries of which a test answered false
  abbrev pub gone_of : List (Entry K V × Bool) → List (Entry K V)
  gone_of asked = map (λ a. a.0) (filter (λ a. not a.1) asked)
