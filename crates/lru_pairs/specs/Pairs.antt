-- Pairs as rows with what makes their hashes; what stands at a place, in place of what stood there, and a key that equals that of a place.
use Rattle.std.specs.Prelude.{◌≡◌, ℕ, ◌==◌, Bool, IsTrue, List, map, Some, refl, if◌then◌else◌}
use Rattle.std.specs.Coded.{Coded, code_by, coded×}
use Rattle.lru_rows.specs.Rows.{Placed, placed, Recency, recency_code, row_at}

-- the pairs as rows, and what makes the hashes of their keys
pub record Paired (K V S : Type 0) : Type 0 where
  pub held : Recency K V
  pub hashes : S

abbrev pub paired_code : {K V S : Type 0} → Coded K → Coded V → Coded S → Coded (Paired K V S)
paired_code {K} {V} {S} key value hashes =
    code_by (Recency K V × S) (coded× (recency_code key value) hashes) (λ p. (p.held, p.hashes)) (λ p. record { held = p.0; hashes = p.1 }) (λ _. refl)

abbrev pub paired : {K V S : Type 0} → Recency K V → S → Paired K V S
paired held hashes = record { held = held; hashes = hashes }

-- the row at a place has another key, other data and another weight
abbrev pub with_entry : {K V : Type 0} → List (Placed K V) → ℕ → K → V → ℕ → List (Placed K V)
with_entry rows p k v w = map (λ r. if r.place == p then placed p k v w else r) rows

-- a place has a row, whose key equals this one
abbrev pub SameKey : {K V : Type 0} → (K → K → Bool) → List (Placed K V) → ℕ → K → Type 0
SameKey {K} {V} eq rows p k = (r : Placed K V) × (row_at rows p ≡ Some r) × IsTrue (eq r.key k)
