-- Rows in two segments, one behind the other: those of the upper one stand before those of the lower one.
use Rattle.std.specs.Prelude.{◌≡◌, ℕ, ◌<◌, List, [], ◌∷◌, ◌++◌, length, None, Some, Result, Ok, Err, refl}
use Rattle.std.specs.Option.{option_map_or}
use Rattle.std.specs.Coded.{Coded, code_by, coded×, coded_ℕ, coded_list}
use Rattle.std.specs.Borrow.{MutBor}
use Rattle.lru_rows.specs.declared.rows.Unpushed.{Unpushed}
use Rattle.lru_rows.specs.Rows.{Placed, placed, placed_code, recency, row_at, without, with_value, most_rows, LacksPlace, Updates}
use Rattle.lru_owned_cache.specs.Partings.{RowsFit}

-- the rows of both segments, most recent first; how many places are free; and what makes the hashes of their keys
pub record Seated (K V S : Type 0) : Type 0 where
  pub upper : List (Placed K V)
  pub lower : List (Placed K V)
  pub free : ℕ
  pub hashes : S

abbrev pub seated_code : {K V S : Type 0} → Coded K → Coded V → Coded S → Coded (Seated K V S)
seated_code {K} {V} {S} key value hashes =
    code_by (List (Placed K V) × (List (Placed K V) × (ℕ × S))) (coded× (coded_list (placed_code key value)) (coded× (coded_list (placed_code key value)) (coded× coded_ℕ hashes)))
    (λ s. (s.upper, (s.lower, (s.free, s.hashes)))) (λ p. record { upper = p.0; lower = p.1.0; free = p.1.1.0; hashes = p.1.1.1 }) (λ _. refl)

module _ {K V : Type 0} where
  abbrev pub seated : {S : Type 0} → List (Placed K V) → List (Placed K V) → ℕ → S → Seated K V S
  seated us ls free hashes = record { upper = us; lower = ls; free = free; hashes = hashes }

  -- the rows of both segments
  abbrev pub rows : {S : Type 0} → Seated K V S → List (Placed K V)
  rows s = s.upper ++ s.lower

  -- the row at a place goes first in the upper segment
  abbrev pub lifted : {S : Type 0} → Seated K V S → ℕ → Seated K V S
  lifted s p = option_map_or (λ r. seated (r ∷ without s.upper p) (without s.lower p) s.free s.hashes) (row_at (rows s) p) s

  -- the row at a place goes last in the lower segment
  abbrev pub sunk : {S : Type 0} → Seated K V S → ℕ → Seated K V S
  sunk s p = option_map_or (λ r. seated (without s.upper p) (without s.lower p ++ r ∷ []) s.free s.hashes) (row_at (rows s) p) s

  -- the last rows of the upper segment stand first in the lower one, no more than had to for the upper one to be within these limits
  pub record Lowers {S : Type 0} (w n : ℕ) (old new : Seated K V S) : Type 0 where
    pub front : List (Placed K V)
    pub back : List (Placed K V)
    pub parts : old.upper ≡ front ++ back
    pub fits : RowsFit w n front
    pub needed : (r : Placed K V) (rest : List (Placed K V)) → back ≡ r ∷ rest → RowsFit w n (front ++ r ∷ []) → ⊥
    pub left : new ≡ seated front (back ++ old.lower) old.free old.hashes

  -- so far the last rows of the upper segment were lowered, each since the segment did not fit with it
  pub record Lowering {S : Type 0} (w n : ℕ) (old now : Seated K V S) : Type 0 where
    pub back : List (Placed K V)
    pub parts : old.upper ≡ now.upper ++ back
    pub needed : (r : Placed K V) (rest : List (Placed K V)) → back ≡ r ∷ rest → RowsFit w n (now.upper ++ r ∷ []) → ⊥
    pub now_is : now ≡ seated now.upper (back ++ old.lower) old.free old.hashes

  -- the last row of the upper segment stands first in the lower one
  pub record LowersLast {S : Type 0} (old new : Seated K V S) : Type 0 where
    pub front : List (Placed K V)
    pub row : Placed K V
    pub parts : old.upper ≡ front ++ row ∷ []
    pub left : new ≡ seated front (row ∷ old.lower) old.free old.hashes

  -- what a call may answer that puts a row in. `added` says where it goes. A refusal hands the key and the value back
  abbrev pub Pushes : {S : Type 0} → (Placed K V → Seated K V S) → Seated K V S → K → V → ℕ → Result ℕ (Unpushed K V) → Seated K V S → Type 0
  Pushes added old k v w (Ok p) new = (length (rows old) < most_rows) × ((row_at (rows old) p ≡ None) × (new ≡ added (placed p k v w)))
  Pushes added old k v w (Err back) new = LacksPlace (recency (rows old) old.free) back.cause × ((back.key ≡ k) × ((back.value ≡ v) × (new ≡ old)))

  -- the value of the row at a place is lent to a closure, which leaves what it may leave
  abbrev pub UpdatesAt : {R S : Type 0} → (MutBor V → ℕ → R → MutBor V → Type 0) → Seated K V S → ℕ → R → Seated K V S → Type 0
  UpdatesAt post old p answer new =
      (r : Placed K V) × ((row_at (rows old) p ≡ Some r) × ((d : V) × (Updates post r.value r.weight answer d
      × (new ≡ seated (with_value old.upper p d) (with_value old.lower p d) old.free old.hashes))))
