-- A row of a shard, and the edits of a list of rows, most recent first.
use Rattle.std.specs.Prelude.{ℕ, ◌≤◌, ◌==◌, not, List, [], ◌∷◌, ◌++◌, length, map, filter, find, take, sum_by, count_by, slice_get, ◌-◌, Bool, is_some, Option, if◌then◌else◌, refl}
use Rattle.std.specs.Coded.{Coded, code_by, coded×, coded_ℕ}

-- a key with its data and its weight
pub record Row (T : Type 0) : Type 0 where
  pub key : ℕ
  pub value : T
  pub weight : ℕ

-- a row is stored as the tuple of its fields
abbrev pub row_code : {T : Type 0} → Coded T → Coded (Row T)
row_code {T} code =
    code_by (ℕ × (T × ℕ)) (coded× coded_ℕ (coded× code coded_ℕ)) (λ r. (r.key, (r.value, r.weight)))
    (λ p. record { key = p.0; value = p.1.0; weight = p.1.1 }) (λ _. refl)

module _ {T : Type 0} where
  abbrev pub row : ℕ → T → ℕ → Row T
  row k d w = record { key = k; value = d; weight = w }

  -- what a caller sees of a row whose key it does not ask for
  abbrev pub pair_of : Row T → T × ℕ
  pair_of r = (r.value, r.weight)

  -- how many rows a key has
  abbrev pub times : ℕ → List (Row T) → ℕ
  times k rows = count_by (λ r. r.key == k) rows

  -- no key stands twice
  abbrev pub HasDistinctKeys : List (Row T) → Type 0
  HasDistinctKeys rows = (k : ℕ) → times k rows ≤ 1

  -- the sum of the weights
  abbrev pub weight_of : List (Row T) → ℕ
  weight_of rows = sum_by (λ r. r.weight) rows

  -- the row of a key, if there is one
  abbrev pub row_of : List (Row T) → ℕ → Option (Row T)
  row_of rows k = find (λ r. r.key == k) rows

  abbrev pub is_held : List (Row T) → ℕ → Bool
  is_held rows k = is_some (row_of rows k)

  -- the rows without that key's
  abbrev pub without : List (Row T) → ℕ → List (Row T)
  without rows k = filter (λ r. not (r.key == k)) rows

  -- a row goes first, in place of its key's
  abbrev pub with_first : List (Row T) → Row T → List (Row T)
  with_first rows r = r ∷ without rows r.key

  -- a row goes last
  abbrev pub with_last : List (Row T) → Row T → List (Row T)
  with_last rows r = rows ++ r ∷ []

  -- the rows with another weight for that key, in the same order
  abbrev pub with_weight : List (Row T) → ℕ → ℕ → List (Row T)
  with_weight rows k w = map (λ r. if r.key == k then row r.key r.value w else r) rows

  -- the rows with other data for that key, in the same order
  abbrev pub with_value : List (Row T) → ℕ → T → List (Row T)
  with_value rows k d = map (λ r. if r.key == k then row r.key d r.weight else r) rows

  -- the row that was used longest ago, if there is one
  abbrev pub last_row : List (Row T) → Option (Row T)
  last_row rows = slice_get rows (length rows - 1)

  -- the rows without that one
  abbrev pub without_last : List (Row T) → List (Row T)
  without_last rows = take (length rows - 1) rows
