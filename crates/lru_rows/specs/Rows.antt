-- Rows in the order of their last use, most recent first, each at a place that it keeps until it is taken out.
use Rattle.std.specs.Prelude.{◌≡◌, ℕ, ◌+◌, ◌-◌, ◌<◌, ◌≤◌, ◌==◌, max, not, Bool, List, [], ◌∷◌, ◌++◌, length, map, filter, find, count_by, slice_get, Option, Some, None, Result, Ok, Err, IsSome, if◌then◌else◌, refl}
use Rattle.std.specs.Option.{option_map_or}
use Rattle.std.specs.Coded.{Coded, code_by, coded×, coded_ℕ, coded_list}
use Rattle.std.specs.Borrow.{Bor, MutBor}
use Rattle.lru_list.specs.Linked.{most_items}
use Rattle.lru_rows.specs.declared.rows.NoPlace.{NoPlace}
use Rattle.lru_rows.specs.declared.rows.NoPlace.TheVariants.{Memory, Full}
use Rattle.lru_rows.specs.declared.rows.Unpushed.{Unpushed}
use Rattle.lru_rows.specs.declared.rows.Taken.{Taken}

-- a key with its data and its weight, at a place
pub record Placed (K T : Type 0) : Type 0 where
  pub place : ℕ
  pub key : K
  pub value : T
  pub weight : ℕ

abbrev pub placed_code : {K T : Type 0} → Coded K → Coded T → Coded (Placed K T)
placed_code {K} {T} key value =
    code_by (ℕ × (K × (T × ℕ))) (coded× coded_ℕ (coded× key (coded× value coded_ℕ))) (λ r. (r.place, (r.key, (r.value, r.weight))))
    (λ p. record { place = p.0; key = p.1.0; value = p.1.1.0; weight = p.1.1.1 }) (λ _. refl)

-- the rows, most recent first, and how many places are free: a row that is put in takes one of these, and memory only where there is none
pub record Recency (K T : Type 0) : Type 0 where
  pub rows : List (Placed K T)
  pub free : ℕ

abbrev pub recency_code : {K T : Type 0} → Coded K → Coded T → Coded (Recency K T)
recency_code {K} {T} key value =
    code_by (List (Placed K T) × ℕ) (coded× (coded_list (placed_code key value)) coded_ℕ) (λ r. (r.rows, r.free))
    (λ p. record { rows = p.0; free = p.1 }) (λ _. refl)

-- how many rows there can be: as many as a linked list has places for
abbrev pub most_rows : ℕ
most_rows = most_items

module _ {K T : Type 0} where
  abbrev pub placed : ℕ → K → T → ℕ → Placed K T
  placed p k d w = record { place = p; key = k; value = d; weight = w }

  abbrev pub recency : List (Placed K T) → ℕ → Recency K T
  recency rows free = record { rows = rows; free = free }

  -- the row at a place, if there is one
  abbrev pub row_at : List (Placed K T) → ℕ → Option (Placed K T)
  row_at rows p = find (λ r. r.place == p) rows

  abbrev pub IsAt : List (Placed K T) → ℕ → Type 0
  IsAt rows p = IsSome (row_at rows p)

  -- the rows without that at a place
  abbrev pub without : List (Placed K T) → ℕ → List (Placed K T)
  without rows p = filter (λ r. not (r.place == p)) rows

  -- the row at a place goes first
  abbrev pub promoted : List (Placed K T) → ℕ → List (Placed K T)
  promoted rows p = option_map_or (λ r. r ∷ without rows p) (row_at rows p) rows

  -- the row at a place goes last
  abbrev pub demoted : List (Placed K T) → ℕ → List (Placed K T)
  demoted rows p = option_map_or (λ r. without rows p ++ r ∷ []) (row_at rows p) rows

  -- the row at a place has another weight, or other data
  abbrev pub with_weight : List (Placed K T) → ℕ → ℕ → List (Placed K T)
  with_weight rows p w = map (λ r. if r.place == p then placed r.place r.key r.value w else r) rows

  abbrev pub with_value : List (Placed K T) → ℕ → T → List (Placed K T)
  with_value rows p d = map (λ r. if r.place == p then placed r.place r.key d r.weight else r) rows

  -- the row that was used longest ago, if there is one
  abbrev pub last_row : List (Placed K T) → Option (Placed K T)
  last_row rows = slice_get rows (length rows - 1)

  -- the row that was used last, if there is one
  abbrev pub first_row : List (Placed K T) → Option (Placed K T)
  first_row rows = slice_get rows 0

  -- what an iterator shows of a row
  abbrev pub pair_of : Placed K T → T × ℕ
  pair_of r = (r.value, r.weight)

  -- what one shows that shows the keys too
  abbrev pub entry_of : Placed K T → K × T × ℕ
  entry_of r = (r.key, r.value, r.weight)

  -- what is known of a row that was taken out
  abbrev pub taken : Placed K T → Taken K T
  taken r = record { key = r.key; value = r.value; weight = r.weight }

  -- by what stands for a key: a key that equals it, or what a query matches
  module _ {Q : Type 0} (eq : K → Q → Bool) where
    -- the row of a key, if there is one
    abbrev pub row_of : List (Placed K T) → Q → Option (Placed K T)
    row_of rows key = find (λ r. eq r.key key) rows

    -- what is found of a key: the place of its row, if it has one
    abbrev pub Finds : List (Placed K T) → Q → Option ℕ → Type 0
    Finds rows key None = row_of rows key ≡ None
    Finds rows key (Some p) = (r : Placed K T) × (row_of rows key ≡ Some r) × (row_at rows p ≡ Some r)

    -- what a call answers that takes a key's row out: the row, if there is one, whose place is free from then on
    abbrev pub Removes : Recency K T → Q → Option (Taken K T) → Recency K T → Type 0
    Removes old key None new = (row_of old.rows key ≡ None) × (new ≡ old)
    Removes old key (Some t) new = (r : Placed K T) × (row_of old.rows key ≡ Some r) × (t ≡ taken r) × (new ≡ recency (without old.rows r.place) (old.free + 1))

  module _ (eq : K → K → Bool) where
    -- what holds of all rows: no place has two rows, nor has a key
    pub record IsRecency (rows : List (Placed K T)) : Type 0 where
      pub places : (p : ℕ) → count_by (λ r. r.place == p) rows ≤ 1
      pub keys : (k : K) → count_by (λ r. eq r.key k) rows ≤ 1
      pub short : length rows ≤ most_rows

  -- the same for the last row
  abbrev pub PopsLast : Recency K T → Option (Taken K T) → Recency K T → Type 0
  PopsLast old None new = (old.rows ≡ []) × (new ≡ old)
  PopsLast old (Some t) new = (r : Placed K T) × (front : List (Placed K T)) × (old.rows ≡ front ++ r ∷ []) × (t ≡ taken r) × (new ≡ recency front (old.free + 1))

  -- the same for the first row
  abbrev pub PopsFirst : Recency K T → Option (Taken K T) → Recency K T → Type 0
  PopsFirst old None new = (old.rows ≡ []) × (new ≡ old)
  PopsFirst old (Some t) new = (r : Placed K T) × (rest : List (Placed K T)) × (old.rows ≡ r ∷ rest) × (t ≡ taken r) × (new ≡ recency rest (old.free + 1))

  -- why no place can be made for a row more: there are as many rows as can be, or, where no place is free, memory is refused
  abbrev pub LacksPlace : Recency K T → NoPlace → Type 0
  LacksPlace old Memory = (length old.rows < most_rows) × (old.free ≡ 0)
  LacksPlace old Full = length old.rows ≡ most_rows

  -- what a call may answer that puts a row in. `added` says where it goes. A refusal hands the key and the data back
  abbrev pub Pushes : (Placed K T → List (Placed K T)) → Recency K T → K → T → ℕ → Result ℕ (Unpushed K T) → Recency K T → Type 0
  Pushes added old k d w (Ok p) new =
      (length old.rows < most_rows) × (row_at old.rows p ≡ None) × (new ≡ recency (added (placed p k d w)) (old.free - 1))
  Pushes added old k d w (Err back) new = LacksPlace old back.cause × (back.key ≡ k) × (back.value ≡ d) × (new ≡ old)

  -- a place is made sure of: the rows stay, and a place is free
  abbrev pub MakesVacancy : Recency K T → Result (Unit {0}) NoPlace → Recency K T → Type 0
  MakesVacancy old (Ok _) new = (length old.rows < most_rows) × (new ≡ recency old.rows (max old.free 1))
  MakesVacancy old (Err cause) new = LacksPlace old cause × (new ≡ old)

-- what an item of an iterator over rows shows
abbrev pub shown : {T : Type 0} → Bor T × ℕ → T × ℕ
shown item = (item.0.now, item.1)

-- the same where it shows the key too
abbrev pub shown_entry : {K T : Type 0} → Bor K × Bor T × ℕ → K × T × ℕ
shown_entry item = (item.0.now, item.1.now, item.2)

-- a closure that was lent the data, and given the weight, may give this answer and leave this data. `post` is the closure's own relation
pub record Updates {T R : Type 0} (post : MutBor T → ℕ → R → MutBor T → Type 0) (old : T) (weight : ℕ) (answer : R) (new : T) : Type 0 where
  pub lent : MutBor T
  pub left : MutBor T
  pub shows : lent.now ≡ old
  pub called : post lent weight answer left
  pub leaves : left.now ≡ new

module _ {K T : Type 0} where
  -- the data of the row at a place are lent to a closure, which leaves what it may leave
  abbrev pub UpdatesAt : {R : Type 0} → (MutBor T → ℕ → R → MutBor T → Type 0) → Recency K T → ℕ → R → Recency K T → Type 0
  UpdatesAt post old p answer new =
      (r : Placed K T) × (row_at old.rows p ≡ Some r) × (d : T) × Updates post r.value r.weight answer d × (new ≡ recency (with_value old.rows p d) old.free)
