-- Laws of the edits of a list of rows with distinct keys: at a row that is there, and at a key that has none.
use Rattle.std.proofs.Common.{◌≡◌, ℕ, ◌+◌, ◌-◌, ◌≤◌, true, false, cond, not, eqb, List, [], ◌∷◌, ◌++◌, length, map, Some, None, refl, sym, ap, ◌∙◌, arith, inl, inr, length-append}
use Rattle.std.specs.Prelude.{is_some}
use Rattle.std.specs.Option.{option_map_or}
use Rattle.std.proofs.lemmas.Bool.{eqb-true, eq-eqb, cases_Bool, cond_both, cond-true, cond-false}
use Rattle.std.proofs.lemmas.List.{map-append, length_push, get_or_push, take_at}
use Rattle.std.proofs.lemmas.Option.{slice_get-get_or}
use Rattle.std.proofs.lemmas.List.Elements.{filter-append}
use Rattle.lru_shard.specs.Row.{Row, row, row_of, last_row, without_last, is_held, times, HasDistinctKeys, weight_of, without, with_first, with_last, with_weight, with_value}
use Rattle.lru_shard.specs.Shard.{size_of, and_row}
use Rattle.lru_shard.specs.Unit.{weight_at, accessed, tailed}
use Rattle.lru_shard.proofs.Rows.{times-append, times-cons, times_yes, times_no, weight-cons, weight-append, without_absent, row_of_absent, by_key}

module _ {T : Type 0} where
  -- the one row of a key, among the others
  pub record IsAt (rows : List (Row T)) (k : ℕ) (r : Row T) : Type 0 where
    pub before : List (Row T)
    pub after : List (Row T)
    pub whole : rows ≡ before ++ r ∷ after
    pub same_key : r.key ≡ k
    pub none_before : times k before ≡ 0
    pub none_after : times k after ≡ 0

  pub split_row : (rows : List (Row T)) (k : ℕ) (r : Row T) → row_of rows k ≡ Some r → (xs : List (Row T)) × ((ys : List (Row T)) × ((rows ≡ xs ++ r ∷ ys) × (r.key ≡ k)))
  split_row [] k r h = cc
  split_row (x ∷ rows) k r h =
      elim (cases_Bool (eqb x.key k)) [
        | inl e ↦ let s : Some x ≡ Some r = sym (ap (λ b. cond b (Some x) (row_of rows k)) e) ∙ h in
            let q : x ≡ r = cc in ([], (rows, (ap (λ z. z ∷ rows) q, ap (λ (z : Row T). z.key) (sym q) ∙ eqb-true x.key k e)))
        | inr e ↦ let m = split_row rows k r (sym (ap (λ b. cond b (Some x) (row_of rows k)) e) ∙ h) in
            (x ∷ m.0, (m.1.0, (ap (λ zs. x ∷ zs) m.1.1.0, m.1.1.1)))
      ]

  -- rows with distinct keys, split at one of them: no other has its key
  pub none_around : (rows xs ys : List (Row T)) (k : ℕ) (r : Row T) → HasDistinctKeys rows → rows ≡ xs ++ r ∷ ys → r.key ≡ k → (times k xs ≡ 0) × (times k ys ≡ 0)
  none_around rows xs ys k r distinct whole key =
      let here : times k (r ∷ ys) ≡ 1 + times k ys = times_yes k r ys (eq-eqb _ _ key) in
      let all : times k rows ≡ times k xs + times k (r ∷ ys) = ap (times k) whole ∙ times-append k xs (r ∷ ys) in
      (omega (arith, distinct k, here, all), omega (arith, distinct k, here, all))

  pub at_split : (rows xs ys : List (Row T)) (k : ℕ) (r : Row T) → HasDistinctKeys rows → rows ≡ xs ++ r ∷ ys → r.key ≡ k → IsAt rows k r
  at_split rows xs ys k r distinct whole key =
      let none = none_around rows xs ys k r distinct whole key in
      record { before = xs; after = ys; whole = whole; same_key = key; none_before = none.0; none_after = none.1 }

  pub at_row : (rows : List (Row T)) (k : ℕ) (r : Row T) → HasDistinctKeys rows → row_of rows k ≡ Some r → IsAt rows k r
  at_row rows k r distinct h = let m = split_row rows k r h in at_split rows m.0 m.1.0 k r distinct m.1.1.0 m.1.1.1

  -- a map that changes the rows of one key alone
  map_absent : (f : Row T → Row T) (k : ℕ) (rows : List (Row T)) → times k rows ≡ 0 → map (λ r. cond (eqb r.key k) (f r) r) rows ≡ rows
  map_absent f k [] h = refl
  map_absent f k (r ∷ rows) h =
      cond_both (eqb r.key k) (f r) r (λ x. x ∷ map (λ r. cond (eqb r.key k) (f r) r) rows ≡ r ∷ rows)
      (λ e. absurd (omega (arith, times_yes k r rows e)))
      (λ e. ap (λ rs. r ∷ rs) (map_absent f k rows (sym (times_no k r rows e) ∙ h)))

  -- each row has the key that it had, so each key has as many
  times-map : (f : Row T → Row T) (j : ℕ) → ((r : Row T) → (f r).key ≡ r.key) → (rows : List (Row T)) → times j (map f rows) ≡ times j rows
  times-map f j same [] = refl
  times-map f j same (r ∷ rows) =
      times-cons j (f r) (map f rows) ∙ ap (λ q. cond (eqb q j) 1 0 + times j (map f rows)) (same r)
      ∙ ap (λ n. cond (eqb r.key j) 1 0 + n) (times-map f j same rows) ∙ sym (times-cons j r rows)

  pub times-with_weight : (rows : List (Row T)) (k w j : ℕ) → times j (with_weight rows k w) ≡ times j rows
  times-with_weight rows k w j = times-map (λ r. cond (eqb r.key k) (row r.key r.value w) r) j
      (λ r. cond_both (eqb r.key k) (row r.key r.value w) r (λ x. x.key ≡ r.key) (λ _. refl) (λ _. refl)) rows

  pub times-with_value : (rows : List (Row T)) (k : ℕ) (d : T) (j : ℕ) → times j (with_value rows k d) ≡ times j rows
  times-with_value rows k d j = times-map (λ r. cond (eqb r.key k) (row r.key d r.weight) r) j
      (λ r. cond_both (eqb r.key k) (row r.key d r.weight) r (λ x. x.key ≡ r.key) (λ _. refl) (λ _. refl)) rows

  pub distinct-with_weight : (rows : List (Row T)) (k w : ℕ) → HasDistinctKeys rows → HasDistinctKeys (with_weight rows k w)
  distinct-with_weight rows k w h j = omega (arith, h j, times-with_weight rows k w j)

  pub distinct-with_value : (rows : List (Row T)) (k : ℕ) (d : T) → HasDistinctKeys rows → HasDistinctKeys (with_value rows k d)
  distinct-with_value rows k d h j = omega (arith, h j, times-with_value rows k d j)

  pub times-without-le : (j k : ℕ) (rows : List (Row T)) → times j (without rows k) ≤ times j rows
  times-without-le j k [] = omega arith
  times-without-le j k (r ∷ rows) =
      by_key k r rows (λ rs. times j rs ≤ times j (r ∷ rows))
      (λ e. omega (arith, times-without-le j k rows, times-cons j r rows))
      (λ e. omega (arith, times-without-le j k rows, times-cons j r rows, times-cons j r (without rows k)))

  pub distinct-without : (rows : List (Row T)) (k : ℕ) → HasDistinctKeys rows → HasDistinctKeys (without rows k)
  distinct-without rows k h j = omega (arith, h j, times-without-le j k rows)

  module _ (rows : List (Row T)) (k : ℕ) (r : Row T) (a : IsAt rows k r) where
    found : (xs : List (Row T)) → times k xs ≡ 0 → row_of (xs ++ r ∷ a.after) k ≡ Some r
    found [] h = cond-true (eqb r.key k) (Some r) (row_of a.after k) (eq-eqb _ _ a.same_key)
    found (x ∷ xs) h =
        cond_both (eqb x.key k) (Some x) (row_of (xs ++ r ∷ a.after) k) (λ o. o ≡ Some r)
        (λ e. absurd (omega (arith, times_yes k x xs e))) (λ e. found xs (sym (times_no k x xs e) ∙ h))

    pub row_at_key : row_of rows k ≡ Some r
    row_at_key = ap (λ rs. row_of rs k) a.whole ∙ found a.before a.none_before

    pub without-at : without rows k ≡ a.before ++ a.after
    without-at =
        ap (λ rs. without rs k) a.whole ∙ filter-append (λ x. not (eqb x.key k)) a.before (r ∷ a.after)
        ∙ ap (λ xs. xs ++ without (r ∷ a.after) k) (without_absent k a.before a.none_before)
        ∙ ap (λ ys. a.before ++ ys) (cond-false (not (eqb r.key k)) (r ∷ without a.after k) (without a.after k) (ap not (eq-eqb _ _ a.same_key)) ∙ without_absent k a.after a.none_after)

    pub with_weight-at : (w : ℕ) → with_weight rows k w ≡ a.before ++ row r.key r.value w ∷ a.after
    with_weight-at w =
        ap (λ rs. with_weight rs k w) a.whole ∙ map-append (λ x. cond (eqb x.key k) (row x.key x.value w) x) a.before (r ∷ a.after)
        ∙ ap (λ xs. xs ++ with_weight (r ∷ a.after) k w) (map_absent (λ x. row x.key x.value w) k a.before a.none_before)
        ∙ ap (λ x. a.before ++ x ∷ with_weight a.after k w) (cond-true (eqb r.key k) (row r.key r.value w) r (eq-eqb _ _ a.same_key))
        ∙ ap (λ ys. a.before ++ row r.key r.value w ∷ ys) (map_absent (λ x. row x.key x.value w) k a.after a.none_after)

    pub with_value-at : (d : T) → with_value rows k d ≡ a.before ++ row r.key d r.weight ∷ a.after
    with_value-at d =
        ap (λ rs. with_value rs k d) a.whole ∙ map-append (λ x. cond (eqb x.key k) (row x.key d x.weight) x) a.before (r ∷ a.after)
        ∙ ap (λ xs. xs ++ with_value (r ∷ a.after) k d) (map_absent (λ x. row x.key d x.weight) k a.before a.none_before)
        ∙ ap (λ x. a.before ++ x ∷ with_value a.after k d) (cond-true (eqb r.key k) (row r.key d r.weight) r (eq-eqb _ _ a.same_key))
        ∙ ap (λ ys. a.before ++ row r.key d r.weight ∷ ys) (map_absent (λ x. row x.key d x.weight) k a.after a.none_after)

    -- the sizes of the edits
    whole_weight : weight_of rows ≡ weight_of a.before + (r.weight + weight_of a.after)
    whole_weight = omega (arith, ap weight_of a.whole, weight-append a.before (r ∷ a.after), weight-cons r a.after)

    pub weight-without : weight_of (without rows k) + r.weight ≡ weight_of rows
    weight-without = omega (arith, whole_weight, ap weight_of without-at, weight-append a.before a.after)

    pub length-without : length (without rows k) + 1 ≡ length rows
    length-without = omega (arith, ap length a.whole, length-append a.before (r ∷ a.after), ap length without-at, length-append a.before a.after)

    pub weight-first : (d : T) (w : ℕ) → weight_of (with_first rows (row k d w)) + r.weight ≡ weight_of rows + w
    weight-first d w = omega (arith, weight-without, weight-cons (row k d w) (without rows k))

    pub length-first : (d : T) (w : ℕ) → length (with_first rows (row k d w)) ≡ length rows
    length-first d w = omega (arith, length-without)

    pub weight-with_weight : (w : ℕ) → weight_of (with_weight rows k w) + r.weight ≡ weight_of rows + w
    weight-with_weight w = omega (arith, whole_weight, ap weight_of (with_weight-at w), weight-append a.before (row r.key r.value w ∷ a.after), weight-cons (row r.key r.value w) a.after)

    pub weight-with_value : (d : T) → weight_of (with_value rows k d) ≡ weight_of rows
    weight-with_value d = omega (arith, whole_weight, ap weight_of (with_value-at d), weight-append a.before (row r.key d r.weight ∷ a.after), weight-cons (row r.key d r.weight) a.after)

    pub weight_at-there : weight_at rows k ≡ r.weight
    weight_at-there = ap (λ o. option_map_or (λ (x : Row T). x.weight) o 0) row_at_key

    pub held : is_held rows k ≡ true
    held = ap is_some row_at_key

    pub tailed-there : (d : T) (w : ℕ) → tailed rows k d w ≡ rows
    tailed-there d w = ap (λ b. cond b rows (with_last rows (row k d w))) held

  pub last_row_push : (rows : List (Row T)) (r : Row T) → last_row (rows ++ r ∷ []) ≡ Some r
  last_row_push rows r =
      slice_get-get_or (rows ++ r ∷ []) (length (rows ++ r ∷ []) - 1) r (omega (arith, length_push rows r))
      ∙ ap (λ x. Some x) (get_or_push rows r r (length (rows ++ r ∷ []) - 1) (omega (arith, length_push rows r)))

  pub without_last_push : (rows : List (Row T)) (r : Row T) → without_last (rows ++ r ∷ []) ≡ rows
  without_last_push rows r = take_at rows (r ∷ []) (length (rows ++ r ∷ []) - 1) (omega (arith, length_push rows r))

  -- the rows after an access to a key that has this row
  pub accessed_at : (rows : List (Row T)) (k : ℕ) (r : Row T) → row_of rows k ≡ Some r → accessed rows k ≡ with_first rows r
  accessed_at rows k r h = ap (λ o. option_map_or (λ (x : Row T). with_first rows x) o rows) h

  module _ (rows : List (Row T)) (k : ℕ) (absent : times k rows ≡ 0) where
    pub no_row : row_of rows k ≡ None
    no_row = row_of_absent k rows absent

    pub not_held : is_held rows k ≡ false
    not_held = ap is_some no_row

    pub first-new : (d : T) (w : ℕ) → with_first rows (row k d w) ≡ row k d w ∷ rows
    first-new d w = ap (λ rs. row k d w ∷ rs) (without_absent k rows absent)

    size_is : (rs : List (Row T)) (n w : ℕ) → length rs ≡ n → weight_of rs ≡ w → size_of rs ≡ record { len = n; weight = w }
    size_is rs n w p q = ap (λ m. record { len = m; weight = weight_of rs }) p ∙ ap (λ m. record { len = n; weight = m }) q

    pub size-first_new : (d : T) (w : ℕ) → size_of (with_first rows (row k d w)) ≡ and_row (size_of rows) w
    size-first_new d w = size_is (with_first rows (row k d w)) (length rows + 1) (weight_of rows + w)
        (omega (arith, ap length (first-new d w))) (omega (arith, ap weight_of (first-new d w), weight-cons (row k d w) rows))

    pub tailed-new : (d : T) (w : ℕ) → tailed rows k d w ≡ with_last rows (row k d w)
    tailed-new d w = ap (λ b. cond b rows (with_last rows (row k d w))) not_held

    pub size-last : (d : T) (w : ℕ) → size_of (with_last rows (row k d w)) ≡ and_row (size_of rows) w
    size-last d w = size_is (with_last rows (row k d w)) (length rows + 1) (weight_of rows + w)
        (omega (arith, length-append rows (row k d w ∷ []))) (omega (arith, weight-append rows (row k d w ∷ []), weight-cons (row k d w) []))

    pub with_weight-absent : (w : ℕ) → with_weight rows k w ≡ rows
    with_weight-absent w = map_absent (λ x. row x.key x.value w) k rows absent

    pub without-absent : without rows k ≡ rows
    without-absent = without_absent k rows absent

    pub accessed-absent : accessed rows k ≡ rows
    accessed-absent = ap (λ o. option_map_or (λ (x : Row T). with_first rows x) o rows) no_row

    pub weight_at-absent : weight_at rows k ≡ 0
    weight_at-absent = ap (λ o. option_map_or (λ (x : Row T). x.weight) o 0) no_row

    pub distinct-last : (d : T) (w : ℕ) → HasDistinctKeys rows → HasDistinctKeys (with_last rows (row k d w))
    distinct-last d w h j =
        elim (cases_Bool (eqb k j)) [
          | inl e ↦ omega (arith, times-append j rows (row k d w ∷ []), times_yes j (row k d w) [] e, ap (λ q. times q rows) (eqb-true k j e))
          | inr e ↦ omega (arith, h j, times-append j rows (row k d w ∷ []), times_no j (row k d w) [] e)
        ]
