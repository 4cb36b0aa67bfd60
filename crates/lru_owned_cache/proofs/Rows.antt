-- Rows seen as entries.
use Rattle.std.proofs.Common.{◌≡◌, ◌≢◌, ℕ, ◌+◌, ◌-◌, ◌≤◌, cond, not, eqb, List, [], ◌∷◌, ◌++◌, length, Some, None, refl, sym, ap, ◌∙◌, inl, inr, arith, true, false, suc}
use Rattle.std.specs.Prelude.{Bool, Option, slice_get, is_some, IsSome, count_by, ◌==◌}
use Rattle.std.specs.Option.{option_map, option_map_or}
use Rattle.std.proofs.lemmas.Bool.{cond_both, cases_eq, eq-eqb, ne_eqb, eqb-true, eqb-false, not-true, not-false, false≢true}
use Rattle.std.proofs.lemmas.Option.{slice_get-get_or}
use Rattle.std.proofs.lemmas.List.Sums.{sum_by-cons, sum_by-append}
use Rattle.std.specs.Borrow.{MutBor}
use Rattle.lru_rows.specs.Rows.{Recency, recency, IsAt, UpdatesAt, Placed, placed, last_row, first_row, with_weight, with_value, row_at, promoted, without as rows_without}
use Rattle.lru_owned_cache.specs.declared.entry.Entry.{Entry}
use Rattle.lru_owned_cache.specs.Entries.{weight_of, entry_in, entries_in, weight_in}

pub some_of : {A : Type 0} (a b : A) → Some a ≡ Some b → a ≡ b
some_of a b e = cc

-- by what a test answers
pub by_bool : {P : Type 0} (b : Bool) → (b ≡ true → P) → (b ≡ false → P) → P
by_bool true here other = here refl
by_bool false here other = other refl

module _ {K V : Type 0} where
  -- ---- sums
  pub weight-entries : (rows : List (Placed K V)) → weight_of (entries_in rows) ≡ weight_in rows
  weight-entries [] = refl
  weight-entries (r ∷ rs) =
      sum_by-cons (λ (e : Entry K V). e.weight) (entry_in r) (entries_in rs) ∙ ap (λ n. r.weight + n) (weight-entries rs) ∙ sym (sum_by-cons (λ (x : Placed K V). x.weight) r rs)

  pub length-entries : (rows : List (Placed K V)) → length (entries_in rows) ≡ length rows
  length-entries [] = refl
  length-entries (r ∷ rs) = ap suc (length-entries rs)

  pub weight-cons : (r : Placed K V) (rs : List (Placed K V)) → weight_in (r ∷ rs) ≡ r.weight + weight_in rs
  weight-cons r rs = sum_by-cons (λ (x : Placed K V). x.weight) r rs

  pub weight-append : (xs ys : List (Placed K V)) → weight_in (xs ++ ys) ≡ weight_in xs + weight_in ys
  weight-append xs ys = sum_by-append (λ (x : Placed K V). x.weight) xs ys

  -- ---- the rows without a place's, by the two cases of the first
  pub by_place : (p : ℕ) (r : Placed K V) (rs : List (Placed K V)) (P : List (Placed K V) → Type 0) → (r.place ≡ p → P (rows_without rs p)) → (r.place ≢ p → P (r ∷ rows_without rs p)) → P (rows_without (r ∷ rs) p)
  by_place p r rs P here other =
      cond_both (not (eqb r.place p)) (r ∷ rows_without rs p) (rows_without rs p) P (λ e. other (eqb-false _ _ (not-true _ e))) (λ e. here (eqb-true _ _ (not-false _ e)))

  abbrev pub places : ℕ → List (Placed K V) → ℕ
  places p rows = count_by (λ r. r.place == p) rows

  pub places_here : (r : Placed K V) (rs : List (Placed K V)) (p : ℕ) → r.place ≡ p → places p (r ∷ rs) ≡ 1 + places p rs
  places_here r rs p e = sum_by-cons (λ (x : Placed K V). cond (eqb x.place p) 1 0) r rs ∙ ap (λ b. cond b 1 0 + places p rs) (eq-eqb r.place p e)

  pub places_other : (r : Placed K V) (rs : List (Placed K V)) (p : ℕ) → r.place ≢ p → places p (r ∷ rs) ≡ places p rs
  places_other r rs p ne =
      let h : places p (r ∷ rs) ≡ 0 + places p rs = sum_by-cons (λ (x : Placed K V). cond (eqb x.place p) 1 0) r rs ∙ ap (λ b. cond b 1 0 + places p rs) (ne_eqb r.place p ne) in
      omega (arith, h)

  -- a place that no row has
  pub without_absent : (p : ℕ) (rows : List (Placed K V)) → places p rows ≡ 0 → rows_without rows p ≡ rows
  without_absent p [] none = refl
  without_absent p (r ∷ rs) none =
      by_place p r rs (λ xs. xs ≡ r ∷ rs) (λ e. absurd (omega (arith, none, places_here r rs p e))) (λ ne. ap (λ xs. r ∷ xs) (without_absent p rs (sym (places_other r rs p ne) ∙ none)))

  -- the row at a place has it
  pub row_place : (rows : List (Placed K V)) (p : ℕ) (r : Placed K V) → row_at rows p ≡ Some r → r.place ≡ p
  row_place [] p r found = absurd (false≢true (ap is_some found))
  row_place (x ∷ xs) p r found =
      elim (cases_eq x.place p) [
        | inl e ↦ ap (λ (y : Placed K V). y.place) (sym (some_of x r (sym (ap (λ b. cond b (Some x) (row_at xs p)) (eq-eqb x.place p e)) ∙ found))) ∙ e
        | inr ne ↦ row_place xs p r (sym (ap (λ b. cond b (Some x) (row_at xs p)) (ne_eqb x.place p ne)) ∙ found)
      ]

  -- what a row at a place weighs, and the others
  pub weight-without : (p : ℕ) (rows : List (Placed K V)) (r : Placed K V) → row_at rows p ≡ Some r → places p rows ≤ 1 → weight_in rows ≡ r.weight + weight_in (rows_without rows p)
  weight-without p [] r found once = absurd (false≢true (ap is_some found))
  weight-without p (x ∷ xs) r found once =
      by_place p x xs (λ ys. weight_in (x ∷ xs) ≡ r.weight + weight_in ys)
      (λ e.
      let is : x ≡ r = some_of x r (sym (ap (λ b. cond b (Some x) (row_at xs p)) (eq-eqb x.place p e)) ∙ found) in
      let none : places p xs ≡ 0 = omega (arith, once, places_here x xs p e) in
      weight-cons x xs ∙ ap (λ (y : Placed K V). y.weight + weight_in xs) is ∙ ap (λ ys. r.weight + weight_in ys) (sym (without_absent p xs none)))
      (λ ne.
      let rest = weight-without p xs r (sym (ap (λ b. cond b (Some x) (row_at xs p)) (ne_eqb x.place p ne)) ∙ found) (omega (arith, once, places_other x xs p ne)) in
      omega (arith, rest, weight-cons x xs, weight-cons x (rows_without xs p)))

  pub length-without : (p : ℕ) (rows : List (Placed K V)) → IsSome (row_at rows p) → places p rows ≤ 1 → length rows ≡ 1 + length (rows_without rows p)
  length-without p [] found once = absurd (false≢true found)
  length-without p (x ∷ xs) found once =
      by_place p x xs (λ ys. length (x ∷ xs) ≡ 1 + length ys)
      (λ e.
      let none : places p xs ≡ 0 = omega (arith, once, places_here x xs p e) in
      omega (arith, ap length (without_absent p xs none)))
      (λ ne.
      let rest = length-without p xs (sym (ap (λ b. is_some (cond b (Some x) (row_at xs p))) (ne_eqb x.place p ne)) ∙ found) (omega (arith, once, places_other x xs p ne)) in
      omega (arith, rest))

  pub tail_once_of : (x : Placed K V) (xs : List (Placed K V)) → ((p : ℕ) → places p (x ∷ xs) ≤ 1) → (p : ℕ) → places p xs ≤ 1
  tail_once_of x xs once p =
      elim (cases_eq x.place p) [
        | inl h ↦ omega (arith, once p, places_here x xs p h)
        | inr ne ↦ omega (arith, once p, places_other x xs p ne)
      ]

  -- no row at a place is changed where there is none
  pub with_value-without : (p : ℕ) (d : V) (rows : List (Placed K V)) → with_value (rows_without rows p) p d ≡ rows_without rows p
  with_value-without p d [] = refl
  with_value-without p d (r ∷ rs) =
      by_place p r rs (λ xs. with_value xs p d ≡ xs) (λ e. with_value-without p d rs)
      (λ ne. ap (λ b. cond b (placed r.place r.key d r.weight) r ∷ with_value (rows_without rs p) p d) (ne_eqb r.place p ne) ∙ ap (λ xs. r ∷ xs) (with_value-without p d rs))

  pub row_first : (r : Placed K V) (rs : List (Placed K V)) (p : ℕ) → r.place ≡ p → row_at (r ∷ rs) p ≡ Some r
  row_first r rs p e = ap (λ b. cond b (Some r) (row_at rs p)) (eq-eqb r.place p e)

  pub with_value-first : (p : ℕ) (d : V) (r : Placed K V) (rs : List (Placed K V)) → r.place ≡ p → with_value (r ∷ rs) p d ≡ placed r.place r.key d r.weight ∷ with_value rs p d
  with_value-first p d r rs e = ap (λ b. cond b (placed r.place r.key d r.weight) r ∷ with_value rs p d) (eq-eqb r.place p e)

  -- where the row at a place has other data, it still stands there, the others are the same, and it goes first as it would have
  pub row_valued : (p : ℕ) (d : V) (rows : List (Placed K V)) (r : Placed K V) → row_at rows p ≡ Some r → row_at (with_value rows p d) p ≡ Some (placed r.place r.key d r.weight)
  row_valued p d [] r at = absurd (false≢true (ap is_some at))
  row_valued p d (x ∷ xs) r at =
      elim (cases_eq x.place p) [
        | inl e ↦
            ap (λ ys. row_at ys p) (with_value-first p d x xs e) ∙ row_first (placed x.place x.key d x.weight) (with_value xs p d) p e
            ∙ ap (λ (y : Placed K V). Some (placed y.place y.key d y.weight)) (some_of x r (sym (row_first x xs p e) ∙ at))
        | inr ne ↦
            ap (λ b. row_at (cond b (placed x.place x.key d x.weight) x ∷ with_value xs p d) p) (ne_eqb x.place p ne)
            ∙ ap (λ b. cond b (Some x) (row_at (with_value xs p d) p)) (ne_eqb x.place p ne)
            ∙ row_valued p d xs r (sym (ap (λ b. cond b (Some x) (row_at xs p)) (ne_eqb x.place p ne)) ∙ at)
      ]

  without-valued : (p : ℕ) (d : V) (rows : List (Placed K V)) → rows_without (with_value rows p d) p ≡ rows_without rows p
  without-valued p d [] = refl
  without-valued p d (x ∷ xs) =
      elim (cases_eq x.place p) [
        | inl e ↦
            ap (λ ys. rows_without ys p) (with_value-first p d x xs e)
            ∙ ap (λ b. cond (not b) (placed x.place x.key d x.weight ∷ rows_without (with_value xs p d) p) (rows_without (with_value xs p d) p)) (eq-eqb x.place p e)
            ∙ without-valued p d xs ∙ sym (ap (λ b. cond (not b) (x ∷ rows_without xs p) (rows_without xs p)) (eq-eqb x.place p e))
        | inr ne ↦
            ap (λ b. rows_without (cond b (placed x.place x.key d x.weight) x ∷ with_value xs p d) p) (ne_eqb x.place p ne)
            ∙ ap (λ b. cond (not b) (x ∷ rows_without (with_value xs p d) p) (rows_without (with_value xs p d) p)) (ne_eqb x.place p ne)
            ∙ ap (λ ys. x ∷ ys) (without-valued p d xs) ∙ sym (ap (λ b. cond (not b) (x ∷ rows_without xs p) (rows_without xs p)) (ne_eqb x.place p ne))
      ]

  pub promoted-valued : (p : ℕ) (d : V) (rows : List (Placed K V)) (r : Placed K V) → row_at rows p ≡ Some r → promoted (with_value rows p d) p ≡ placed r.place r.key d r.weight ∷ rows_without rows p
  promoted-valued p d rows r at =
      ap (λ o. option_map_or (λ y. y ∷ rows_without (with_value rows p d) p) o (with_value rows p d)) (row_valued p d rows r at)
      ∙ ap (λ ys. placed r.place r.key d r.weight ∷ ys) (without-valued p d rows)

  -- the same of a weight
  pub with_weight-absent : (p w : ℕ) (rows : List (Placed K V)) → places p rows ≡ 0 → with_weight rows p w ≡ rows
  with_weight-absent p w [] none = refl
  with_weight-absent p w (r ∷ rs) none =
      elim (cases_eq r.place p) [
        | inl e ↦ absurd (omega (arith, none, places_here r rs p e))
        | inr ne ↦
            ap (λ b. cond b (placed r.place r.key r.value w) r ∷ with_weight rs p w) (ne_eqb r.place p ne)
            ∙ ap (λ xs. r ∷ xs) (with_weight-absent p w rs (sym (places_other r rs p ne) ∙ none))
      ]

  pub with_weight-first : (p w : ℕ) (r : Placed K V) (rs : List (Placed K V)) → r.place ≡ p → places p rs ≡ 0 → with_weight (r ∷ rs) p w ≡ placed r.place r.key r.value w ∷ rs
  with_weight-first p w r rs e none =
      ap (λ b. cond b (placed r.place r.key r.value w) r ∷ with_weight rs p w) (eq-eqb r.place p e)
      ∙ ap (λ xs. placed r.place r.key r.value w ∷ xs) (with_weight-absent p w rs none)

  pub places-append : (p : ℕ) (xs ys : List (Placed K V)) → places p (xs ++ ys) ≡ places p xs + places p ys
  places-append p xs ys = sum_by-append (λ (x : Placed K V). cond (eqb x.place p) 1 0) xs ys

  -- ---- the row that stands first
  pub first_told : (rows : List (Placed K V)) (p : ℕ) → Some p ≡ option_map (λ (x : Placed K V). x.place) (first_row rows) → (x : Placed K V) × ((xs : List (Placed K V)) × ((rows ≡ x ∷ xs) × (x.place ≡ p)))
  first_told [] p told = absurd (false≢true (sym (ap is_some told)))
  first_told (x ∷ xs) p told = (x, (xs, (refl, some_of x.place p (sym told))))

  -- the rows without it are those after it
  pub without_first : (r : Placed K V) (rs : List (Placed K V)) (p : ℕ) → r.place ≡ p → places p (r ∷ rs) ≤ 1 → rows_without (r ∷ rs) p ≡ rs
  without_first r rs p e once =
      let none : places p rs ≡ 0 = omega (arith, once, places_here r rs p e) in
      by_place p r rs (λ xs. xs ≡ rs) (λ _. without_absent p rs none) (λ ne. absurd (ne e))

  -- ---- the row that stands last
  last_there : (front : List (Placed K V)) (x : Placed K V) → 1 ≤ places x.place (front ++ x ∷ [])
  last_there [] x = omega (arith, places_here x [] x.place refl)
  last_there (r ∷ rs) x =
      elim (cases_eq r.place x.place) [
        | inl here ↦ omega (arith, places_here r (rs ++ x ∷ []) x.place here)
        | inr ne ↦ omega (arith, last_there rs x, places_other r (rs ++ x ∷ []) x.place ne)
      ]

  -- the rows without it are those before it
  pub without_last : (front : List (Placed K V)) (x : Placed K V) → ((p : ℕ) → places p (front ++ x ∷ []) ≤ 1) → rows_without (front ++ x ∷ []) x.place ≡ front
  without_last [] x once = by_place x.place x [] (λ xs. xs ≡ []) (λ e. refl) (λ ne. absurd (ne refl))
  without_last (r ∷ rs) x once =
      by_place x.place r (rs ++ x ∷ []) (λ xs. xs ≡ r ∷ rs)
      (λ here. absurd (omega (arith, once x.place, last_there rs x, places_here r (rs ++ x ∷ []) x.place here)))
      (λ ne. ap (λ xs. r ∷ xs) (without_last rs x (tail_once_of r (rs ++ x ∷ []) once)))

  -- it is the one at its place
  pub row_last : (front : List (Placed K V)) (x : Placed K V) → ((p : ℕ) → places p (front ++ x ∷ []) ≤ 1) → row_at (front ++ x ∷ []) x.place ≡ Some x
  row_last [] x once = row_first x [] x.place refl
  row_last (r ∷ rs) x once =
      elim (cases_eq r.place x.place) [
        | inl here ↦ absurd (omega (arith, once x.place, last_there rs x, places_here r (rs ++ x ∷ []) x.place here))
        | inr ne ↦ ap (λ b. cond b (Some r) (row_at (rs ++ x ∷ []) x.place)) (ne_eqb r.place x.place ne) ∙ row_last rs x (tail_once_of r (rs ++ x ∷ []) once)
      ]

  one_more : (r : Placed K V) (rs : List (Placed K V)) (x : Placed K V) → (front : List (Placed K V)) × (rs ≡ front ++ x ∷ []) → (front : List (Placed K V)) × (r ∷ rs ≡ front ++ x ∷ [])
  one_more r rs x (front, is) = (r ∷ front, ap (λ xs. r ∷ xs) is)

  split_last : (rows : List (Placed K V)) (x : Placed K V) → last_row rows ≡ Some x → (front : List (Placed K V)) × (rows ≡ front ++ x ∷ [])
  split_last [] x is = absurd (false≢true (ap is_some is))
  split_last (r ∷ []) x is = ([], ap (λ y. y ∷ []) (some_of r x is))
  split_last (r ∷ s ∷ rs) x is =
      let one_less : length (r ∷ s ∷ rs) - 1 ≡ suc (length (s ∷ rs) - 1) = omega arith in
      one_more r (s ∷ rs) x (split_last (s ∷ rs) x (sym (ap (λ n. slice_get (r ∷ s ∷ rs) n) one_less) ∙ is))

  -- the last row is told by its place
  pub last_told : (rows : List (Placed K V)) (p : ℕ) → Some p ≡ option_map (λ (x : Placed K V). x.place) (last_row rows) → (x : Placed K V) × ((x.place ≡ p) × ((front : List (Placed K V)) × (rows ≡ front ++ x ∷ [])))
  last_told rows p told = from (last_row rows) refl
    where
      from : (o : Option (Placed K V)) → last_row rows ≡ o → (x : Placed K V) × ((x.place ≡ p) × ((front : List (Placed K V)) × (rows ≡ front ++ x ∷ [])))
      from None is = absurd (false≢true (sym (ap is_some (told ∙ ap (option_map (λ (x : Placed K V). x.place)) is))))
      from (Some x) is = (x, (some_of x.place p (sym (told ∙ ap (option_map (λ (y : Placed K V). y.place)) is)), split_last rows x is))

  pub none_told : (rows : List (Placed K V)) → None ≡ option_map (λ (x : Placed K V). x.place) (last_row rows) → rows ≡ []
  none_told [] told = refl
  none_told (r ∷ rs) told =
      absurd (false≢true (ap is_some (told ∙ ap (option_map (λ (x : Placed K V). x.place)) (slice_get-get_or (r ∷ rs) (length (r ∷ rs) - 1) r (omega arith)))))

-- a row whose value was lent to a closure goes first: so it stands as if it had been lent there
module _ {K V R : Type 0} (post : MutBor V → ℕ → R → MutBor V → Type 0) (p : ℕ) (answer : R) (r r' : Recency K V) (updates : UpdatesAt post r p answer r') where
  pub at_updated : IsAt r'.rows p
  at_updated = ap is_some (ap (λ (x : Recency K V). row_at x.rows p) updates.4 ∙ row_valued p updates.2 r.rows updates.0 updates.1)

  pub first_updated : (r'' : Recency K V) → r'' ≡ recency (promoted r'.rows p) r'.free → UpdatesAt post (recency (promoted r.rows p) r.free) p answer r''
  first_updated r'' is =
      let place : updates.0.place ≡ p = row_place r.rows p updates.0 updates.1 in
      let first : promoted r.rows p ≡ updates.0 ∷ rows_without r.rows p = ap (λ o. option_map_or (λ x. x ∷ rows_without r.rows p) o r.rows) updates.1 in
      let now : Placed K V = placed updates.0.place updates.0.key updates.2 updates.0.weight in (
        updates.0,
        ap (λ rs. row_at rs p) first ∙ row_first updates.0 (rows_without r.rows p) p place,
        updates.2,
        updates.3,
        is ∙ ap (λ (x : Recency K V). recency (promoted x.rows p) x.free) updates.4
            ∙ ap (λ rs. recency rs r.free)
            (promoted-valued p updates.2 r.rows updates.0 updates.1
            ∙ sym
            (ap (λ rs. with_value rs p updates.2) first ∙ with_value-first p updates.2 updates.0 (rows_without r.rows p) place
            ∙ ap (λ rs. now ∷ rs) (with_value-without p updates.2 r.rows))),
      )
