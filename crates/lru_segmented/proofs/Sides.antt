-- Rows in two lists, one behind the other: where a place stands, and what is before and behind it.
use Rattle.std.proofs.Common.{◌≡◌, ◌≢◌, ℕ, ◌-◌, ◌≤◌, cond, not, eqb, List, [], ◌∷◌, ◌++◌, length, Some, None, refl, sym, ap, ◌∙◌, inl, inr, arith, true, false, append_assoc}
use Rattle.std.specs.Prelude.{Option, Bool, is_some, ◌==◌, ◌⊎◌, reverse}
use Rattle.std.specs.Option.{option_map}
use Rattle.std.proofs.lemmas.Bool.{cases_eq, cases_lt, eq-eqb, ne_eqb, false≢true}
use Rattle.std.proofs.lemmas.List.{length_push, get_or_push, reverse-append, append-nil}
use Rattle.std.proofs.lemmas.List.Elements.{filter-append}
use Rattle.std.proofs.lemmas.Option.{slice_get-get_or}
use Rattle.lru_rows.specs.Rows.{Placed, placed, row_at, without, with_value, first_row, last_row}
use Rattle.lru_owned_cache.proofs.Rows.{places, places_here, places_other, places-append, row_first, by_place}
use Rattle.lru_pairs.specs.Beside.{row_after, row_before, put_before}

module _ {K V : Type 0} where
  row_other : (r : Placed K V) (rs : List (Placed K V)) (p : ℕ) → r.place ≢ p → row_at (r ∷ rs) p ≡ row_at rs p
  row_other r rs p ne = ap (λ b. cond b (Some r) (row_at rs p)) (ne_eqb r.place p ne)

  -- ---- places
  pub at_places : (rows : List (Placed K V)) (p : ℕ) (x : Placed K V) → row_at rows p ≡ Some x → 1 ≤ places p rows
  at_places [] p x found = absurd (false≢true (ap is_some found))
  at_places (r ∷ rs) p x found =
      elim (cases_eq r.place p) [
        | inl e ↦ omega (arith, places_here r rs p e)
        | inr ne ↦ omega (arith, at_places rs p x (sym (row_other r rs p ne) ∙ found), places_other r rs p ne)
      ]

  pub places_at : (rows : List (Placed K V)) (p : ℕ) → 1 ≤ places p rows → (x : Placed K V) × (row_at rows p ≡ Some x)
  places_at [] p there = absurd (omega (arith, there))
  places_at (r ∷ rs) p there =
      elim (cases_eq r.place p) [
        | inl e ↦ (r, row_first r rs p e)
        | inr ne ↦ let rest = places_at rs p (omega (arith, there, places_other r rs p ne)) in (rest.0, row_other r rs p ne ∙ rest.1)
      ]

  pub nowhere : (rows : List (Placed K V)) (p : ℕ) → row_at rows p ≡ None → places p rows ≡ 0
  nowhere rows p none =
      elim (cases_lt 0 (places p rows)) [
        | inl some ↦ let x = places_at rows p (omega (arith, some)) in absurd (false≢true (sym (ap is_some none) ∙ ap is_some x.1))
        | inr few ↦ omega (arith, few)
      ]

  pub at_left : (xs ys : List (Placed K V)) (p : ℕ) (x : Placed K V) → row_at xs p ≡ Some x → row_at (xs ++ ys) p ≡ Some x
  at_left [] ys p x found = absurd (false≢true (ap is_some found))
  at_left (r ∷ rs) ys p x found =
      elim (cases_eq r.place p) [
        | inl e ↦ row_first r (rs ++ ys) p e ∙ sym (row_first r rs p e) ∙ found
        | inr ne ↦ row_other r (rs ++ ys) p ne ∙ at_left rs ys p x (sym (row_other r rs p ne) ∙ found)
      ]

  pub at_right : (xs ys : List (Placed K V)) (p : ℕ) → places p xs ≡ 0 → row_at (xs ++ ys) p ≡ row_at ys p
  at_right [] ys p none = refl
  at_right (r ∷ rs) ys p none =
      elim (cases_eq r.place p) [
        | inl e ↦ absurd (omega (arith, none, places_here r rs p e))
        | inr ne ↦ row_other r (rs ++ ys) p ne ∙ at_right rs ys p (omega (arith, none, places_other r rs p ne))
      ]

  -- no place stands twice
  abbrev pub Once : List (Placed K V) → Type 0
  Once rows = (p : ℕ) → places p rows ≤ 1

  -- in which of two lists a place's row stands
  abbrev pub Side : List (Placed K V) → List (Placed K V) → ℕ → Placed K V → Type 0
  Side us ls p x = ((row_at us p ≡ Some x) × (places p ls ≡ 0)) ⊎ ((places p us ≡ 0) × (row_at ls p ≡ Some x))

  pub side : (us ls : List (Placed K V)) (p : ℕ) (x : Placed K V) → Once (us ++ ls) → row_at (us ++ ls) p ≡ Some x → Side us ls p x
  side us ls p x once found =
      elim (cases_lt 0 (places p us)) [
        | inl some ↦
            let y = places_at us p (omega (arith, some)) in
            inl (y.1 ∙ sym (at_left us ls p y.0 y.1) ∙ found, omega (arith, some, once p, places-append p us ls))
        | inr none ↦
            let absent : places p us ≡ 0 = omega (arith, none) in
            inr (absent, sym (at_right us ls p absent) ∙ found)
      ]

  -- ---- the rows without a place's
  pub without-append : (xs ys : List (Placed K V)) (p : ℕ) → without (xs ++ ys) p ≡ without xs p ++ without ys p
  without-append xs ys p = filter-append (λ (r : Placed K V). not (r.place == p)) xs ys

  pub places_without : (rows : List (Placed K V)) (p : ℕ) → places p (without rows p) ≡ 0
  places_without [] p = refl
  places_without (r ∷ rs) p = by_place p r rs (λ ys. places p ys ≡ 0) (λ _. places_without rs p) (λ ne. places_other r (without rs p) p ne ∙ places_without rs p)

  pub fewer_places : (rows : List (Placed K V)) (p q : ℕ) → places q (without rows p) ≤ places q rows
  fewer_places [] p q = omega arith
  fewer_places (r ∷ rs) p q =
      let rest = fewer_places rs p q in
      by_place p r rs (λ ys. places q ys ≤ places q (r ∷ rs))
      (λ _. elim (cases_eq r.place q) [ inl e ↦ omega (arith, rest, places_here r rs q e) | inr ne ↦ omega (arith, rest, places_other r rs q ne) ])
      (λ _. elim (cases_eq r.place q) [
        | inl e ↦ omega (arith, rest, places_here r rs q e, places_here r (without rs p) q e)
        | inr ne ↦ omega (arith, rest, places_other r rs q ne, places_other r (without rs p) q ne)
      ])

  pub once_without : (rows : List (Placed K V)) (p : ℕ) → Once rows → Once (without rows p)
  once_without rows p once q = omega (arith, once q, fewer_places rows p q)

  pub once_first : (rows : List (Placed K V)) (x : Placed K V) → Once rows → Once (x ∷ without rows x.place)
  once_first rows x once q =
      elim (cases_eq x.place q) [
        | inl e ↦ omega (arith, places_here x (without rows x.place) q e, ap (λ p. places p (without rows x.place)) e, places_without rows x.place)
        | inr ne ↦ omega (arith, once q, fewer_places rows x.place q, places_other x (without rows x.place) q ne)
      ]

  -- one more, at a place that has none
  pub once_more : (us ls : List (Placed K V)) (x : Placed K V) → Once (us ++ ls) → places x.place (us ++ ls) ≡ 0 → Once (us ++ x ∷ ls)
  once_more us ls x once none q =
      elim (cases_eq x.place q) [
        | inl e ↦ omega (arith, places-append q us (x ∷ ls), places_here x ls q e, places-append q us ls, ap (λ p. places p (us ++ ls)) e, none)
        | inr ne ↦ omega (arith, places-append q us (x ∷ ls), places_other x ls q ne, places-append q us ls, once q)
      ]

  -- ---- a value at a place
  pub places_value : (rows : List (Placed K V)) (p : ℕ) (d : V) (q : ℕ) → places q (with_value rows p d) ≡ places q rows
  places_value [] p d q = refl
  places_value (r ∷ rs) p d q = from (places_value rs p d q) (eqb r.place p)
    where
      both : (x : Placed K V) → x.place ≡ r.place → places q (with_value rs p d) ≡ places q rs → places q (x ∷ with_value rs p d) ≡ places q (r ∷ rs)
      both x same rest =
          elim (cases_eq r.place q) [
            | inl e ↦ omega (arith, rest, places_here x (with_value rs p d) q (same ∙ e), places_here r rs q e)
            | inr ne ↦ omega (arith, rest, places_other x (with_value rs p d) q (λ e. ne (sym same ∙ e)), places_other r rs q ne)
          ]

      from : places q (with_value rs p d) ≡ places q rs → (b : Bool) → places q (cond b (placed r.place r.key d r.weight) r ∷ with_value rs p d) ≡ places q (r ∷ rs)
      from rest true = both (placed r.place r.key d r.weight) refl rest
      from rest false = both r refl rest

  pub value_absent : (rows : List (Placed K V)) (p : ℕ) (d : V) → places p rows ≡ 0 → with_value rows p d ≡ rows
  value_absent [] p d none = refl
  value_absent (r ∷ rs) p d none =
      elim (cases_eq r.place p) [
        | inl e ↦ absurd (omega (arith, none, places_here r rs p e))
        | inr ne ↦
            ap (λ b. cond b (placed r.place r.key d r.weight) r ∷ with_value rs p d) (ne_eqb r.place p ne)
            ∙ ap (λ xs. r ∷ xs) (value_absent rs p d (omega (arith, none, places_other r rs p ne)))
      ]

  pub value-append : (xs ys : List (Placed K V)) (p : ℕ) (d : V) → with_value (xs ++ ys) p d ≡ with_value xs p d ++ with_value ys p d
  value-append [] ys p d = refl
  value-append (x ∷ xs) ys p d = ap (λ zs. cond (eqb x.place p) (placed x.place x.key d x.weight) x ∷ zs) (value-append xs ys p d)

  pub value_first : (x : Placed K V) (xs : List (Placed K V)) (p : ℕ) (d : V) → x.place ≡ p → places p xs ≡ 0 → with_value (x ∷ xs) p d ≡ placed x.place x.key d x.weight ∷ xs
  value_first x xs p d e none =
      ap (λ b. cond b (placed x.place x.key d x.weight) x ∷ with_value xs p d) (eq-eqb x.place p e) ∙ ap (λ zs. placed x.place x.key d x.weight ∷ zs) (value_absent xs p d none)

  -- ---- the ends
  pub last_pushed : (front : List (Placed K V)) (x : Placed K V) → last_row (front ++ x ∷ []) ≡ Some x
  last_pushed front x =
      slice_get-get_or (front ++ x ∷ []) (length (front ++ x ∷ []) - 1) x (omega (arith, length_push front x))
      ∙ ap (λ y. Some y) (get_or_push front x x (length (front ++ x ∷ []) - 1) (omega (arith, length_push front x)))

  pub has_last : (x : Placed K V) (xs : List (Placed K V)) → (front : List (Placed K V)) × ((y : Placed K V) × (x ∷ xs ≡ front ++ y ∷ []))
  has_last x [] = ([], (x, refl))
  has_last x (y ∷ ys) = let rest = has_last y ys in (x ∷ rest.0, (rest.1.0, ap (λ zs. x ∷ zs) rest.1.1))

  -- ---- the row behind another, and before it
  pub after_split : (us : List (Placed K V)) (y : Placed K V) (ls : List (Placed K V)) (p : ℕ) → y.place ≡ p → places p us ≡ 0 → row_after (us ++ y ∷ ls) p ≡ first_row ls
  after_split [] y ls p e none = ap (λ b. cond b (first_row ls) (row_after ls p)) (eq-eqb y.place p e)
  after_split (r ∷ rs) y ls p e none =
      elim (cases_eq r.place p) [
        | inl here ↦ absurd (omega (arith, none, places_here r rs p here))
        | inr ne ↦
            ap (λ b. cond b (first_row (rs ++ y ∷ ls)) (row_after (rs ++ y ∷ ls) p)) (ne_eqb r.place p ne)
            ∙ after_split rs y ls p e (omega (arith, none, places_other r rs p ne))
      ]

  places-reverse : (rows : List (Placed K V)) (p : ℕ) → places p (reverse rows) ≡ places p rows
  places-reverse [] p = refl
  places-reverse (r ∷ rs) p =
      let whole = ap (places p) (reverse-append (r ∷ []) rs) ∙ places-append p (reverse rs) (r ∷ []) in
      elim (cases_eq r.place p) [
        | inl e ↦ omega (arith, whole, places-reverse rs p, places_here r [] p e, places_here r rs p e)
        | inr ne ↦ omega (arith, whole, places-reverse rs p, places_other r [] p ne, places_other r rs p ne)
      ]

  pub before_split : (front : List (Placed K V)) (x y : Placed K V) (ls : List (Placed K V)) (p : ℕ) → y.place ≡ p → places p ls ≡ 0 → row_before ((front ++ x ∷ []) ++ y ∷ ls) p ≡ Some x
  before_split front x y ls p e none =
      ap (λ rs. row_after rs p)
      (reverse-append (front ++ x ∷ []) (y ∷ ls) ∙ ap (λ rs. rs ++ reverse (front ++ x ∷ [])) (reverse-append (y ∷ []) ls) ∙ append_assoc (reverse ls) (y ∷ []) (reverse (front ++ x ∷ [])))
      ∙ after_split (reverse ls) y (reverse (front ++ x ∷ [])) p e (places-reverse ls p ∙ none)
      ∙ ap first_row (reverse-append front (x ∷ []))

  -- ---- a row put before the others of the second list
  pub put_between : (us ls : List (Placed K V)) (boundary : Option ℕ) (new : Placed K V) → boundary ≡ option_map (λ (x : Placed K V). x.place) (first_row ls) → Once (us ++ ls) → put_before (us ++ ls) boundary new ≡ us ++ new ∷ ls
  put_between us [] boundary new is once = ap (λ b. put_before (us ++ []) b new) is ∙ ap (λ zs. put_before zs None new) (append-nil us) ∙ last us
    where
      last : (xs : List (Placed K V)) → put_before xs None new ≡ xs ++ new ∷ []
      last [] = refl
      last (x ∷ xs) = ap (λ zs. x ∷ zs) (last xs)
  put_between us (y ∷ ys) boundary new is once =
      ap (λ b. put_before (us ++ y ∷ ys) b new) is
      ∙ within us (omega (arith, once y.place, places-append y.place us (y ∷ ys), places_here y ys y.place refl))
    where
      within : (xs : List (Placed K V)) → places y.place xs ≡ 0 → put_before (xs ++ y ∷ ys) (Some y.place) new ≡ xs ++ new ∷ y ∷ ys
      within [] none = ap (λ b. cond b (new ∷ y ∷ ys) (y ∷ put_before ys (Some y.place) new)) (eq-eqb y.place y.place refl)
      within (x ∷ xs) none =
          elim (cases_eq x.place y.place) [
            | inl e ↦ absurd (omega (arith, none, places_here x xs y.place e))
            | inr ne ↦
                ap (λ b. cond b (new ∷ x ∷ xs ++ y ∷ ys) (x ∷ put_before (xs ++ y ∷ ys) (Some y.place) new)) (ne_eqb x.place y.place ne)
                ∙ ap (λ zs. x ∷ zs) (within xs (omega (arith, none, places_other x xs y.place ne)))
          ]
