-- Laws of rows with distinct keys.
use Rattle.std.proofs.Common.{◌≡◌, ℕ, ◌+◌, ◌≤◌, true, false, cond, not, eqb, List, [], ◌∷◌, ◌++◌, length, Some, None, refl, sym, ap, ◌∙◌, arith, ◌≢◌, inl, inr}
use Rattle.std.proofs.lemmas.Bool.{eqb-true, eqb-false, eq-eqb, ne_eqb, cases_eq, cond_both, not-true, not-false}
use Rattle.std.proofs.lemmas.List.Sums.{sum_by-cons, sum_by-append}
use Rattle.lru_shard.specs.Row.{Row, times, HasDistinctKeys, weight_of, row_of, without, with_first}

module _ {T : Type 0} where
  pub times-cons : (k : ℕ) (r : Row T) (rows : List (Row T)) → times k (r ∷ rows) ≡ cond (eqb r.key k) 1 0 + times k rows
  times-cons k r rows = sum_by-cons (λ (x : Row T). cond (eqb x.key k) 1 0) r rows

  pub times-append : (k : ℕ) (xs ys : List (Row T)) → times k (xs ++ ys) ≡ times k xs + times k ys
  times-append k xs ys = sum_by-append (λ (x : Row T). cond (eqb x.key k) 1 0) xs ys

  pub weight-cons : (r : Row T) (rows : List (Row T)) → weight_of (r ∷ rows) ≡ r.weight + weight_of rows
  weight-cons r rows = sum_by-cons (λ (x : Row T). x.weight) r rows

  pub weight-append : (xs ys : List (Row T)) → weight_of (xs ++ ys) ≡ weight_of xs + weight_of ys
  weight-append xs ys = sum_by-append (λ (x : Row T). x.weight) xs ys

  pub times_yes : (k : ℕ) (r : Row T) (rows : List (Row T)) → eqb r.key k ≡ true → times k (r ∷ rows) ≡ 1 + times k rows
  times_yes k r rows e = times-cons k r rows ∙ ap (λ b. cond b 1 0 + times k rows) e

  pub times_no : (k : ℕ) (r : Row T) (rows : List (Row T)) → eqb r.key k ≡ false → times k (r ∷ rows) ≡ times k rows
  times_no k r rows e = let h : times k (r ∷ rows) ≡ 0 + times k rows = times-cons k r rows ∙ ap (λ b. cond b 1 0 + times k rows) e in omega arith

  -- a goal on `without` of a cons, by the two cases
  pub by_key : (k : ℕ) (r : Row T) (rows : List (Row T)) (P : List (Row T) → Type 0) → (eqb r.key k ≡ true → P (without rows k)) → (eqb r.key k ≡ false → P (r ∷ without rows k)) → P (without (r ∷ rows) k)
  by_key k r rows P here other =
      cond_both (not (eqb r.key k)) (r ∷ without rows k) (without rows k) P (λ e. other (not-true _ e)) (λ e. here (not-false _ e))

  pub times-without_same : (k : ℕ) (rows : List (Row T)) → times k (without rows k) ≡ 0
  times-without_same k [] = refl
  times-without_same k (r ∷ rows) =
      by_key k r rows (λ rs. times k rs ≡ 0) (λ e. times-without_same k rows) (λ e. times_no k r (without rows k) e ∙ times-without_same k rows)

  pub times-without_other : (j k : ℕ) (rows : List (Row T)) → j ≢ k → times j (without rows k) ≡ times j rows
  times-without_other j k [] h = refl
  times-without_other j k (r ∷ rows) h =
      by_key k r rows (λ rs. times j rs ≡ times j (r ∷ rows))
      (λ e. times-without_other j k rows h ∙ sym (times_no j r rows (ne_eqb _ _ (λ q. h (sym q ∙ eqb-true _ _ e)))))
      (λ e. times-cons j r (without rows k) ∙ ap (λ n. cond (eqb r.key j) 1 0 + n) (times-without_other j k rows h) ∙ sym (times-cons j r rows))

  -- a key without a row
  pub without_absent : (k : ℕ) (rows : List (Row T)) → times k rows ≡ 0 → without rows k ≡ rows
  without_absent k [] h = refl
  without_absent k (r ∷ rows) h =
      by_key k r rows (λ rs. rs ≡ r ∷ rows) (λ e. absurd (omega (arith, times_yes k r rows e)))
      (λ e. ap (λ rs. r ∷ rs) (without_absent k rows (sym (times_no k r rows e) ∙ h)))

  pub row_of_absent : (k : ℕ) (rows : List (Row T)) → times k rows ≡ 0 → row_of rows k ≡ None
  row_of_absent k [] h = refl
  row_of_absent k (r ∷ rows) h =
      cond_both (eqb r.key k) (Some r) (row_of rows k) (λ o. o ≡ None) (λ e. absurd (omega (arith, times_yes k r rows e)))
      (λ e. row_of_absent k rows (sym (times_no k r rows e) ∙ h))

  -- the one row of a key, wherever it stands
  pub without_there : (xs ys : List (Row T)) (r : Row T) → HasDistinctKeys (xs ++ r ∷ ys) → without (xs ++ r ∷ ys) r.key ≡ xs ++ ys
  without_there [] ys r h =
      by_key r.key r ys (λ rs. rs ≡ ys) (λ e. without_absent r.key ys (omega (arith, times_yes r.key r ys e, h r.key)))
      (λ e. absurd (eqb-false _ _ e refl))
  without_there (x ∷ xs) ys r h =
      by_key r.key x (xs ++ r ∷ ys) (λ rs. rs ≡ x ∷ xs ++ ys)
      (λ e. absurd (omega (arith, times_yes r.key x (xs ++ r ∷ ys) e, h r.key, times-append r.key xs (r ∷ ys), times_yes r.key r ys (eq-eqb _ _ refl))))
      (λ e. ap (λ rs. x ∷ rs) (without_there xs ys r (λ k. omega (arith, h k, times-cons k x (xs ++ r ∷ ys)))))

  pub row_of_there : (xs ys : List (Row T)) (r : Row T) → HasDistinctKeys (xs ++ r ∷ ys) → row_of (xs ++ r ∷ ys) r.key ≡ Some r
  row_of_there [] ys r h = cond_both (eqb r.key r.key) (Some r) (row_of ys r.key) (λ o. o ≡ Some r) (λ e. refl) (λ e. absurd (eqb-false _ _ e refl))
  row_of_there (x ∷ xs) ys r h =
      cond_both (eqb x.key r.key) (Some x) (row_of (xs ++ r ∷ ys) r.key) (λ o. o ≡ Some r)
      (λ e. absurd (omega (arith, times_yes r.key x (xs ++ r ∷ ys) e, h r.key, times-append r.key xs (r ∷ ys), times_yes r.key r ys (eq-eqb _ _ refl))))
      (λ e. row_of_there xs ys r (λ k. omega (arith, h k, times-cons k x (xs ++ r ∷ ys))))

  pub length-without-le : (k : ℕ) (rows : List (Row T)) → length (without rows k) ≤ length rows
  length-without-le k [] = omega arith
  length-without-le k (r ∷ rows) =
      by_key k r rows (λ rs. length rs ≤ length (r ∷ rows)) (λ e. omega (arith, length-without-le k rows)) (λ e. omega (arith, length-without-le k rows))

  -- the new list of an `admit` has distinct keys
  pub distinct-first : (rows : List (Row T)) (r : Row T) → HasDistinctKeys rows → HasDistinctKeys (with_first rows r)
  distinct-first rows r h k =
      elim (cases_eq k r.key) [
        | inl e ↦ rw e (omega (arith, times_yes r.key r (without rows r.key) (eq-eqb _ _ refl), times-without_same r.key rows))
        | inr ne ↦ omega (arith, times_no k r (without rows r.key) (ne_eqb _ _ (λ q. ne (sym q))), times-without_other k r.key rows ne, h k)
      ]

  -- a list of distinct keys without its last row
  pub distinct-front : (xs ys : List (Row T)) → HasDistinctKeys (xs ++ ys) → HasDistinctKeys xs
  distinct-front xs ys h k = omega (arith, h k, times-append k xs ys)
