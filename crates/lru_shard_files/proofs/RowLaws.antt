-- Laws of the words on rows that a load is stated in.
use Rattle.std.proofs.Common.{◌≡◌, ℕ, ◌+◌, true, false, cond, not, eqb, List, [], ◌∷◌, ◌++◌, Some, None, refl, sym, ap, ◌∙◌, arith}
use Rattle.std.proofs.lemmas.Bool.{eqb-false, eq-eqb, cond_both, not-true, not-false}
use Rattle.std.proofs.lemmas.List.Sums.{sum_by-cons, sum_by-append}
use Rattle.pingora_lru.specs.Row.{Row, times, HasDistinctKeys, weight_of, row_of, without}

module _ {T : Type 0} where
  pub times-cons : (k : ℕ) (r : Row T) (rows : List (Row T)) → times k (r ∷ rows) ≡ cond (eqb r.key k) 1 0 + times k rows
  times-cons k r rows = sum_by-cons (λ (x : Row T). cond (eqb x.key k) 1 0) r rows

  pub times-append : (k : ℕ) (xs ys : List (Row T)) → times k (xs ++ ys) ≡ times k xs + times k ys
  times-append k xs ys = sum_by-append (λ (x : Row T). cond (eqb x.key k) 1 0) xs ys

  pub weight-cons : (r : Row T) (rows : List (Row T)) → weight_of (r ∷ rows) ≡ r.weight + weight_of rows
  weight-cons r rows = sum_by-cons (λ (x : Row T). x.weight) r rows

  pub weight-append : (xs ys : List (Row T)) → weight_of (xs ++ ys) ≡ weight_of xs + weight_of ys
  weight-append xs ys = sum_by-append (λ (x : Row T). x.weight) xs ys

  pub times_yes : (k : ℕ) (r : Row T) (rows : List (Row T)) → eqb r.key k ≡ true → times k (r ∷ rows) ≡ 1 + times k rows
  times_yes k r rows e = times-cons k r rows ∙ ap (λ b. cond b 1 0 + times k rows) e

  pub times_no : (k : ℕ) (r : Row T) (rows : List (Row T)) → eqb r.key k ≡ false → times k (r ∷ rows) ≡ times k rows
  times_no k r rows e = let h : times k (r ∷ rows) ≡ 0 + times k rows = times-cons k r rows ∙ ap (λ b. cond b 1 0 + times k rows) e in omega arith

  -- a goal on `without` of a cons, by the two cases
  pub by_key : (k : ℕ) (r : Row T) (rows : List (Row T)) (P : List (Row T) → Type 0) → (eqb r.key k ≡ true → P (without rows k)) → (eqb r.key k ≡ false → P (r ∷ without rows k)) → P (without (r ∷ rows) k)
  by_key k r rows P here other =
      cond_both (not (eqb r.key k)) (r ∷ without rows k) (without rows k) P (λ e. other (not-true _ e)) (λ e. here (not-false _ e))

  -- a key without a row
  pub without_absent : (k : ℕ) (rows : List (Row T)) → times k rows ≡ 0 → without rows k ≡ rows
  without_absent k [] h = refl
  without_absent k (r ∷ rows) h =
      by_key k r rows (λ rs. rs ≡ r ∷ rows) (λ e. absurd (omega (arith, times_yes k r rows e)))
      (λ e. ap (λ rs. r ∷ rs) (without_absent k rows (sym (times_no k r rows e) ∙ h)))

  pub row_of_absent : (k : ℕ) (rows : List (Row T)) → times k rows ≡ 0 → row_of rows k ≡ None
  row_of_absent k [] h = refl
  row_of_absent k (r ∷ rows) h =
      cond_both (eqb r.key k) (Some r) (row_of rows k) (λ o. o ≡ None) (λ e. absurd (omega (arith, times_yes k r rows e)))
      (λ e. row_of_absent k rows (sym (times_no k r rows e) ∙ h))

  -- the one row of a key, wherever it stands
  pub without_there : (xs ys : List (Row T)) (r : Row T) → HasDistinctKeys (xs ++ r ∷ ys) → without (xs ++ r ∷ ys) r.key ≡ xs ++ ys
  without_there [] ys r h =
      by_key r.key r ys (λ rs. rs ≡ ys) (λ e. without_absent r.key ys (omega (arith, times_yes r.key r ys e, h r.key)))
      (λ e. absurd (eqb-false _ _ e refl))
  without_there (x ∷ xs) ys r h =
      by_key r.key x (xs ++ r ∷ ys) (λ rs. rs ≡ x ∷ xs ++ ys)
      (λ e. absurd (omega (arith, times_yes r.key x (xs ++ r ∷ ys) e, h r.key, times-append r.key xs (r ∷ ys), times_yes r.key r ys (eq-eqb _ _ refl))))
      (λ e. ap (λ rs. x ∷ rs) (without_there xs ys r (λ k. omega (arith, h k, times-cons k x (xs ++ r ∷ ys)))))
