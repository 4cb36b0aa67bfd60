-- Items of lists by their number, and what follows of answers.
use Rattle.std.proofs.Common.{◌≡◌, ◌⊎◌, inl, inr, ⊎_elim, ℕ, zero, suc, ◌<◌, List, [], ◌∷◌, ◌++◌, length, Some, true, false, slice_get, get_or, Result, Ok, Err, refl, sym, ◌∙◌, ap, subst, arith}
use Rattle.std.proofs.lemmas.Option.{get_or_from_slice_get}
use Rattle.std.specs.Prelude.{OnOk}

module _ {A : Type 0} where
  -- an item of a list stands below its length
  pub get-below : (xs : List A) (i : ℕ) (y : A) → slice_get xs i ≡ Some y → i < length xs
  get-below [] i y e = absurd (let f : ⊥ = cc in f)
  get-below (z ∷ zs) zero y e = omega arith
  get-below (z ∷ zs) (suc i) y e = omega (arith, get-below zs i y e)

  -- an item of the longer list is the last one, or was there before
  pub get-push : (xs : List A) (x : A) (i : ℕ) (y : A) → slice_get (xs ++ x ∷ []) i ≡ Some y → (slice_get xs i ≡ Some y) ⊎ ((i ≡ length xs) × (x ≡ y))
  get-push [] x zero y e = inr (refl, cc)
  get-push [] x (suc i) y e = inl e
  get-push (z ∷ zs) x zero y e = inl e
  get-push (z ∷ zs) x (suc i) y e = ⊎_elim (λ h. inl h) (λ h. inr (ap suc h.0, h.1)) (get-push zs x i y e)

  -- an item that was there is there still, and the last one is
  pub get-kept : (xs : List A) (x : A) (i : ℕ) (y : A) → slice_get xs i ≡ Some y → slice_get (xs ++ x ∷ []) i ≡ Some y
  get-kept [] x i y e = absurd (let f : ⊥ = cc in f)
  get-kept (z ∷ zs) x zero y e = e
  get-kept (z ∷ zs) x (suc i) y e = get-kept zs x i y e

  pub get-last : (xs : List A) (x : A) → slice_get (xs ++ x ∷ []) (length xs) ≡ Some x
  get-last [] x = refl
  get-last (z ∷ zs) x = get-last zs x

  -- below its length a list has an item
  pub get-there : (xs : List A) (i : ℕ) → i < length xs → (y : A) × (slice_get xs i ≡ Some y)
  get-there [] i below = absurd (omega (arith, below))
  get-there (x ∷ xs) zero below = (x, refl)
  get-there (x ∷ xs) (suc i) below = get-there xs i (omega (arith, below))

  -- what stands at a number below the length is the item
  pub index_is : (xs : List A) (i : ℕ) (x : A) → i < length xs → x ≡ get_or xs i x → slice_get xs i ≡ Some x
  index_is xs i x below h = let item = get-there xs i below in item.1 ∙ ap Some (sym (h ∙ get_or_from_slice_get xs i item.0 x item.1))

  -- what holds of each item holds of one more
  pub each-push : (P : ℕ → A → Type 0) (xs : List A) (x : A) → ((i : ℕ) (y : A) → slice_get xs i ≡ Some y → P i y) → P (length xs) x → (i : ℕ) (y : A) → slice_get (xs ++ x ∷ []) i ≡ Some y → P i y
  each-push P xs x each last i y at = elim (get-push xs x i y at) [
    | inl before ↦ each i y before
    | inr here ↦ subst (λ (n : ℕ). P n y) (sym here.0) (subst (λ (z : A). P (length xs) z) here.1 last)
  ]

-- what follows of a success
pub on_ok : {T E : Type 0} (r : Result T E) (P Q : Type 0) → (P → Q) → OnOk r P → OnOk r Q
on_ok (Ok done) P Q then p = then p
on_ok (Err error) P Q then p = p

pub never : false ≡ true → ⊥
never e = cc
