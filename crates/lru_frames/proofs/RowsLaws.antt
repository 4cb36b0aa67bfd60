-- Values one behind the other, where the bytes of each tell their end.
use Rattle.std.proofs.Common.{◌≡◌, ℕ, ◌+◌, ◌≤◌, ◌<◌, List, [], ◌∷◌, ◌++◌, length, sym, ap, ◌∙◌, append_assoc, arith}
use Rattle.std.specs.List.{flat_map, AllByRecursion}
use Rattle.std.proofs.lemmas.List.Concat.{flat_map-cons}
use Rattle.lru_frames.specs.Rows.{AreSame}

module _ {T : Type 0} (bytes_of : T → List ℕ) where
  -- the bytes of the values, the first one apart
  pub first_apart : (v : T) (vs : List T) (x : List ℕ) → flat_map bytes_of (v ∷ vs) ++ x ≡ bytes_of v ++ (flat_map bytes_of vs ++ x)
  first_apart v vs x = ap (λ (y : List ℕ). y ++ x) (flat_map-cons bytes_of v vs) ∙ append_assoc (bytes_of v) (flat_map bytes_of vs) x

module _ {T : Type 0} (bytes_of : T → List ℕ) (IsValue : T → Type 0) (IsSame : T → T → Type 0)
    (tells_its_end : (a b : T) (x y : List ℕ) → IsValue a → IsValue b → bytes_of a ++ x ≡ bytes_of b ++ y → IsSame a b × (x ≡ y)) where
  -- what is left of the values ys, where the values xs were read at their front
  pub left_over : (xs ys : List T) (x y : List ℕ) → AllByRecursion IsValue xs → AllByRecursion IsValue ys → length xs ≤ length ys → flat_map bytes_of xs ++ x ≡ flat_map bytes_of ys ++ y
      → (left : List T) × (AllByRecursion IsValue left × ((length left + length xs ≡ length ys) × (x ≡ flat_map bytes_of left ++ y)))
  left_over [] ys x y all_x all_y le h = (ys, (all_y, (omega arith, h)))
  left_over (v ∷ xs) [] x y all_x all_y le h = absurd (omega arith)
  left_over (v ∷ xs) (w ∷ ys) x y all_x all_y le h =
      let one = tells_its_end v w (flat_map bytes_of xs ++ x) (flat_map bytes_of ys ++ y) all_x.0 all_y.0 (sym (first_apart bytes_of v xs x) ∙ h ∙ first_apart bytes_of w ys y) in
      let more = left_over xs ys x y all_x.1 all_y.1 (omega arith) one.1 in
      (more.0, (more.1.0, (omega (arith, more.1.1.0), more.1.1.1)))

  -- as many values with the same bytes
  pub same_values : (xs ys : List T) (x y : List ℕ) → AllByRecursion IsValue xs → AllByRecursion IsValue ys → length xs ≡ length ys → flat_map bytes_of xs ++ x ≡ flat_map bytes_of ys ++ y
      → AreSame IsSame xs ys × (x ≡ y)
  same_values [] [] x y all_x all_y e h = (tt, h)
  same_values [] (w ∷ ys) x y all_x all_y e h = absurd (omega arith)
  same_values (v ∷ xs) [] x y all_x all_y e h = absurd (omega arith)
  same_values (v ∷ xs) (w ∷ ys) x y all_x all_y e h =
      let one = tells_its_end v w (flat_map bytes_of xs ++ x) (flat_map bytes_of ys ++ y) all_x.0 all_y.0 (sym (first_apart bytes_of v xs x) ∙ h ∙ first_apart bytes_of w ys y) in
      let more = same_values xs ys x y all_x.1 all_y.1 (omega arith) one.1 in
      ((one.0, more.0), more.1)

  -- where no further value can be read, there are not so many
  pub no_more : (xs ys : List T) (bytes x y : List ℕ) (count : ℕ) → AllByRecursion IsValue xs → AllByRecursion IsValue ys → length ys ≡ count → length xs < count
      → bytes ≡ flat_map bytes_of xs ++ x → ((v : T) (rest : List ℕ) → IsValue v → x ≡ bytes_of v ++ rest → ⊥) → bytes ≡ flat_map bytes_of ys ++ y → ⊥
  no_more xs ys bytes x y count all_x all_y e lt h none k = one_of (left_over xs ys x y all_x all_y (omega arith) (sym h ∙ k))
    where
      one_of : (left : List T) × (AllByRecursion IsValue left × ((length left + length xs ≡ length ys) × (x ≡ flat_map bytes_of left ++ y))) → ⊥
      one_of ([], q) = omega (arith, q.1.0)
      one_of (v ∷ left, q) = none v (flat_map bytes_of left ++ y) q.0.0 (q.1.1 ∙ first_apart bytes_of v left y)
