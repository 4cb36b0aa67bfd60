-- Texts that are as long, and whose words are the same, are the same.
use Rattle.std.proofs.Common.{◌≡◌, ℕ, ◌+◌, ◌-◌, ◌<◌, ◌≤◌, List, length, Bool, true, false, refl, zero, suc, inl, inr, sym, ap, subst, arith}
use Rattle.std.specs.Prelude.{nat_eq, slice_index}
use Rattle.std.specs.Str.{bytes_eq}
use Rattle.std.specs.Cmp.Lexicographic.{bytes_decides}
use Rattle.std.proofs.lemmas.Bool.{cases_lt, eqb-true, eq-eqb}
use Rattle.std.proofs.lemmas.Grind.{same_number_lists}
use Rattle.lru_index.specs.Hashing.{number_at}

-- two tests of which each follows from the other
same_answer : (a b : Bool) → (a ≡ true → b ≡ true) → (b ≡ true → a ≡ true) → a ≡ b
same_answer true b f g = sym (f refl)
same_answer false true f g = g refl
same_answer false false f g = refl

-- what each number of both lists is
abbrev pub AreBytes : List ℕ → List ℕ → Type 0
AreBytes xs ys = (i : ℕ) → (slice_index xs i < 256) × (slice_index ys i < 256)

-- a byte of two words that have one number
same_byte : (xs ys : List ℕ) → AreBytes xs ys → (i n k j : ℕ) → number_at xs i n ≡ number_at ys i n → k < n → j ≡ i + k → slice_index xs j ≡ slice_index ys j
unfolding number_at
same_byte xs ys small i zero k j e h p = absurd (omega (arith, h))
same_byte xs ys small i (suc n) zero j e h p =
    let first : slice_index xs i ≡ slice_index ys i = omega (arith, (small i).0, (small i).1, e) in
    let here : i ≡ j = omega (arith, p) in
    subst (λ v. slice_index xs v ≡ slice_index ys v) here first
same_byte xs ys small i (suc n) (suc k) j e h p =
    same_byte xs ys small (i + 1) n k j (omega (arith, (small i).0, (small i).1, e)) (omega (arith, h)) (omega (arith, p))

-- the word from i on is the same
abbrev pub SameWord : List ℕ → List ℕ → ℕ → Type 0
SameWord xs ys i = nat_eq (number_at xs i 8) (number_at ys i 8) ≡ true

in_word : (xs ys : List ℕ) → AreBytes xs ys → (i j : ℕ) → SameWord xs ys i → i ≤ j → j < i + 8 → slice_index xs j ≡ slice_index ys j
in_word xs ys small i j w least most = same_byte xs ys small i 8 (j - i) j (eqb-true _ _ w) (omega (arith, least, most)) (omega (arith, least))

module _ (xs ys : List ℕ) (small : AreBytes xs ys) (same : length xs ≡ length ys) (first : SameWord xs ys 0) (last : SameWord xs ys (length xs - 8)) where
  -- at most two words long
  pub two_words : length xs ≤ 16 → bytes_eq xs ys ≡ true
  two_words short = (bytes_decides xs ys).1 (same_number_lists xs ys same (λ k h.
      elim (cases_lt k 8) [
        | inl l ↦ in_word xs ys small 0 k first (omega arith) (omega (arith, l))
        | inr g ↦ in_word xs ys small (length xs - 8) k last (omega (arith, g, short)) (omega (arith, h))
      ]))

  -- at most four, of which three are the same
  pub four_words : SameWord xs ys 8 → 16 < length xs → length xs ≤ 32
      → nat_eq (number_at xs (length xs - 16) 8) (number_at ys (length xs - 16) 8) ≡ bytes_eq xs ys
  four_words second long short = same_answer _ _
      (λ third. (bytes_decides xs ys).1 (same_number_lists xs ys same (λ k h.
      elim (cases_lt k 8) [
        | inl l ↦ in_word xs ys small 0 k first (omega arith) (omega (arith, l))
        | inr g ↦ elim (cases_lt k 16) [
          | inl l ↦ in_word xs ys small 8 k second (omega (arith, g)) (omega (arith, l))
          | inr f ↦ elim (cases_lt k (length xs - 8)) [
            | inl l ↦ in_word xs ys small (length xs - 16) k third (omega (arith, f, short)) (omega (arith, l))
            | inr e ↦ in_word xs ys small (length xs - 8) k last (omega (arith, e)) (omega (arith, h))
          ]
        ]
      ])))
      (λ e. eq-eqb _ _ (ap (λ l. number_at l (length xs - 16) 8) ((bytes_decides xs ys).0 e)))
