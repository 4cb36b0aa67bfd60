-- Which texts are numbers as they are written in names.
use Rattle.std.proofs.Common.{◌≡◌, ◌≢◌, ℕ, ◌^◌, ◌<◌, List, [], ◌∷◌, length, get_or, Result, Ok, Err, sym, ◌∙◌, ap, arith, inl, inr}
use Rattle.std.specs.Prelude.{MatchOption}
use Rattle.std.specs.Fmt.{decimal}
use Rattle.std.specs.Int.{IsInRange}
use Rattle.std.specs.Result.{result_ok}
use Rattle.std.specs.Str.Parse.{AllDigits, digits_value, ParsesUnsigned}
use Rattle.std.proofs.lemmas.Bool.{cases_lt}
use Rattle.std.proofs.lemmas.Fmt.{decimal_digit, decimal_is_IsNumeral, decimal_nonempty, decimal-digits_value, first_decimal, parse-decimal}
use Rattle.std.proofs.lemmas.Str.Parse.{IsNumeralModel, digit_at, numerals_by_value, parse_plain, tells_digits}

own : IsNumeralModel (AllDigits 10) (digits_value 10)
own = numerals_by_value (AllDigits 10) tells_digits

pub no_zero_ahead : (text : List ℕ) → get_or text 0 0 ≡ 48 → 1 < length text → (n : ℕ) → n < 2 ^ 64 → text ≢ decimal n
no_zero_ahead text zero long n small h = elim (cases_lt 0 n) [
  | inl lt ↦ absurd (omega (arith, first_decimal n lt small, ap (λ (l : List ℕ). get_or l 0 0) h))
  | inr le ↦ absurd (omega (arith, ap length (h ∙ decimal_digit n (omega arith))))
]

pub no_plus_ahead : (text : List ℕ) → get_or text 0 0 ≡ 43 → (n : ℕ) → n < 2 ^ 64 → text ≢ decimal n
no_plus_ahead text plus n small h =
    let digit : IsInRange 48 57 (get_or (decimal n) 0 0) = digit_at (decimal n) 0 (decimal_is_IsNumeral n small).0.1 (decimal_nonempty n small) in
    absurd (omega (arith, digit, plus, ap (λ (l : List ℕ). get_or l 0 0) h))

not_ahead : (text : List ℕ) → (0 < length text → get_or text 0 0 ≢ 43) → get_or text 0 0 ≢ 43
not_ahead [] other h = absurd (omega arith)
not_ahead (x ∷ xs) other h = other (omega arith) h

-- what is read of a text without them
pub number_read : {E : Type 0} (text : List ℕ) (r : Result ℕ E) → (1 < length text → get_or text 0 0 ≢ 48) → (0 < length text → get_or text 0 0 ≢ 43) → ParsesUnsigned 64 10 text r
    → MatchOption (result_ok r) ((n : ℕ) → n < 2 ^ 64 → text ≢ decimal n) (λ n. text ≡ decimal n)
number_read {E} text (Ok n) zero plus h =
    let read = parse_plain own {E = E} 64 text (Ok n) h (not_ahead text plus) in
    let short : get_or text 0 0 ≡ 48 → length text ≡ 1 = λ e. elim (cases_lt 1 (length text)) [ inl lt ↦ absurd (zero lt e) | inr le ↦ omega (arith, read.0.1) ] in
    sym (decimal-digits_value own text read.0.0 read.0.1 short read.0.2) ∙ ap decimal (sym read.1)
number_read {E} text (Err e) zero plus h = λ n small same. let none = parse-decimal {E = E} 64 n text (Err e) small small same h in let f : ⊥ = cc in f
