-- Laws of numbers and of parts of a text.
use Rattle.std.proofs.Common.{◌≡◌, Bool, ℕ, ◌+◌, ◌-◌, ◌*◌, ◌<◌, ◌≤◌, true, false, cond, leb, ◌&&◌, List, [], ◌∷◌, ◌++◌, length, take, drop, get_or, Some, None, refl, sym, ap, ◌∙◌, arith, eqb}
use Rattle.std.specs.Prelude.{fold, ◌==◌, if◌then◌else◌, slice_index_or}
use Rattle.std.specs.List.{list_all}
use Rattle.std.proofs.lemmas.Bool.{and_left, and_right, and_from, le-leb, lt-leb, cond-true, cond-false, eq-eqb, ne_eqb}
use Rattle.std.proofs.lemmas.List.{take_more, drop_more}
use Rattle.lru_lines.specs.Lines.{is_digit, value_of, number_of, parts_from, parts_of, lines_of}

abbrev pub step : ℕ → ℕ → ℕ
step n byte = n * 10 + (byte - 48)

-- digits never make a number smaller
pub grows : (bytes : List ℕ) (n : ℕ) → n ≤ fold step n bytes
grows [] n = omega arith
grows (b ∷ bytes) n = omega (arith, grows bytes (step n b))

pub too_long : (word : List ℕ) → 20 < length word → number_of word ≡ None
too_long word h = ap (λ b. cond (leb 1 (length word) && b && list_all is_digit word && leb (value_of word) 18446744073709551615) (Some (value_of word)) None) (lt-leb (length word) 20 h)
    ∙ cond-false (leb 1 (length word) && false && list_all is_digit word && leb (value_of word) 18446744073709551615) (Some (value_of word)) None
    (and_left _ _ (and_left _ _ (and_right (leb 1 (length word)) false refl)))

pub too_short : (word : List ℕ) → length word ≡ 0 → number_of word ≡ None
too_short word h = cond-false (leb 1 (length word) && leb (length word) 20 && list_all is_digit word && leb (value_of word) 18446744073709551615) (Some (value_of word)) None
    (and_left _ _ (and_left _ _ (and_left _ _ (lt-leb 1 (length word) (omega arith)))))

pub not_digits : (word : List ℕ) → list_all is_digit word ≡ false → number_of word ≡ None
not_digits word h = cond-false (leb 1 (length word) && leb (length word) 20 && list_all is_digit word && leb (value_of word) 18446744073709551615) (Some (value_of word)) None
    (and_left _ _ (and_right (leb 1 (length word) && leb (length word) 20) (list_all is_digit word) h))

pub too_big : (word : List ℕ) → 18446744073709551615 < value_of word → number_of word ≡ None
too_big word h = cond-false (leb 1 (length word) && leb (length word) 20 && list_all is_digit word && leb (value_of word) 18446744073709551615) (Some (value_of word)) None
    (and_right (leb 1 (length word) && leb (length word) 20 && list_all is_digit word) _ (lt-leb (value_of word) 18446744073709551615 h))

pub is_number : (word : List ℕ) → 1 ≤ length word → length word ≤ 20 → list_all is_digit word ≡ true → value_of word ≤ 18446744073709551615 → number_of word ≡ Some (value_of word)
is_number word a b c d = cond-true (leb 1 (length word) && leb (length word) 20 && list_all is_digit word && leb (value_of word) 18446744073709551615) (Some (value_of word)) None
    (and_from _ _ (and_from _ _ (and_from _ _ (le-leb 1 (length word) a) (le-leb (length word) 20 b)) c) (le-leb (value_of word) 18446744073709551615 d))

-- a separator ends the part, and any other byte belongs to it
pub part_ends : (s : ℕ) (text : List ℕ) (part : List ℕ) (at : ℕ) → at < length text → get_or text at 0 ≡ s → parts_from s part (drop at text) ≡ part ∷ parts_from s [] (drop (at + 1) text)
part_ends s text part at lt e =
    ap (parts_from s part) (drop_more text at 0 lt)
    ∙ cond-true (eqb (get_or text at 0) s) (part ∷ parts_from s [] (drop (at + 1) text)) (parts_from s (part ++ get_or text at 0 ∷ []) (drop (at + 1) text)) (eq-eqb _ _ e)

pub part_goes_on : (s : ℕ) (text : List ℕ) (at : ℕ) → at < length text → (get_or text at 0 ≡ s → ⊥) →
    parts_from s (take at text) (drop at text) ≡ parts_from s (take (at + 1) text) (drop (at + 1) text)
part_goes_on s text at lt ne =
    ap (parts_from s (take at text)) (drop_more text at 0 lt)
    ∙ cond-false (eqb (get_or text at 0) s) (take at text ∷ parts_from s [] (drop (at + 1) text)) (parts_from s (take at text ++ get_or text at 0 ∷ []) (drop (at + 1) text)) (ne_eqb _ _ ne)
    ∙ ap (λ part. parts_from s part (drop (at + 1) text)) (sym (take_more text at 0 lt))

-- the parts of a text of lines, where the first line begins so: the last byte may end the last line
abbrev pub ended : List ℕ → List ℕ → List (List ℕ)
ended part [] = part ∷ []
ended part (b ∷ text) =
    if slice_index_or (b ∷ text) (length text) 0 == 10 then parts_from 10 part (take (length text) (b ∷ text)) else parts_from 10 part (b ∷ text)

under : {X Y : Type 0} (f : X → Y) (b : Bool) (x y : X) → cond b (f x) (f y) ≡ f (cond b x y)
under f true x y = refl
under f false x y = refl

-- what stands before byte 10 is a line
line_ends : (b : ℕ) (text part : List ℕ) → b ≡ 10 → ended part (b ∷ text) ≡ part ∷ lines_of text
line_ends b [] part e = cond-true (b == 10) (part ∷ []) (parts_from 10 part (b ∷ [])) (eq-eqb b 10 e)
line_ends b (next ∷ text) part e = rw e (under (λ parts. part ∷ parts) (get_or (next ∷ text) (length text) 0 == 10) (parts_of 10 (take (length text) (next ∷ text))) (parts_of 10 (next ∷ text)))

-- and any other byte belongs to it
line_goes_on : (b : ℕ) (text part : List ℕ) → (b ≡ 10 → ⊥) → ended part (b ∷ text) ≡ ended (part ++ b ∷ []) text
line_goes_on b [] part ne = rw (ne_eqb b 10 ne) refl
line_goes_on b (next ∷ text) part ne = rw (ne_eqb b 10 ne) refl

pub line_ends_at : (text part : List ℕ) (at : ℕ) → at < length text → get_or text at 0 ≡ 10 → ended part (drop at text) ≡ part ∷ lines_of (drop (at + 1) text)
line_ends_at text part at lt e = ap (ended part) (drop_more text at 0 lt) ∙ line_ends (get_or text at 0) (drop (at + 1) text) part e

pub line_goes_on_at : (text : List ℕ) (at : ℕ) → at < length text → (get_or text at 0 ≡ 10 → ⊥) → ended (take at text) (drop at text) ≡ ended (take (at + 1) text) (drop (at + 1) text)
line_goes_on_at text at lt ne =
    ap (ended (take at text)) (drop_more text at 0 lt) ∙ line_goes_on (get_or text at 0) (drop (at + 1) text) (take at text) ne
    ∙ ap (λ part. ended part (drop (at + 1) text)) (sym (take_more text at 0 lt))

pub lines_ended : (text : List ℕ) → 0 < length text → lines_of text ≡ ended [] text
lines_ended [] h = absurd (omega (arith, h))
lines_ended (b ∷ text) h = refl
