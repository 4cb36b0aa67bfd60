-- What is read of a line, with what is wrong with it left out, is its request, if it has one.
use Rattle.std.proofs.Common.{Bool, Err, List, None, Ok, Some, [], ap, false, length, refl, sym, true, ℕ, ◌++◌, ◌∙◌, ◌∷◌, ◌≡◌}
use Rattle.std.specs.Prelude.{IsUtf8, MatchResult, Option, Result, if◌then◌else◌, is_some, option_map, ◌==◌}
use Rattle.std.specs.Result.{result_ok, is_ok}
use Rattle.std.specs.Str.{is_utf8}
use Rattle.std.proofs.lemmas.Bool.{false_from_ne_true, cond_both}
use Rattle.std.proofs.lemmas.Str.{IsUtf8-from_is_utf8, is_utf8-from_IsUtf8}
use Rattle.lru_lines.specs.Lines.{number_of, parts_from, parts_behind, now_of}
use Rattle.std.specs.Borrow.{Bor}
use Rattle.trace_player_inside.specs.declared.player.Request.{Request}
use Rattle.trace_player_inside.specs.declared.numbers.NumberFault.{NumberFault}
use Rattle.trace_player_inside.specs.declared.requests.LineFault.{LineFault}
use Rattle.trace_player_inside.specs.declared.requests.LineFault.TheVariants.{TooMany}
use Rattle.trace_player_inside.specs.Numbers.{told_of, number_read}
use Rattle.trace_player_inside.specs.TraceLines.{word_of, behind, requested_by, requested, request_in, of_numbers, of_fields, words_read, told_as_text, request_read, of_cells}
use Rattle.trace_player_inside.specs.declared.requests.Format.TheVariants.{Words}

-- what the validation of a text answers is whether it is UTF-8
pub text_test : {T E : Type 0} (r : Result T E) (bytes : List ℕ) (P : T → Type 0) (Q : E → Type 0)
    → ((x : T) → P x → IsUtf8 bytes) → ((e : E) → Q e → IsUtf8 bytes → ⊥) → MatchResult r P Q → is_ok r ≡ is_utf8 bytes
text_test (Ok x) bytes P Q good bad h = sym (is_utf8-from_IsUtf8 bytes (good x h))
text_test (Err e) bytes P Q good bad h = sym (false_from_ne_true (is_utf8 bytes) (λ t. bad e h (IsUtf8-from_is_utf8 bytes t)))

ok_told : (word : List ℕ) (o : Option ℕ) → result_ok (told_of word o) ≡ o
ok_told word (Some n) = refl
ok_told word None = refl

ok_numbers : (key size : Result ℕ NumberFault) → result_ok (of_numbers key size) ≡ requested_by (result_ok key) (result_ok size)
ok_numbers (Ok key) (Ok size) = refl
ok_numbers (Ok key) (Err fault) = refl
ok_numbers (Err fault) size = refl

pub ok_fields : (key size : List ℕ) → result_ok (of_fields key size) ≡ requested key size
ok_fields key size =
    ok_numbers (number_read key) (number_read size)
    ∙ ap (λ k. requested_by k (result_ok (number_read size))) (ok_told key (number_of key))
    ∙ ap (λ s. requested_by (number_of key) s) (ok_told size (number_of size))

of_three : (a b : Bool) (x y : Result Request LineFault) (p q : Option Request) → result_ok x ≡ p → result_ok y ≡ q
    → result_ok (if a then x else (if b then y else Err TooMany)) ≡ (if a then p else (if b then q else None))
of_three true b x y p q e f = e
of_three false true x y p q e f = f
of_three false false x y p q e f = refl

ok_words : (line : List ℕ) → result_ok (words_read line) ≡ request_in line
ok_words line =
    of_three (length (word_of (behind (behind line))) == 0) (length (word_of (behind (behind (behind line)))) == 0) _ _ _ _
    (ok_fields (word_of line) (word_of (behind line))) (ok_fields (word_of (behind line)) (word_of (behind (behind line))))

ok_text : (line : List ℕ) (r : Result Request LineFault) → result_ok (told_as_text line r) ≡ result_ok r
ok_text line (Ok request) = refl
ok_text line (Err fault) = refl

pub ok_read : (line : List ℕ) → result_ok (request_read Words line) ≡ request_in line
ok_read line = ok_text line (words_read line) ∙ ok_words line

-- a row of more than three cells
too_many : (time key size : List ℕ) (s : ℕ) (part text : List ℕ) → of_cells (time ∷ key ∷ size ∷ parts_from s part text) ≡ Err TooMany
too_many time key size s part [] = refl
too_many time key size s part (b ∷ text) =
    cond_both (b == s) (part ∷ parts_from s [] text) (parts_from s (part ++ b ∷ []) text) (λ parts. of_cells (time ∷ key ∷ size ∷ parts) ≡ Err TooMany)
    (λ _. refl) (λ _. too_many time key size s (part ++ b ∷ []) text)

pub four_cells : (time key size : List ℕ) (rest : Option (Bor (List ℕ))) → is_some rest ≡ true
    → of_cells (time ∷ key ∷ size ∷ parts_behind 44 (option_map now_of rest)) ≡ Err TooMany
four_cells time key size None e = cc
four_cells time key size (Some text) e = too_many time key size 44 [] text.now
