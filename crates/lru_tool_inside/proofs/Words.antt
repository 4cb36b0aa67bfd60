-- More than five words are no command.
use Rattle.std.proofs.Common.{◌≡◌, ℕ, ◌≤◌, true, eqb, List, [], ◌∷◌, ◌++◌, length, Some, None, refl, arith}
use Rattle.std.specs.Prelude.{Option, is_some, option_map}
use Rattle.std.specs.Borrow.{Bor}
use Rattle.std.proofs.lemmas.Bool.{cond_both}
use Rattle.lru_lines.specs.Lines.{parts_from, parts_behind, now_of}
use Rattle.lru_tool_inside.specs.Commands.{of_words}

-- a text has a part
some_part : (s : ℕ) (part text : List ℕ) → 1 ≤ length (parts_from s part text)
some_part s part [] = omega arith
some_part s part (b ∷ text) =
    cond_both (eqb b s) (part ∷ parts_from s [] text) (parts_from s (part ++ b ∷ []) text) (λ parts. 1 ≤ length parts) (λ _. omega arith) (λ _. some_part s (part ++ b ∷ []) text)

some_behind : (s : ℕ) (rest : Option (Bor (List ℕ))) → is_some rest ≡ true → 1 ≤ length (parts_behind s (option_map now_of rest))
some_behind s None e = cc
some_behind s (Some text) e = some_part s [] text.now

too_many : (name a b c most : List ℕ) (rest : List (List ℕ)) → 1 ≤ length rest → of_words (name ∷ a ∷ b ∷ c ∷ most ∷ rest) ≡ None
too_many name a b c most [] h = absurd (omega (arith, h))
too_many name a b c most (word ∷ rest) h = refl

pub six_words : (name a b c most : List ℕ) (rest : Option (Bor (List ℕ))) → is_some rest ≡ true → of_words (name ∷ a ∷ b ∷ c ∷ most ∷ parts_behind 32 (option_map now_of rest)) ≡ None
six_words name a b c most rest e = too_many name a b c most (parts_behind 32 (option_map now_of rest)) (some_behind 32 rest e)
