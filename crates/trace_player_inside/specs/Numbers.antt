-- Words that are to be numbers.
use Rattle.std.specs.Prelude.{ℕ, ◌==◌, List, length, Option, Some, None, Result, Ok, Err, if◌then◌else◌}
use Rattle.std.specs.List.{list_all}
use Rattle.lru_lines.specs.Lines.{is_digit, number_of}
use Rattle.trace_player_inside.specs.declared.numbers.NumberFault.{NumberFault}
use Rattle.trace_player_inside.specs.declared.numbers.NumberFault.TheVariants.{Missing, NotDigits, TooLarge}

-- what is wrong with a word that is no number: it is empty, or all its bytes are digits and it is too large, or one is none
abbrev pub number_fault : List ℕ → NumberFault
number_fault word = if length word == 0 then Missing else (if list_all is_digit word then TooLarge else NotDigits)

abbrev pub told_of : List ℕ → Option ℕ → Result ℕ NumberFault
told_of word (Some n) = Ok n
told_of word None = Err (number_fault word)

-- the number that a word is, or else what is wrong with it
abbrev pub number_read : List ℕ → Result ℕ NumberFault
number_read word = told_of word (number_of word)
