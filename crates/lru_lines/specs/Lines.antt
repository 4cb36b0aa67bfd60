-- Numbers, words and lines of an input.
use Rattle.std.specs.Prelude.{ℕ, ◌+◌, ◌-◌, ◌*◌, ◌==◌, ◌&&◌, Bool, nat_le, List, [], ◌∷◌, ◌++◌, length, take, fold, codes, slice_index_or, Option, Some, None, option_map, if◌then◌else◌}
use Rattle.std.specs.List.{list_all}
use Rattle.std.specs.Str.{bytes_eq}
use Rattle.std.specs.Borrow.{Bor}

abbrev pub is_digit : ℕ → Bool
is_digit byte = nat_le 48 byte && nat_le byte 57

-- the number that these digits write
abbrev pub value_of : List ℕ → ℕ
value_of digits = fold (λ n byte. n * 10 + (byte - 48)) 0 digits

-- a word that is a number: 1 to 20 decimal digits, at most 18446744073709551615
abbrev pub number_of : List ℕ → Option ℕ
number_of word =
    if nat_le 1 (length word) && nat_le (length word) 20 && list_all is_digit word && nat_le (value_of word) 18446744073709551615 then Some (value_of word) else None

-- a number, or `-` for none
abbrev pub most_of : List ℕ → Option (Option ℕ)
most_of word = if bytes_eq word (codes "-") then Some None else option_map (λ n. Some n) (number_of word)

-- the parts of a text between the bytes that are this one, where the first part begins so
abbrev pub parts_from : ℕ → List ℕ → List ℕ → List (List ℕ)
parts_from s part [] = part ∷ []
parts_from s part (b ∷ text) = if b == s then part ∷ parts_from s [] text else parts_from s (part ++ b ∷ []) text

-- the parts of a text between the bytes that are this one; at least one part
abbrev pub parts_of : ℕ → List ℕ → List (List ℕ)
parts_of s text = parts_from s [] text

-- the parts of what stands behind a part, if anything does
abbrev pub parts_behind : ℕ → Option (List ℕ) → List (List ℕ)
parts_behind s None = []
parts_behind s (Some text) = parts_of s text

-- the lines of an input: each ends at byte 10, which the last one may lack
abbrev pub lines_of : List ℕ → List (List ℕ)
lines_of [] = []
lines_of (b ∷ text) =
    if slice_index_or (b ∷ text) (length text) 0 == 10 then parts_of 10 (take (length text) (b ∷ text)) else parts_of 10 (b ∷ text)

-- what a slice holds
abbrev pub now_of : Bor (List ℕ) → List ℕ
now_of x = x.now
