-- Limits as words.
use Rattle.std.specs.Prelude.{ℕ, ◌-◌, ◌*◌, ◌^◌, ◌==◌, ◌||◌, ◌++◌, ◌∷◌, [], nat_lt, List, length, take, slice_index, unwrap_or, is_some, Option, Some, None, Result, Ok, Err, if◌then◌else◌}
use Rattle.std.specs.List.{list_any}
use Rattle.trace_player_inside.specs.declared.numbers.NumberFault.{NumberFault}
use Rattle.trace_player_inside.specs.declared.numbers.NumberFault.TheVariants as number
use Rattle.trace_player_inside.specs.declared.limits.LimitFault.{LimitFault}
use Rattle.trace_player_inside.specs.declared.limits.LimitFault.TheVariants.{NotNumber, TooLarge, Zero}
use Rattle.trace_player_inside.specs.Numbers.{number_read}

-- how many bytes a unit has: K, M and G, or k, m and g
abbrev pub unit_of : ℕ → Option ℕ
unit_of byte =
    if byte == 75 || byte == 107 then Some 1024
    else (if byte == 77 || byte == 109 then Some 1048576
    else (if byte == 71 || byte == 103 then Some 1073741824 else None))

-- the last byte of a word, 0 of an empty one, which is no unit
abbrev pub last_byte : List ℕ → ℕ
last_byte word = slice_index word (length word - 1)

-- a word without its unit, if it has one
abbrev pub digits_of : List ℕ → List ℕ
digits_of word = if is_some (unit_of (last_byte word)) then take (length word - 1) word else word

-- how many bytes its unit has, 1 without a unit
abbrev pub scale_of : List ℕ → ℕ
scale_of word = unwrap_or (unit_of (last_byte word)) 1

-- a limit of so many units: at least 1 byte, and fewer than 2^64
abbrev pub limit_in : ℕ → ℕ → Result ℕ LimitFault
limit_in n scale = if nat_lt (n * scale) (2 ^ 64) then (if n * scale == 0 then Err Zero else Ok (n * scale)) else Err TooLarge

abbrev pub limit_told : Result ℕ NumberFault → ℕ → Result ℕ LimitFault
limit_told (Ok n) scale = limit_in n scale
limit_told (Err number.TooLarge) scale = Err TooLarge
limit_told (Err number.Missing) scale = Err NotNumber
limit_told (Err number.NotDigits) scale = Err NotNumber

-- the limit that a word is, or else what is wrong with it
abbrev pub limit_read : List ℕ → Result ℕ LimitFault
limit_read word = limit_told (number_read (digits_of word)) (scale_of word)

-- limits with one more, which is taken once
abbrev pub with_limit : List ℕ → ℕ → List ℕ
with_limit limits limit = if list_any (λ other. other == limit) limits then limits else limits ++ limit ∷ []
