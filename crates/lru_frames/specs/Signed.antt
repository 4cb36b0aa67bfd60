-- Numbers below zero and numbers of 16 bytes as they stand in a file.
use Rattle.std.specs.Prelude.{ℕ, ℤ, ◌/◌, ◌%◌, ◌^◌, List, ◌++◌}
use Rattle.std.specs.Int.{w64, w128, cast_unsigned}
use Rattle.lru_frames.specs.Words.{word}

-- a number that may be below zero in 8 bytes, as the number of two's complement
abbrev pub signed_word : ℤ → List ℕ
signed_word number = word (cast_unsigned w64 number)

-- a number in 16 bytes, the lowest first
abbrev pub wide_word : ℕ → List ℕ
wide_word number = word (number % 2 ^ 64) ++ word (number / 2 ^ 64)

-- one that may be below zero
abbrev pub signed_wide : ℤ → List ℕ
signed_wide number = wide_word (cast_unsigned w128 number)
