-- Numbers and bytes as they stand in a file.
use Rattle.std.specs.Prelude.{ℕ, Bool, true, false, List, ◌++◌, length}
use Rattle.std.specs.Int.{w64, to_le_bytes}

-- a number in 8 bytes, the lowest first
unfoldable pub word : ℕ → List ℕ
word number = to_le_bytes w64 number

-- bytes behind their count
abbrev pub counted : List ℕ → List ℕ
counted text = word (length text) ++ text

-- the number of a truth
abbrev pub truth : Bool → ℕ
truth false = 0
truth true = 1
