-- Where a list has what is put before a place.
use Rattle.std.specs.Prelude.{ℕ, Option, None, Some}

-- the index of a place, and that of the end where none is named
abbrev pub index_of : Option ℕ → ℕ
index_of None = 1
index_of (Some p) = p
