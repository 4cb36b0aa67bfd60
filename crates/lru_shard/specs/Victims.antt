-- Which of two shards gives up a row.
use Rattle.std.specs.Prelude.{ℕ, nat_le, if◌then◌else◌}

-- the longer one, or the first where they are as long
abbrev pub longer_of : ℕ → ℕ → ℕ → ℕ → ℕ
longer_of a b len_a len_b = if nat_le len_b len_a then a else b
