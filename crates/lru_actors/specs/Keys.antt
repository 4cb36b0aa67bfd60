-- The number by which the row of a key is known.
use Rattle.std.specs.Prelude.{ℕ, List, fold}
use Rattle.std.specs.Hash.FoldHasher.{initial, write, finish}

-- the number of what a key feeds to a hasher
abbrev pub hash_of : List (List ℕ) → ℕ
hash_of input = finish (fold write initial input)
