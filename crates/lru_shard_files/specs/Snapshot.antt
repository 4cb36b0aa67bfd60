-- The rows of a shard as bytes, and the bytes as rows again.
use Rattle.std.specs.Prelude.{ℕ, ◌/◌, List, ◌++◌, length, map, take, drop}
use Rattle.std.specs.List.{flat_map}
use Rattle.std.specs.Int.{w64, to_le_bytes, from_le_bytes}
use Rattle.std.specs.Simd.{first_chunks}
use Rattle.lru_shard_files.specs.declared.snapshot.Keyed.{Keyed}

-- a row as 24 bytes: the key that its data tell, its value and its weight, each with the lowest byte first
abbrev pub pair_bytes : Keyed × ℕ → List ℕ
pair_bytes pair = to_le_bytes w64 pair.0.key ++ (to_le_bytes w64 pair.0.value ++ to_le_bytes w64 pair.1)

-- the bytes of all rows, in order
abbrev pub bytes_of : List (Keyed × ℕ) → List ℕ
bytes_of pairs = flat_map pair_bytes pairs

-- the number in 8 bytes from a place on
abbrev pub number_at : ℕ → List ℕ → ℕ
number_at place bytes = from_le_bytes w64 (take 8 (drop place bytes))

-- the row in 24 bytes
abbrev pub pair_in : List ℕ → Keyed × ℕ
pair_in bytes = (record { key = number_at 0 bytes; value = number_at 8 bytes }, number_at 16 bytes)

-- the rows in the bytes, 24 bytes each
abbrev pub pairs_of : List ℕ → List (Keyed × ℕ)
pairs_of bytes = map pair_in (first_chunks 24 (length bytes / 24) bytes)
