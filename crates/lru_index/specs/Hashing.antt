-- The hash of a key: what a hasher makes of the bytes that the key writes.
use Rattle.std.specs.Prelude.{ℕ, zero, suc, ◌+◌, ◌-◌, ◌*◌, ◌/◌, ◌%◌, ◌^◌, List, length, slice_index, nat_le, nat_lt, bit_or, bit_xor, if◌then◌else◌}
use Rattle.std.specs.Int.{w64, rotate_left}
use Rattle.std.specs.List.{fold}
use Rattle.std.specs.declared.hash.Hasher as hasher
use Rattle.std.specs.declared.hash.BuildHasher as builder
use Rattle.lru_index.specs.declared.hashing.SeededHasher.{SeededHasher}

-- what `hash_one` answers for a key that makes these writes
unfoldable pub hash_by : {S H : Type 0} → builder.Ghosts S H → hasher.Ghosts H → S → List (List ℕ) → ℕ
hash_by b h s writes = h.finish (fold h.write (b.build_hasher s) writes)

-- the hash of each key, by the writes that it makes
abbrev pub key_hash : {S H K : Type 0} → builder.Ghosts S H → hasher.Ghosts H → (K → List (List ℕ)) → S → K → ℕ
key_hash b h input s k = hash_by b h s (input k)

-- ---- numbers of bytes
-- n bytes from the i-th on as one number, the lowest first
unfoldable pub number_at : List ℕ → ℕ → ℕ → ℕ
number_at bytes i zero = 0
number_at bytes i (suc n) = slice_index bytes i + 256 * number_at bytes (i + 1) n

-- at most eight bytes as one word: the first four and the last four, or of up to three the first, the middle one and the last
unfoldable pub short_word : List ℕ → ℕ
short_word bytes =
    let n = length bytes in
    if nat_le 4 n then number_at bytes 0 4 + 2 ^ 32 * number_at bytes (n - 4) 4
    else (if nat_lt 0 n then slice_index bytes 0 + 256 * slice_index bytes (n / 2) + 65536 * slice_index bytes (n - 1) else 0)

-- ---- a seeded hasher
-- the two halves of a product of 128 bits, joined
unfoldable pub folded_multiply : ℕ → ℕ → ℕ
folded_multiply a b = bit_xor (a * b % 2 ^ 64) (a * b / 2 ^ 64)

-- after two words: each is joined to a number that the seed decides, and the two are multiplied
unfoldable pub mixed : SeededHasher → ℕ → ℕ → SeededHasher
mixed h a b = record h { state = folded_multiply (bit_xor h.state a) ((h.multiplier + b) % 2 ^ 64) }

-- before n bytes: the state is turned by as many bits, less 8
unfoldable pub turned : SeededHasher → ℕ → SeededHasher
turned h n = record h { state = rotate_left w64 h.state (n + 56) }

-- after the first n blocks of 16 bytes, two words each
unfoldable pub blocks_mixed : SeededHasher → List ℕ → ℕ → SeededHasher
blocks_mixed h bytes zero = h
blocks_mixed h bytes (suc n) = mixed (blocks_mixed h bytes n) (number_at bytes (16 * n) 8) (number_at bytes (16 * n + 8) 8)

-- after two words of a number, each of which goes into both factors
unfoldable pub mixed_across : SeededHasher → ℕ → ℕ → SeededHasher
mixed_across h a b = let sum = (a + b) % 2 ^ 64 in mixed h (bit_xor a (rotate_left w64 sum 32)) sum

-- after a write: of up to eight bytes their word, of up to sixteen the first eight and the last eight, else all blocks that
-- have bytes behind them, and then the last sixteen
unfoldable pub written : SeededHasher → List ℕ → SeededHasher
written h bytes =
    let n = length bytes in
    let start = turned h n in
    if nat_le n 8 then mixed start (short_word bytes) (short_word bytes)
    else (if nat_le n 16 then mixed_across start (number_at bytes 0 8) (number_at bytes (n - 8) 8)
    else mixed (blocks_mixed start bytes ((n - 1) / 16)) (number_at bytes (n - 16) 8) (number_at bytes (n - 8) 8))

-- ---- seeds
-- a number whose bits each hang on all bits of the one that is given, the last step of the generator SplitMix64
unfoldable pub spread : ℕ → ℕ
spread z =
    let a = bit_xor z (z / 2 ^ 30) * 0xbf58476d1ce4e5b9 % 2 ^ 64 in
    let b = bit_xor a (a / 2 ^ 27) * 0x94d049bb133111eb % 2 ^ 64 in
    bit_xor b (b / 2 ^ 31)

-- the n-th number that SplitMix64 draws from a seed
abbrev pub drawn : ℕ → ℕ → ℕ
drawn seed n = spread ((seed + n * 0x9e3779b97f4a7c15 % 2 ^ 64) % 2 ^ 64)

-- the hasher of a seed: its first two draws, the second made odd
unfoldable pub seeded : ℕ → SeededHasher
seeded seed = record { state = drawn seed 1; multiplier = bit_or (drawn seed 2) 1 }

-- the hasher of no seed: digits of pi and of the golden ratio
unfoldable pub unseeded : SeededHasher
unseeded = record { state = 0x243f6a8885a308d3; multiplier = 0x9e3779b97f4a7c15 }
