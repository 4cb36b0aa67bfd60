-- A window of bytes that stands for a state. The polynomial divides one of ten terms, each a whole number of bytes from the first one:
-- so a byte may be taken away where it is added at nine places behind it.
use Rattle.std.specs.Prelude.{ℕ, ◌+◌, bit_xor, slice_index, List, [], ◌∷◌, take}
use Rattle.std.specs.List.{fold}
use Rattle.lru_frames.specs.Crc.{step}

-- of the ten terms all but the first and the last one, in bytes from the first one
abbrev pub places : List ℕ
places = 281 ∷ 305 ∷ 424 ∷ 496 ∷ 773 ∷ 937 ∷ 983 ∷ 991 ∷ []

-- a sum and the bytes at these places behind the start
abbrev pub sum_at : List ℕ → List ℕ → ℕ → ℕ → ℕ
sum_at [] bytes start sum = sum
sum_at (n ∷ ns) bytes start sum = sum_at ns bytes start (bit_xor sum (slice_index bytes (start + n)))

-- the sum of the states after so many bytes of a window
abbrev pub sum_of_starts : List ℕ → List ℕ → ℕ
sum_of_starts [] window = 0
sum_of_starts (n ∷ ns) window = bit_xor (fold step 0 (take n window)) (sum_of_starts ns window)

-- the state that a window stands for
unfoldable pub state_of : List ℕ → ℕ
state_of window = bit_xor (fold step 0 window) (sum_of_starts places window)
