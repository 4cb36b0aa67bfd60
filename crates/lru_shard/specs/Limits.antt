-- The limits of a sharded order: on the weight of each shard, on the weight of all rows, and on their number.
use Rattle.std.specs.Prelude.{ℕ, ◌/◌, Bool, false, ◌||◌, nat_lt, Option, Some, None}

-- the cap on the weight of each of n shards, so that their sum is a number of 64 bits
abbrev pub cap_of : ℕ → ℕ
cap_of n = 18446744073709551615 / n

-- a length above a watermark, if there is one
abbrev pub is_above : ℕ → Option ℕ → Bool
is_above n None = false
is_above n (Some most) = nat_lt most n

-- a weight above its limit, or a length above the watermark
abbrev pub is_past : ℕ → Option ℕ → ℕ → ℕ → Bool
is_past limit watermark weight len = nat_lt limit weight || is_above len watermark
