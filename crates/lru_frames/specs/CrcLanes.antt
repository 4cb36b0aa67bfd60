-- Four words that are divided side by side.
use Rattle.std.specs.Prelude.{ℕ, bit_xor}
use Rattle.lru_frames.specs.Crc.{bit_steps}

-- the state after four words
abbrev pub joined : ℕ → ℕ → ℕ → ℕ → ℕ
joined first second third fourth = bit_steps 64 (bit_xor (bit_steps 64 (bit_xor (bit_steps 64 (bit_xor (bit_steps 64 first) second)) third)) fourth)
