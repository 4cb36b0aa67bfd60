-- CRC-64, as the format xz has it: what is left of bytes that are divided by a polynomial over two values, bit by bit.
use Rattle.std.specs.Prelude.{ℕ, zero, suc, ◌-◌, ◌*◌, ◌/◌, ◌%◌, ◌^◌, bit_xor, List}
use Rattle.std.specs.List.{fold}

-- the polynomial of ECMA-182, its lowest power at the highest bit and without the power of 64
abbrev pub polynomial : ℕ
polynomial = 0xC96C5795D7870F42

-- one bit: the state is halved, and the polynomial taken off where the lowest bit was 1
unfoldable pub bit_step : ℕ → ℕ
bit_step state = bit_xor (state / 2) (state % 2 * polynomial)

-- so many bits
unfoldable pub bit_steps : ℕ → ℕ → ℕ
bit_steps zero state = state
bit_steps (suc bits) state = bit_steps bits (bit_step state)

-- one byte: the low 8 bits of a number
unfoldable pub step : ℕ → ℕ → ℕ
step state byte = bit_steps 8 (bit_xor state (byte % 2 ^ 8))

-- the state before the first byte, where all bits are 1
abbrev pub all_ones : ℕ
all_ones = 2 ^ 64 - 1

-- the check of all bytes: the last state with each bit turned
unfoldable pub crc_of : List ℕ → ℕ
crc_of bytes = all_ones - fold step all_ones bytes

-- the check of any bytes and their check behind them
abbrev pub residue : ℕ
residue = 0xB66A73654282CAC0
