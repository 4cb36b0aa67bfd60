-- Sums without carry.
use Rattle.std.proofs.Common.{◌≡◌, ℕ, ◌+◌, ◌-◌, ◌*◌, ◌%◌, ◌^◌, ◌<◌, sym, ap, ◌∙◌, arith}
use Rattle.std.specs.Prelude.{bit_xor}
use Rattle.std.specs.Int.{bit_at, w64}
use Rattle.std.specs.Int.Bits.{xor_self, xor_zero_l, xor_zero_r}
use Rattle.std.proofs.lemmas.Nat.{xor_comm, xor_lt, xor_block}
use Rattle.std.proofs.lemmas.Nat.Bits.{bit_at_xor, bit_at_ones, bit_at_not, bit_at-lt, same_from_bits, same_from_bits_below}

parity : (a b c : ℕ) → ((a + b) % 2 + c) % 2 ≡ (a + (b + c) % 2) % 2
parity a b c = omega arith

pub xor_assoc : (a b c : ℕ) → bit_xor (bit_xor a b) c ≡ bit_xor a (bit_xor b c)
xor_assoc a b c =
    same_from_bits (bit_xor (bit_xor a b) c) (bit_xor a (bit_xor b c)) (λ i.
    bit_at_xor (bit_xor a b) c i ∙ ap (λ x. (x + bit_at c i) % 2) (bit_at_xor a b i)
    ∙ parity (bit_at a i) (bit_at b i) (bit_at c i)
    ∙ ap (λ x. (bit_at a i + x) % 2) (sym (bit_at_xor b c i)) ∙ sym (bit_at_xor a (bit_xor b c) i))

-- what is added twice is not there
pub xor_twice : (a b : ℕ) → bit_xor (bit_xor a b) b ≡ a
xor_twice a b = xor_assoc a b b ∙ ap (bit_xor a) (xor_self b) ∙ xor_zero_r a

pub same_xor : (a b c : ℕ) → bit_xor a c ≡ bit_xor b c → a ≡ b
same_xor a b c h = sym (xor_twice a c) ∙ ap (λ x. bit_xor x c) h ∙ xor_twice b c

pub same_xor_left : (a b c : ℕ) → bit_xor c a ≡ bit_xor c b → a ≡ b
same_xor_left a b c h = same_xor a b c (xor_comm a c ∙ h ∙ xor_comm c b)

-- numbers whose sum is nothing
pub xor_nothing : (a b : ℕ) → bit_xor a b ≡ 0 → a ≡ b
xor_nothing a b h = same_xor a b b (h ∙ sym (xor_self b))

pub xor_four : (a b c d : ℕ) → bit_xor (bit_xor a b) (bit_xor c d) ≡ bit_xor (bit_xor a c) (bit_xor b d)
xor_four a b c d =
    xor_assoc a b (bit_xor c d) ∙ ap (bit_xor a) (sym (xor_assoc b c d) ∙ ap (λ x. bit_xor x d) (xor_comm b c) ∙ xor_assoc c b d)
    ∙ sym (xor_assoc a c (bit_xor b d))

-- a byte below others
pub low_byte : (low high : ℕ) → low < 2 ^ 8 → low + high * 2 ^ 8 ≡ bit_xor low (high * 2 ^ 8)
low_byte low high h =
    let e : bit_xor (high * 2 ^ 8 + 0) (0 * 2 ^ 8 + low) ≡ bit_xor high 0 * 2 ^ 8 + bit_xor 0 low = xor_block 8 high 0 0 low (omega arith) h in
    let one : high * 2 ^ 8 + 0 ≡ high * 2 ^ 8 = omega arith in
    let two : 0 * 2 ^ 8 + low ≡ low = omega arith in
    let sum : high * 2 ^ 8 + low ≡ low + high * 2 ^ 8 = omega arith in
    sym (xor_comm low (high * 2 ^ 8) ∙ ap (λ x. bit_xor x low) (sym one) ∙ ap (bit_xor (high * 2 ^ 8 + 0)) (sym two) ∙ e
    ∙ ap (λ x. x * 2 ^ 8 + bit_xor 0 low) (xor_zero_r high) ∙ ap (λ x. high * 2 ^ 8 + x) (xor_zero_l low) ∙ sum)

one_of : (bit : ℕ) → bit < 2 → (bit + (1 - bit)) % 2 ≡ 1
one_of bit h = omega arith

-- a number and the same with each bit turned
pub xor_turned : (n : ℕ) → n < 2 ^ 64 → bit_xor n (2 ^ 64 - 1 - n) ≡ 2 ^ 64 - 1
xor_turned n h =
    same_from_bits_below 64 (bit_xor n (2 ^ 64 - 1 - n)) (2 ^ 64 - 1) (xor_lt 64 n (2 ^ 64 - 1 - n) h (omega arith)) (omega arith) (λ i lt.
    bit_at_xor n (2 ^ 64 - 1 - n) i ∙ ap (λ x. (bit_at n i + x) % 2) (bit_at_not w64 n i h lt)
    ∙ one_of (bit_at n i) (bit_at-lt n i) ∙ sym (bit_at_ones 64 i lt))
