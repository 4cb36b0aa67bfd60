-- Numbers of heads, and the bits of a hash that tell its home and those beneath.
use Rattle.std.proofs.Common.{◌≡◌, ℕ, ◌+◌, ◌-◌, ◌*◌, ◌/◌, ◌%◌, ◌^◌, ◌<◌, ◌≤◌, bit_and, bit_or, sym, ap, ◌∙◌, subst, arith}
use Rattle.std.proofs.Math.Nat.{div-lt_iff_lt-mul, mul-div_cancel, mod-lt, div-add-mod, lt-div-mul-add}
use Rattle.std.specs.Prelude.{bit_xor}
use Rattle.std.proofs.Math.Pow.{pow_mono}
use Rattle.std.proofs.lemmas.Nat.{pow-add, pow_pos, field_of, shr-shr, and_mask, xor_shr, or_shifted}
use Rattle.std.specs.Int.Bits.{xor_self}
use Rattle.lru_index.specs.Representation.Cells.{IsPower, IsScale, home_of, rest_bits}

-- the top bits of a hash are below the number of heads
pub top_bits : (hash shift : ℕ) → hash < 2 ^ 64 → shift ≤ 63 → hash / 2 ^ shift < 2 ^ (64 - shift)
top_bits hash shift small most =
    let e : 64 ≡ (64 - shift) + shift = omega (arith, most) in
    let whole = ap (λ n. 2 ^ n) e ∙ pow-add 2 (64 - shift) shift in
    (div-lt_iff_lt-mul (pow_pos shift)).1 (subst (λ n. hash < n) whole small)

-- ---- the low bits of a cell, which hold its place
module _ (heads : ℕ) (power : IsPower heads) where
  twice : 2 * heads ≡ 2 ^ (power.0 + 1)
  twice = omega (arith, ap (λ n. 2 * n) power.1, pow-add 2 power.0 1)

  pub power_some : 0 < heads
  power_some = subst (λ n. 0 < n) (sym power.1) (pow_pos power.0)

  pub masked : (cell mask : ℕ) → mask ≡ 2 * heads - 1 → bit_and cell mask ≡ cell % (2 * heads)
  masked cell mask e =
      ap (bit_and cell) (e ∙ ap (λ n. n - 1) twice) ∙ and_mask cell (power.0 + 1) ∙ ap (λ n. cell % n) (sym twice)

  -- what differs in the low bits alone is as small as they
  pub differ_low : (cell bits : ℕ) → cell / (2 * heads) ≡ bits / (2 * heads) → bit_xor cell bits ≤ 2 * heads - 1
  differ_low cell bits same =
      let w = 2 ^ (power.0 + 1) in
      let equal : cell / w ≡ bits / w = ap (λ n. cell / n) (sym twice) ∙ same ∙ ap (λ n. bits / n) twice in
      let none : bit_xor cell bits / w ≡ 0 = xor_shr cell bits (power.0 + 1) ∙ ap (λ n. bit_xor n (bits / w)) equal ∙ xor_self (bits / w) in
      let below : bit_xor cell bits < bit_xor cell bits / w * w + w = lt-div-mul-add (pow_pos (power.0 + 1)) in
      let small : bit_xor cell bits < 0 * w + w = subst (λ n. bit_xor cell bits < n * w + w) none below in
      omega (arith, small, twice)

  pub bits_kept : (bits low place : ℕ) → low ≡ bits % (2 * heads) → place < 2 * heads → bit_or (bits - low) place ≡ bits / (2 * heads) * (2 * heads) + place
  bits_kept bits low place e narrow =
      let w = 2 ^ (power.0 + 1) in
      let high : bits - low ≡ bits / w * w = omega (arith, e ∙ ap (λ n. bits % n) twice, div-add-mod bits w) in
      ap (λ n. bit_or n place) high ∙ or_shifted (bits / w) (power.0 + 1) place (subst (λ n. place < n) twice narrow)
      ∙ ap (λ n. bits / n * n + place) (sym twice)

-- a product by a power is shifted back
back : (hash k j : ℕ) → hash * 2 ^ k / 2 ^ (k + j) ≡ hash / 2 ^ j
back hash k j = sym (shr-shr (hash * 2 ^ k) k j) ∙ ap (λ n. n / 2 ^ j) (mul-div_cancel hash (pow_pos k))

module _ (heads shift : ℕ) (scale : IsScale heads shift) where
  pub power_is : IsPower heads
  power_is = (64 - shift, scale.power)

  pub heads_few : heads ≤ 2147483648
  heads_few = omega (arith, scale.power, pow_mono {i = 64 - shift} {j = 31} (omega (arith, scale.least)))

  pub heads_some : 0 < heads
  heads_some = subst (λ n. 0 < n) (sym scale.power) (pow_pos (64 - shift))

  -- the home of a hash is its top bits
  pub home_by : (hash : ℕ) → hash * heads / 2 ^ 64 ≡ home_of shift hash
  home_by hash =
      let all : 64 ≡ (64 - shift) + shift = omega (arith, scale.most) in
      ap (λ n. hash * n / 2 ^ 64) scale.power ∙ ap (λ n. hash * 2 ^ (64 - shift) / 2 ^ n) all ∙ back hash (64 - shift) shift

  pub home_low : (hash : ℕ) → hash < 2 ^ 64 → home_of shift hash < heads
  home_low hash small = subst (λ n. hash / 2 ^ shift < n) (sym scale.power) (top_bits hash shift small scale.most)

  -- and its bits are those beneath
  pub bits_by : (hash : ℕ) → hash * heads / 2 ^ 32 % 2 ^ 32 / (2 * heads) ≡ rest_bits shift hash
  bits_by hash =
      let k = 64 - shift in
      let low : 32 ≡ k + (shift - 32) = omega (arith, scale.least, scale.most) in
      let high : 32 ≡ (shift - 33) + (k + 1) = omega (arith, scale.least, scale.most) in
      let part : hash * heads / 2 ^ 32 ≡ hash / 2 ^ (shift - 32) = ap (λ n. hash * n / 2 ^ 32) scale.power ∙ ap (λ n. hash * 2 ^ k / 2 ^ n) low ∙ back hash k (shift - 32) in
      let twice : 2 * heads ≡ 2 ^ (k + 1) = omega (arith, ap (λ n. 2 * n) scale.power, pow-add 2 k 1) in
      let all : (shift - 32) + (k + 1) ≡ 33 = omega (arith, scale.least, scale.most) in
      ap (λ n. n % 2 ^ 32 / (2 * heads)) part ∙ ap (λ n. hash / 2 ^ (shift - 32) % 2 ^ 32 / n) twice
      ∙ ap (λ n. hash / 2 ^ (shift - 32) % 2 ^ n / 2 ^ (k + 1)) high ∙ field_of (hash / 2 ^ (shift - 32)) (shift - 33) (k + 1)
      ∙ ap (λ n. n % 2 ^ (shift - 33)) (shr-shr hash (shift - 32) (k + 1) ∙ ap (λ n. hash / 2 ^ n) all)

  pub bits_small : (hash : ℕ) → rest_bits shift hash < 2 ^ (shift - 33)
  bits_small hash = mod-lt (hash / 2 ^ 33) (pow_pos (shift - 33))

  -- home and bits together are all bits but 33
  pub joined : (hash : ℕ) → home_of shift hash * 2 ^ (shift - 33) + rest_bits shift hash ≡ hash / 2 ^ 33
  joined hash =
      let all : shift ≡ 33 + (shift - 33) = omega (arith, scale.least) in
      let top : hash / 2 ^ shift ≡ hash / 2 ^ 33 / 2 ^ (shift - 33) = ap (λ n. hash / 2 ^ n) all ∙ sym (shr-shr hash 33 (shift - 33)) in
      ap (λ n. n * 2 ^ (shift - 33) + rest_bits shift hash) top ∙ whole (hash / 2 ^ 33) (2 ^ (shift - 33))
    where
      whole : (n m : ℕ) → n / m * m + n % m ≡ n
      whole n m = omega (arith, div-add-mod n m)

  pub home_part : (hash : ℕ) → hash / 2 ^ 33 / 2 ^ (shift - 33) ≡ home_of shift hash
  home_part hash = shr-shr hash 33 (shift - 33) ∙ ap (λ n. hash / 2 ^ n) (omega (arith, scale.least))
