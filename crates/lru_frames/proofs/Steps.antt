-- Steps of one bit are linear, and no two states below 2 ^ 64 have the same next one.
use Rattle.std.proofs.Common.{◌≡◌, ℕ, zero, suc, ◌+◌, ◌*◌, ◌/◌, ◌%◌, ◌^◌, ◌<◌, refl, sym, ap, ◌∙◌, arith}
use Rattle.std.specs.Prelude.{bit_xor}
use Rattle.std.specs.Int.Bits.{xor_self, xor_zero_r}
use Rattle.std.proofs.lemmas.Nat.{xor_lt, xor_shr, xor_mod}
use Rattle.std.proofs.Math.Nat.{pow-suc, mul_assoc}
use Rattle.lru_frames.specs.Crc.{polynomial, bit_step, bit_steps}
use Rattle.lru_frames.proofs.Xors.{xor_assoc, xor_four, xor_nothing, low_byte}

-- the polynomial so often as two bits have it
parts : (i j : ℕ) → i < 2 → j < 2 → bit_xor i j * polynomial ≡ bit_xor (i * polynomial) (j * polynomial)
parts zero zero p q = refl
parts zero (suc zero) p q = refl
parts (suc zero) zero p q = refl
parts (suc zero) (suc zero) p q = refl
parts (suc (suc i)) j p q = absurd (omega arith)
parts i (suc (suc j)) p q = absurd (omega arith)

pub bit_step-xor : (a b : ℕ) → bit_step (bit_xor a b) ≡ bit_xor (bit_step a) (bit_step b)
unfolding bit_step
bit_step-xor a b =
    let low : bit_xor a b % 2 ≡ bit_xor (a % 2) (b % 2) = xor_mod a b 1 in
    ap (λ x. bit_xor x (bit_xor a b % 2 * polynomial)) (xor_shr a b 1)
    ∙ ap (λ x. bit_xor (bit_xor (a / 2) (b / 2)) (x * polynomial)) low
    ∙ ap (bit_xor (bit_xor (a / 2) (b / 2))) (parts (a % 2) (b % 2) (omega arith) (omega arith))
    ∙ xor_four (a / 2) (b / 2) (a % 2 * polynomial) (b % 2 * polynomial)

pub bit_step-lt : (s : ℕ) → s < 2 ^ 64 → bit_step s < 2 ^ 64
unfolding bit_step
bit_step-lt s h = xor_lt 64 (s / 2) (s % 2 * polynomial) (omega arith) (omega arith)

-- no bit is lost
nothing_before : (d : ℕ) → d < 2 ^ 64 → bit_step d ≡ 0 → d ≡ 0
unfolding bit_step
nothing_before d h e = let same : d / 2 ≡ d % 2 * polynomial = xor_nothing (d / 2) (d % 2 * polynomial) e in omega arith

-- an even state is halved
pub bit_step-twice : (s : ℕ) → bit_step (s * 2) ≡ s
unfolding bit_step
bit_step-twice s =
    let half : s * 2 / 2 ≡ s = omega arith in
    let low : s * 2 % 2 ≡ 0 = omega arith in
    ap (λ x. bit_xor x (s * 2 % 2 * polynomial)) half ∙ ap (λ x. bit_xor s (x * polynomial)) low ∙ xor_zero_r s

pub bit_steps-xor : (n a b : ℕ) → bit_steps n (bit_xor a b) ≡ bit_xor (bit_steps n a) (bit_steps n b)
unfolding bit_steps
bit_steps-xor zero a b = refl
bit_steps-xor (suc n) a b = ap (bit_steps n) (bit_step-xor a b) ∙ bit_steps-xor n (bit_step a) (bit_step b)

pub bit_steps-lt : (n s : ℕ) → s < 2 ^ 64 → bit_steps n s < 2 ^ 64
unfolding bit_steps
bit_steps-lt zero s h = h
bit_steps-lt (suc n) s h = bit_steps-lt n (bit_step s) (bit_step-lt s h)

pub bit_steps-add : (m n s : ℕ) → bit_steps (m + n) s ≡ bit_steps n (bit_steps m s)
unfolding bit_steps
bit_steps-add zero n s = let e : zero + n ≡ n = omega arith in ap (λ k. bit_steps k s) e
bit_steps-add (suc m) n s = let e : suc m + n ≡ suc (m + n) = omega arith in ap (λ k. bit_steps k s) e ∙ bit_steps-add m n (bit_step s)

nothing_at_first : (n d : ℕ) → d < 2 ^ 64 → bit_steps n d ≡ 0 → d ≡ 0
unfolding bit_steps
nothing_at_first zero d h e = e
nothing_at_first (suc n) d h e = nothing_before d h (nothing_at_first n (bit_step d) (bit_step-lt d h) e)

pub same_before : (n s t : ℕ) → s < 2 ^ 64 → t < 2 ^ 64 → bit_steps n s ≡ bit_steps n t → s ≡ t
same_before n s t p q e =
    xor_nothing s t (nothing_at_first n (bit_xor s t) (xor_lt 64 s t p q)
    (bit_steps-xor n s t ∙ ap (λ x. bit_xor x (bit_steps n t)) e ∙ xor_self (bit_steps n t)))

pub bit_steps-shifted : (n s : ℕ) → bit_steps n (s * 2 ^ n) ≡ s
unfolding bit_steps
bit_steps-shifted zero s = omega arith
bit_steps-shifted (suc n) s =
    let e : s * 2 ^ suc n ≡ s * 2 ^ n * 2 = ap (λ x. s * x) (pow-suc 2 n) ∙ sym (mul_assoc s (2 ^ n) 2) in
    ap (λ x. bit_steps n (bit_step x)) e ∙ ap (bit_steps n) (bit_step-twice (s * 2 ^ n)) ∙ bit_steps-shifted n s

pub nothing_after : (n : ℕ) → bit_steps n 0 ≡ 0
nothing_after n = let e : 0 ≡ 0 * 2 ^ n = omega arith in ap (bit_steps n) e ∙ bit_steps-shifted n 0

-- the lowest byte of a state apart
pub lowest : (m n s low high : ℕ) → m ≡ 8 + n → low ≡ bit_steps m (s % 2 ^ 8) → high ≡ bit_steps n (s / 2 ^ 8) → bit_xor low high ≡ bit_steps m s
lowest m n s low high count p q =
    let split : s ≡ s % 2 ^ 8 + s / 2 ^ 8 * 2 ^ 8 = omega arith in
    let off : bit_steps m (s / 2 ^ 8 * 2 ^ 8) ≡ high =
    ap (λ k. bit_steps k (s / 2 ^ 8 * 2 ^ 8)) count ∙ bit_steps-add 8 n (s / 2 ^ 8 * 2 ^ 8) ∙ ap (bit_steps n) (bit_steps-shifted 8 (s / 2 ^ 8)) ∙ sym q in
    ap (λ x. bit_xor x high) p ∙ ap (bit_xor (bit_steps m (s % 2 ^ 8))) (sym off) ∙ sym (bit_steps-xor m (s % 2 ^ 8) (s / 2 ^ 8 * 2 ^ 8))
    ∙ ap (bit_steps m) (sym (low_byte (s % 2 ^ 8) (s / 2 ^ 8) (omega arith)) ∙ sym split)

left : (a b c d e f g h : ℕ)
    → bit_xor (bit_xor (bit_xor (bit_xor (bit_xor (bit_xor (bit_xor a b) c) d) e) f) g) h ≡ bit_xor a (bit_xor b (bit_xor c (bit_xor d (bit_xor e (bit_xor f (bit_xor g h))))))
left a b c d e f g h = simp xor_assoc

-- a state by its eight bytes
pub by_bytes : (n s a b c d e f g h : ℕ) → s < 2 ^ 64 → a ≡ bit_steps (64 + n) (s % 256) → b ≡ bit_steps (56 + n) (s / 256 % 256) → c ≡ bit_steps (48 + n) (s / 65536 % 256)
    → d ≡ bit_steps (40 + n) (s / 16777216 % 256) → e ≡ bit_steps (32 + n) (s / 4294967296 % 256) → f ≡ bit_steps (24 + n) (s / 1099511627776 % 256)
    → g ≡ bit_steps (16 + n) (s / 281474976710656 % 256) → h ≡ bit_steps (8 + n) (s / 72057594037927936 % 256)
    → bit_xor (bit_xor (bit_xor (bit_xor (bit_xor (bit_xor (bit_xor a b) c) d) e) f) g) h ≡ bit_steps (64 + n) s
by_bytes n s a b c d e f g h small at_a at_b at_c at_d at_e at_f at_g at_h =
    let none : s / 72057594037927936 / 2 ^ 8 ≡ 0 = omega arith in
    let next_h : s / 281474976710656 / 2 ^ 8 ≡ s / 72057594037927936 = omega arith in
    let next_g : s / 1099511627776 / 2 ^ 8 ≡ s / 281474976710656 = omega arith in
    let next_f : s / 4294967296 / 2 ^ 8 ≡ s / 1099511627776 = omega arith in
    let next_e : s / 16777216 / 2 ^ 8 ≡ s / 4294967296 = omega arith in
    let next_d : s / 65536 / 2 ^ 8 ≡ s / 16777216 = omega arith in
    let next_c : s / 256 / 2 ^ 8 ≡ s / 65536 = omega arith in
    let to_h : h ≡ bit_steps (8 + n) (s / 72057594037927936) =
    sym (xor_zero_r h) ∙ lowest (8 + n) n (s / 72057594037927936) h 0 refl at_h (sym (ap (bit_steps n) none ∙ nothing_after n)) in
    let to_g = lowest (16 + n) (8 + n) (s / 281474976710656) g h (omega arith) at_g (to_h ∙ ap (bit_steps (8 + n)) (sym next_h)) in
    let to_f = lowest (24 + n) (16 + n) (s / 1099511627776) f (bit_xor g h) (omega arith) at_f (to_g ∙ ap (bit_steps (16 + n)) (sym next_g)) in
    let to_e = lowest (32 + n) (24 + n) (s / 4294967296) e (bit_xor f (bit_xor g h)) (omega arith) at_e (to_f ∙ ap (bit_steps (24 + n)) (sym next_f)) in
    let to_d = lowest (40 + n) (32 + n) (s / 16777216) d (bit_xor e (bit_xor f (bit_xor g h))) (omega arith) at_d (to_e ∙ ap (bit_steps (32 + n)) (sym next_e)) in
    let to_c = lowest (48 + n) (40 + n) (s / 65536) c (bit_xor d (bit_xor e (bit_xor f (bit_xor g h)))) (omega arith) at_c (to_d ∙ ap (bit_steps (40 + n)) (sym next_d)) in
    let to_b = lowest (56 + n) (48 + n) (s / 256) b (bit_xor c (bit_xor d (bit_xor e (bit_xor f (bit_xor g h))))) (omega arith) at_b (to_c ∙ ap (bit_steps (48 + n)) (sym next_c)) in
    left a b c d e f g h ∙ lowest (64 + n) (56 + n) s a (bit_xor b (bit_xor c (bit_xor d (bit_xor e (bit_xor f (bit_xor g h)))))) (omega arith) at_a to_b
