-- What the check tells of bytes.
use Rattle.std.proofs.Common.{◌≡◌, ℕ, suc, ◌+◌, ◌-◌, ◌*◌, ◌/◌, ◌%◌, ◌^◌, ◌<◌, ◌≤◌, List, [], ◌∷◌, ◌++◌, length, get_or, refl, sym, ap, ◌∙◌, arith}
use Rattle.std.specs.Prelude.{bit_xor}
use Rattle.std.specs.Int.{w64, to_le_bytes, from_le_bytes}
use Rattle.std.specs.Int.Bits.{xor_zero_r}
use Rattle.std.specs.List.{fold, AllByRecursion}
use Rattle.std.proofs.Math.Nat.{pow-suc, pow-le-pow_right}
use Rattle.std.proofs.lemmas.List.Sums.{fold-append}
use Rattle.std.proofs.lemmas.Nat.{xor_lt, xor_shr, le_bytes_8, from_le_bytes-to_le_bytes_8}
use Rattle.lru_frames.specs.Crc.{bit_step, bit_steps, step, all_ones, crc_of, residue}
use Rattle.lru_frames.proofs.Xors.{xor_assoc, same_xor, same_xor_left, low_byte, xor_turned}
use Rattle.lru_frames.proofs.Steps.{bit_steps-xor, bit_steps-lt, bit_steps-add, bit_steps-shifted, same_before, lowest}

-- the number that bytes are, the lowest first
abbrev pub word_in : List ℕ → ℕ
word_in [] = 0
word_in (x ∷ xs) = x % 2 ^ 8 + word_in xs * 2 ^ 8

step_below : (s byte : ℕ) → s < 2 ^ 64 → step s byte < 2 ^ 64
unfolding step
step_below s byte h = bit_steps-lt 8 (bit_xor s (byte % 2 ^ 8)) (xor_lt 64 s (byte % 2 ^ 8) h (omega arith))

pub fold_below : (bytes : List ℕ) (s : ℕ) → s < 2 ^ 64 → fold step s bytes < 2 ^ 64
fold_below [] s h = h
fold_below (x ∷ xs) s h = fold_below xs (step s x) (step_below s x h)

-- the state before a byte
pub one_before : (s t byte : ℕ) → s < 2 ^ 64 → t < 2 ^ 64 → step s byte ≡ step t byte → s ≡ t
unfolding step
one_before s t byte p q e =
    same_xor s t (byte % 2 ^ 8)
    (same_before 8 (bit_xor s (byte % 2 ^ 8)) (bit_xor t (byte % 2 ^ 8)) (xor_lt 64 s (byte % 2 ^ 8) p (omega arith)) (xor_lt 64 t (byte % 2 ^ 8) q (omega arith)) e)

-- the state before any bytes
pub same_start : (bytes : List ℕ) (s t : ℕ) → s < 2 ^ 64 → t < 2 ^ 64 → fold step s bytes ≡ fold step t bytes → s ≡ t
same_start [] s t p q e = e
same_start (x ∷ xs) s t p q e = one_before s t x p q (same_start xs (step s x) (step t x) (step_below s x p) (step_below t x q) e)

-- bytes are a number that is added, and so many steps of a bit
pub fold-steps : (bytes : List ℕ) (s : ℕ) → fold step s bytes ≡ bit_steps (length bytes * 8) (bit_xor s (word_in bytes))
unfolding step bit_steps
fold-steps [] s = sym (xor_zero_r s)
fold-steps (x ∷ xs) s =
    let low = x % 2 ^ 8 in
    let high = word_in xs in
    let sum : bit_xor (step s x) high ≡ bit_steps 8 (bit_xor s (low + high * 2 ^ 8)) =
    ap (bit_xor (step s x)) (sym (bit_steps-shifted 8 high)) ∙ sym (bit_steps-xor 8 (bit_xor s low) (high * 2 ^ 8))
    ∙ ap (bit_steps 8) (xor_assoc s low (high * 2 ^ 8) ∙ ap (bit_xor s) (sym (low_byte low high (omega arith)))) in
    let count : 8 + length xs * 8 ≡ suc (length xs) * 8 = omega arith in
    fold-steps xs (step s x) ∙ ap (bit_steps (length xs * 8)) sum ∙ sym (bit_steps-add 8 (length xs * 8) (bit_xor s (low + high * 2 ^ 8)))
    ∙ ap (λ n. bit_steps n (bit_xor s (low + high * 2 ^ 8))) count

below_power : (bytes : List ℕ) → word_in bytes < 256 ^ length bytes
below_power [] = omega arith
below_power (x ∷ xs) =
    let ih = below_power xs in
    let e : 256 ^ suc (length xs) ≡ 256 ^ length xs * 256 = pow-suc 256 (length xs) in
    omega (arith, ih, e)

pub word_below : (bytes : List ℕ) → length bytes ≤ 8 → word_in bytes < 2 ^ 64
word_below bytes h =
    let le : 256 ^ length bytes ≤ 256 ^ 8 = pow-le-pow_right {n = 256} (omega arith) h in
    omega (arith, le, below_power bytes)

one_text : (a b : List ℕ) → length a ≡ length b → AllByRecursion (λ byte. byte < 256) a → AllByRecursion (λ byte. byte < 256) b → word_in a ≡ word_in b → a ≡ b
one_text [] [] e p q h = refl
one_text [] (y ∷ ys) e p q h = absurd (omega arith)
one_text (x ∷ xs) [] e p q h = absurd (omega arith)
one_text (x ∷ xs) (y ∷ ys) e p q h =
    let small_x : x < 256 = p.0 in
    let small_y : y < 256 = q.0 in
    let first : x ≡ y = omega arith in
    let others : word_in xs ≡ word_in ys = omega arith in
    ap (λ z. z ∷ xs) first ∙ ap (λ (zs : List ℕ). y ∷ zs) (one_text xs ys (omega arith) p.1 q.1 others)

pub crc_below : (bytes : List ℕ) → crc_of bytes < 2 ^ 64
unfolding crc_of
crc_below bytes = omega arith

-- the last state is told by the check
one_state : (a b : List ℕ) → crc_of a ≡ crc_of b → fold step all_ones a ≡ fold step all_ones b
unfolding crc_of
one_state a b h = omega (arith, h, fold_below a all_ones (omega arith), fold_below b all_ones (omega arith))

pub not_undone : (a b rest : List ℕ) → crc_of (a ++ rest) ≡ crc_of (b ++ rest) → crc_of a ≡ crc_of b
unfolding crc_of
not_undone a b rest h =
    ap (λ s. all_ones - s) (same_start rest (fold step all_ones a) (fold step all_ones b) (fold_below a all_ones (omega arith)) (fold_below b all_ones (omega arith))
    (sym (fold-append step all_ones a rest) ∙ one_state (a ++ rest) (b ++ rest) h ∙ fold-append step all_ones b rest))

-- bytes in one place, at most 8, with one check
pub one_window : (front a b back : List ℕ) → length a ≡ length b → length a ≤ 8 → AllByRecursion (λ byte. byte < 256) a → AllByRecursion (λ byte. byte < 256) b
    → crc_of (front ++ (a ++ back)) ≡ crc_of (front ++ (b ++ back)) → a ≡ b
one_window front a b back e short is_a is_b h =
    let s = fold step all_ones front in
    let small : s < 2 ^ 64 = fold_below front all_ones (omega arith) in
    let apart : (x : List ℕ) → fold step all_ones (front ++ (x ++ back)) ≡ fold step (fold step s x) back = λ x.
    fold-append step all_ones front (x ++ back) ∙ fold-append step s x back in
    let states : fold step s a ≡ fold step s b =
    same_start back (fold step s a) (fold step s b) (fold_below a s small) (fold_below b s small)
    (sym (apart a) ∙ one_state (front ++ (a ++ back)) (front ++ (b ++ back)) h ∙ apart b) in
    let steps : bit_steps (length a * 8) (bit_xor s (word_in a)) ≡ bit_steps (length a * 8) (bit_xor s (word_in b)) =
    sym (fold-steps a s) ∙ states ∙ fold-steps b s ∙ ap (λ n. bit_steps (n * 8) (bit_xor s (word_in b))) (sym e) in
    let below_a : word_in a < 2 ^ 64 = word_below a short in
    let below_b : word_in b < 2 ^ 64 = word_below b (omega arith) in
    one_text a b e is_a is_b (same_xor_left (word_in a) (word_in b) s
    (same_before (length a * 8) (bit_xor s (word_in a)) (bit_xor s (word_in b)) (xor_lt 64 s (word_in a) small below_a) (xor_lt 64 s (word_in b) small below_b) steps))

-- eight bytes as one number
pub record AreBytes (b0 b1 b2 b3 b4 b5 b6 b7 : ℕ) : Type 0 where
  pub at0 : b0 < 256
  pub at1 : b1 < 256
  pub at2 : b2 < 256
  pub at3 : b3 < 256
  pub at4 : b4 < 256
  pub at5 : b5 < 256
  pub at6 : b6 < 256
  pub at7 : b7 < 256

pub word_of_eight : (b0 b1 b2 b3 b4 b5 b6 b7 : ℕ) → AreBytes b0 b1 b2 b3 b4 b5 b6 b7
    → word_in (b0 ∷ b1 ∷ b2 ∷ b3 ∷ b4 ∷ b5 ∷ b6 ∷ b7 ∷ []) ≡ from_le_bytes w64 (b0 ∷ b1 ∷ b2 ∷ b3 ∷ b4 ∷ b5 ∷ b6 ∷ b7 ∷ [])
word_of_eight b0 b1 b2 b3 b4 b5 b6 b7 small = omega arith

word_of_word : (n : ℕ) → n < 2 ^ 64 → word_in (to_le_bytes w64 n) ≡ n
word_of_word n h =
    word_of_eight _ _ _ _ _ _ _ _ (record { at0 = omega arith; at1 = omega arith; at2 = omega arith; at3 = omega arith; at4 = omega arith; at5 = omega arith; at6 = omega arith; at7 = omega arith })
    ∙ from_le_bytes-to_le_bytes_8 n h

left_over : bit_steps 64 all_ones ≡ all_ones - residue
unfolding bit_steps bit_step
left_over = refl

pub with_check : (bytes : List ℕ) → crc_of (bytes ++ to_le_bytes w64 (crc_of bytes)) ≡ residue
unfolding crc_of
with_check bytes =
    let s = fold step all_ones bytes in
    let small : s < 2 ^ 64 = fold_below bytes all_ones (omega arith) in
    let check = all_ones - s in
    let state : fold step all_ones (bytes ++ to_le_bytes w64 check) ≡ all_ones - residue =
    fold-append step all_ones bytes (to_le_bytes w64 check) ∙ fold-steps (to_le_bytes w64 check) s
    ∙ ap (λ n. bit_steps 64 (bit_xor s n)) (word_of_word check (omega arith)) ∙ ap (bit_steps 64) (xor_turned s small) ∙ left_over in
    ap (λ n. all_ones - n) state

-- eight bytes that were read as a number
pub fold-word : (bytes : List ℕ) (s n : ℕ) → length bytes ≡ 8 → ((i : ℕ) → get_or bytes i 0 < 256) → n ≡ from_le_bytes w64 bytes → n < 2 ^ 64
    → fold step s bytes ≡ bit_steps 64 (bit_xor s n)
fold-word bytes s n e small h below =
    let eight : to_le_bytes w64 n ≡ bytes = le_bytes_8 bytes n e small h in
    fold-steps bytes s ∙ ap (λ k. bit_steps (k * 8) (bit_xor s (word_in bytes))) e
    ∙ ap (λ (x : List ℕ). bit_steps 64 (bit_xor s (word_in x))) (sym eight) ∙ ap (λ k. bit_steps 64 (bit_xor s k)) (word_of_word n below)

-- one more byte by a table
pub step_by_table : (s byte entry : ℕ) → byte < 256 → entry ≡ bit_steps 8 (bit_xor s byte % 256) → bit_xor entry (s / 256) ≡ step s byte
unfolding step bit_steps
step_by_table s byte entry small h =
    let none : byte / 2 ^ 8 ≡ 0 = omega arith in
    let same : byte ≡ byte % 2 ^ 8 = omega arith in
    let high : s / 256 ≡ bit_xor s byte / 2 ^ 8 = sym (xor_shr s byte 8 ∙ ap (bit_xor (s / 256)) none ∙ xor_zero_r (s / 256)) in
    lowest 8 0 (bit_xor s byte) entry (s / 256) refl h high ∙ ap (λ b. bit_steps 8 (bit_xor s b)) same
