-- Numbers below zero and numbers of 16 bytes tell where they end.
use Rattle.std.specs.Prelude.{◌≡◌, ℕ, ℤ, ◌+◌, ◌*◌, ◌/◌, ◌%◌, ◌<◌, ◌^◌, List, ◌++◌, length, FitsSigned}
use Rattle.std.specs.Int.{w8, w16, w32, w64, w128, cast_unsigned, cast_signed}
use Rattle.std.proofs.Common.{sym, ap, ◌∙◌, append_assoc, arith}
use Rattle.std.proofs.Math.Facts.{Fits-of_z, Fits-lt-pow}
use Rattle.std.proofs.lemmas.Int.{ints, to_z-of_z}
use Rattle.lru_frames.specs.Words.{word}
use Rattle.lru_frames.specs.Signed.{signed_word, wide_word, signed_wide}
use Rattle.lru_frames.specs.WordLaws.{one_word, no_word}

unsigned_small : (z : ℤ) → FitsSigned w64 z → cast_unsigned w64 z < 2 ^ 64
unsigned_small z h = Fits-lt-pow {w = w64} (Fits-of_z {w = w64} {z = z} h)

pub one_signed_word : (a b : ℤ) (x y : List ℕ) → FitsSigned w64 a → FitsSigned w64 b → signed_word a ++ x ≡ signed_word b ++ y → (a ≡ b) × (x ≡ y)
one_signed_word a b x y p q h =
    let parts = one_word (cast_unsigned w64 a) (cast_unsigned w64 b) x y (unsigned_small a p) (unsigned_small b q) h in
    (sym (to_z-of_z w64 a p) ∙ ap (cast_signed w64) parts.0 ∙ to_z-of_z w64 b q, parts.1)

pub byte_fits : (z : ℤ) → FitsSigned w8 z → FitsSigned w64 z
byte_fits z h = omega (arith, ints, h)

pub quarter_fits : (z : ℤ) → FitsSigned w16 z → FitsSigned w64 z
quarter_fits z h = omega (arith, ints, h)

pub half_fits : (z : ℤ) → FitsSigned w32 z → FitsSigned w64 z
half_fits z h = omega (arith, ints, h)

pub one_signed_byte : (a b : ℤ) (x y : List ℕ) → FitsSigned w8 a → FitsSigned w8 b → signed_word a ++ x ≡ signed_word b ++ y → (a ≡ b) × (x ≡ y)
one_signed_byte a b x y p q h = one_signed_word a b x y (byte_fits a p) (byte_fits b q) h

pub one_signed_quarter : (a b : ℤ) (x y : List ℕ) → FitsSigned w16 a → FitsSigned w16 b → signed_word a ++ x ≡ signed_word b ++ y → (a ≡ b) × (x ≡ y)
one_signed_quarter a b x y p q h = one_signed_word a b x y (quarter_fits a p) (quarter_fits b q) h

pub one_signed_half : (a b : ℤ) (x y : List ℕ) → FitsSigned w32 a → FitsSigned w32 b → signed_word a ++ x ≡ signed_word b ++ y → (a ≡ b) × (x ≡ y)
one_signed_half a b x y p q h = one_signed_word a b x y (half_fits a p) (half_fits b q) h

-- the number that begins the bytes is the one that stands there
pub read_signed : (bytes x y : List ℕ) (a b : ℤ) → FitsSigned w64 a → FitsSigned w64 b → bytes ≡ signed_word a ++ x → bytes ≡ signed_word b ++ y → a ≡ b
read_signed bytes x y a b p q h k = (one_signed_word a b x y p q (sym h ∙ k)).0

-- a number of 16 bytes tells where it ends
pub one_wide : (m n : ℕ) (x y : List ℕ) → m < 2 ^ 128 → n < 2 ^ 128 → wide_word m ++ x ≡ wide_word n ++ y → (m ≡ n) × (x ≡ y)
one_wide m n x y p q h =
    let low = one_word (m % 2 ^ 64) (n % 2 ^ 64) (word (m / 2 ^ 64) ++ x) (word (n / 2 ^ 64) ++ y) (omega arith) (omega arith)
    (sym (append_assoc (word (m % 2 ^ 64)) (word (m / 2 ^ 64)) x) ∙ h ∙ append_assoc (word (n % 2 ^ 64)) (word (n / 2 ^ 64)) y) in
    let high = one_word (m / 2 ^ 64) (n / 2 ^ 64) x y (omega arith) (omega arith) low.1 in
    (omega (arith, low.0, high.0), high.1)

pub one_signed_wide : (a b : ℤ) (x y : List ℕ) → FitsSigned w128 a → FitsSigned w128 b → signed_wide a ++ x ≡ signed_wide b ++ y → (a ≡ b) × (x ≡ y)
one_signed_wide a b x y p q h =
    let parts = one_wide (cast_unsigned w128 a) (cast_unsigned w128 b) x y (Fits-lt-pow {w = w128} (Fits-of_z {w = w128} {z = a} p)) (Fits-lt-pow {w = w128} (Fits-of_z {w = w128} {z = b} q)) h in
    (sym (to_z-of_z w128 a p) ∙ ap (cast_signed w128) parts.0 ∙ to_z-of_z w128 b q, parts.1)

-- fewer than 8 bytes, or fewer than 8 behind a number, begin with none of 16
pub no_wide : (bytes rest : List ℕ) (n : ℕ) → length bytes < 8 → bytes ≡ wide_word n ++ rest → ⊥
no_wide bytes rest n short h = no_word bytes (word (n / 2 ^ 64) ++ rest) (n % 2 ^ 64) short (h ∙ append_assoc (word (n % 2 ^ 64)) (word (n / 2 ^ 64)) rest)

pub no_high : (bytes behind rest : List ℕ) (low n : ℕ) → low < 2 ^ 64 → bytes ≡ word low ++ behind → length behind < 8 → bytes ≡ wide_word n ++ rest → ⊥
no_high bytes behind rest low n small k short h =
    let parts = one_word low (n % 2 ^ 64) behind (word (n / 2 ^ 64) ++ rest) small (omega arith) (sym k ∙ h ∙ append_assoc (word (n % 2 ^ 64)) (word (n / 2 ^ 64)) rest) in
    no_word behind rest (n / 2 ^ 64) short parts.1

-- two numbers of 8 bytes are the one of 16
pub wide_of : (low high : ℕ) → low < 2 ^ 64 → wide_word (high * 2 ^ 64 + low) ≡ word low ++ word high
wide_of low high small =
    let first : (high * 2 ^ 64 + low) % 2 ^ 64 ≡ low = omega arith in
    let second : (high * 2 ^ 64 + low) / 2 ^ 64 ≡ high = omega arith in
    ap (λ n. word n ++ word ((high * 2 ^ 64 + low) / 2 ^ 64)) first ∙ ap (λ n. word low ++ word n) second
