-- Counters, two to a byte.
use Rattle.std.proofs.Common.{◌≡◌, ℕ, ◌+◌, ◌*◌, ◌/◌, ◌%◌, ◌<◌, ◌≤◌, max, List, [], ◌∷◌, ◌++◌, take, drop, length, get_or, set, map, suc, zero, sym, refl, ap, ◌∙◌, arith}
use Rattle.std.specs.List.{All}
use Rattle.std.proofs.lemmas.List.{take_all, drop_all, append-nil}
use Rattle.std.proofs.lemmas.List.Elements.{All-nil, All-cons}
use Rattle.lru_admission.specs.Sketch.{lifted}
use Rattle.lru_admission.specs.Representation.{counts_in}

pub length-counts : (bytes : List ℕ) → length (counts_in bytes) ≡ 2 * length bytes
length-counts [] = refl
length-counts (b ∷ bytes) = omega (arith, length-counts bytes)

twice_more : (i : ℕ) → 2 * suc i ≡ suc (suc (2 * i))
twice_more i = omega arith

-- the lower half of a byte, and the upper one
pub get_or-low : (bytes : List ℕ) (i : ℕ) → get_or (counts_in bytes) (2 * i) 0 ≡ get_or bytes i 0 % 16
get_or-low [] i = refl
get_or-low (b ∷ bytes) zero = refl
get_or-low (b ∷ bytes) (suc i) = ap (λ n. get_or (counts_in (b ∷ bytes)) n 0) (twice_more i) ∙ get_or-low bytes i

pub get_or-high : (bytes : List ℕ) (i : ℕ) → get_or (counts_in bytes) (suc (2 * i)) 0 ≡ get_or bytes i 0 / 16
get_or-high [] i = refl
get_or-high (b ∷ bytes) zero = refl
get_or-high (b ∷ bytes) (suc i) = ap (λ n. get_or (counts_in (b ∷ bytes)) (suc n) 0) (twice_more i) ∙ get_or-high bytes i

-- a byte with another half
pub set-low : (bytes : List ℕ) (i v byte : ℕ) → byte % 16 ≡ v → byte / 16 ≡ get_or bytes i 0 / 16 → set (counts_in bytes) (2 * i) v ≡ counts_in (set bytes i byte)
set-low [] i v byte l h = refl
set-low (b ∷ bytes) zero v byte l h = cc
set-low (b ∷ bytes) (suc i) v byte l h = ap (λ n. set (counts_in (b ∷ bytes)) n v) (twice_more i) ∙ ap (λ cs. b % 16 ∷ b / 16 ∷ cs) (set-low bytes i v byte l h)

pub set-high : (bytes : List ℕ) (i v byte : ℕ) → byte / 16 ≡ v → byte % 16 ≡ get_or bytes i 0 % 16 → set (counts_in bytes) (suc (2 * i)) v ≡ counts_in (set bytes i byte)
set-high [] i v byte l h = refl
set-high (b ∷ bytes) zero v byte l h = cc
set-high (b ∷ bytes) (suc i) v byte l h = ap (λ n. set (counts_in (b ∷ bytes)) (suc n) v) (twice_more i) ∙ ap (λ cs. b % 16 ∷ b / 16 ∷ cs) (set-high bytes i v byte l h)

-- a byte of two halves, each halved
abbrev pub halved_byte : ℕ → ℕ
halved_byte b = 16 * (b / 16 / 2) + b % 16 / 2

low_halved : (b : ℕ) → halved_byte b % 16 ≡ b % 16 / 2
low_halved b = omega arith

high_halved : (b : ℕ) → halved_byte b / 16 ≡ b / 16 / 2
high_halved b = omega arith

pub counts-halved : (bytes : List ℕ) → counts_in (map halved_byte bytes) ≡ map (λ count. count / 2) (counts_in bytes)
counts-halved [] = refl
counts-halved (b ∷ bytes) = let l = low_halved b in let h = high_halved b in let r = counts-halved bytes in cc

-- four bits each
pub All-counts : (bytes : List ℕ) → ((i : ℕ) → get_or bytes i 0 < 256) → All (λ count. count < 16) (counts_in bytes)
All-counts [] h = All-nil (λ count. count < 16)
All-counts (b ∷ bytes) h =
    All-cons (λ count. count < 16) (b % 16) (b / 16 ∷ counts_in bytes) (omega arith)
    (All-cons (λ count. count < 16) (b / 16) (counts_in bytes) (let s : b < 256 = h 0 in omega arith) (All-counts bytes (λ i. h (suc i))))

-- a counter is lifted where its half of the byte is
pub lifted-low : (bytes : List ℕ) (c i level byte : ℕ) → c ≡ 2 * i → byte ≡ 16 * (get_or bytes i 0 / 16) + max (get_or bytes i 0 % 16) level → level < 16 → counts_in (set bytes i byte) ≡ lifted (counts_in bytes) c level
lifted-low bytes c i level byte at is small =
    let v = max (get_or bytes i 0 % 16) level in
    rw (at, get_or-low bytes i) (sym (set-low bytes i v byte (omega arith) (omega arith)))

pub lifted-high : (bytes : List ℕ) (c i level byte : ℕ) → c ≡ suc (2 * i) → byte ≡ 16 * max (get_or bytes i 0 / 16) level + get_or bytes i 0 % 16 → level < 16 → counts_in (set bytes i byte) ≡ lifted (counts_in bytes) c level
lifted-high bytes c i level byte at is small =
    let v = max (get_or bytes i 0 / 16) level in
    rw (at, get_or-high bytes i) (sym (set-high bytes i v byte (omega arith) (omega arith)))

-- a map of a front that is all there is
pub all_mapped : (f : ℕ → ℕ) (xs : List ℕ) (i : ℕ) → length xs ≤ i → map f (take i xs) ++ drop i xs ≡ map f xs
all_mapped f xs i h = rw (take_all, drop_all) (append-nil (map f xs))
