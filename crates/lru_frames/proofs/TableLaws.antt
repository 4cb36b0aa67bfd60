-- What the tables hold.
use Rattle.std.proofs.Common.{zero-add, ◌≡◌, ℕ, zero, suc, ◌+◌, ◌*◌, ◌<◌, Bool, true, false, ◌&&◌, T, eqb, eqb→eq, List, [], ◌∷◌, length, get_or, refl, sym, ap, ◌∙◌, arith}
use lib.Ieee.Fits.{and_l, and_r}
use Rattle.lru_frames.specs.Crc.{bit_step, bit_steps}
use Rattle.lru_frames.specs.declared.crc_tables.TheConstants.{NEAR, FAR}
use Rattle.lru_frames.proofs.Steps.{bit_steps-add}

-- each number of a row is that of another row after so many steps
abbrev follow : ℕ → List ℕ → List ℕ → Bool
follow bits [] ys = true
follow bits (x ∷ xs) [] = false
follow bits (x ∷ xs) (y ∷ ys) = eqb (bit_steps bits x) y && follow bits xs ys

-- so many steps lead from a row to the first one, and 8 from each of these to the next
abbrev rows_follow : ℕ → List ℕ → List (List ℕ) → Bool
rows_follow bits row [] = true
rows_follow bits row (next ∷ rows) = follow bits row next && rows_follow 8 next rows

follow_at : (bits : ℕ) (xs ys : List ℕ) (i : ℕ) → T (follow bits xs ys) → i < length xs → (i < length ys) × (get_or ys i 0 ≡ bit_steps bits (get_or xs i 0))
follow_at bits [] ys i t h = absurd (omega arith)
follow_at bits (x ∷ xs) [] i t h = absurd t
follow_at bits (x ∷ xs) (y ∷ ys) zero t h = (omega arith, sym (eqb→eq (bit_steps bits x) y (and_l (eqb (bit_steps bits x) y) (follow bits xs ys) t)))
follow_at bits (x ∷ xs) (y ∷ ys) (suc i) t h =
    let more = follow_at bits xs ys i (and_r (eqb (bit_steps bits x) y) (follow bits xs ys) t) (omega arith) in
    let inside : i < length ys = more.0 in
    (omega arith, more.1)

rows_at : (rows : List (List ℕ)) (bits : ℕ) (row : List ℕ) (k i : ℕ) → T (rows_follow bits row rows) → k < length rows → i < length row
    → get_or (get_or rows k []) i 0 ≡ bit_steps (bits + k * 8) (get_or row i 0)
rows_at [] bits row k i t p q = absurd (omega arith)
rows_at (next ∷ rows) bits row zero i t p q =
    let count : bits + 0 * 8 ≡ bits = omega arith in
    (follow_at bits row next i (and_l (follow bits row next) (rows_follow 8 next rows) t) q).1 ∙ ap (λ n. bit_steps n (get_or row i 0)) (sym count)
rows_at (next ∷ rows) bits row (suc k) i t p q =
    let first = follow_at bits row next i (and_l (follow bits row next) (rows_follow 8 next rows) t) q in
    let count : bits + suc k * 8 ≡ bits + (8 + k * 8) = omega arith in
    rows_at rows 8 next k i (and_r (follow bits row next) (rows_follow 8 next rows) t) (omega arith) first.0
    ∙ ap (bit_steps (8 + k * 8)) first.1 ∙ sym (bit_steps-add bits (8 + k * 8) (get_or row i 0)) ∙ ap (λ n. bit_steps n (get_or row i 0)) (sym count)

-- numbers one after the other
abbrev numbers : ℕ → ℕ → List ℕ
numbers start zero = []
numbers start (suc n) = start ∷ numbers (suc start) n

length-numbers : (start n : ℕ) → length (numbers start n) ≡ n
length-numbers start zero = refl
length-numbers start (suc n) = ap suc (length-numbers (suc start) n)

numbers_at : (start n i : ℕ) → i < n → get_or (numbers start n) i 0 ≡ start + i
numbers_at start zero i h = absurd (omega arith)
numbers_at start (suc n) zero h = omega arith
numbers_at start (suc n) (suc i) h = let more = numbers_at (suc start) n i (omega arith) in omega (arith, more)

near_follow : T (rows_follow 8 (numbers 0 256) NEAR)
unfolding bit_steps bit_step
near_follow = tt

far_follow : T (rows_follow 200 (numbers 0 256) FAR)
unfolding bit_steps bit_step
far_follow = tt

pub NEAR_at : (k i : ℕ) → k < 8 → i < 256 → get_or (get_or NEAR k []) i 0 ≡ bit_steps (8 + k * 8) i
NEAR_at k i p q = rows_at NEAR 8 (numbers 0 256) k i near_follow p q ∙ ap (bit_steps (8 + k * 8)) (numbers_at 0 256 i q ∙ zero-add i)

pub FAR_at : (k i : ℕ) → k < 8 → i < 256 → get_or (get_or FAR k []) i 0 ≡ bit_steps (200 + k * 8) i
FAR_at k i p q = rows_at FAR 200 (numbers 0 256) k i far_follow p q ∙ ap (bit_steps (200 + k * 8)) (numbers_at 0 256 i q ∙ zero-add i)
