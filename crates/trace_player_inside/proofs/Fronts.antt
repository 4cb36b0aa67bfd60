-- Laws of the longest front of a list of rows that fits a limit.
use Rattle.std.proofs.Common.{◌≡◌, ℕ, suc, take, ◌-◌, ◌<◌, ◌≤◌, [], ◌∷◌, length, refl, ap, ◌∙◌, arith}
use Rattle.std.specs.Prelude.{Bool, true, false, if◌then◌else◌, nat_le}
use Rattle.std.proofs.lemmas.Bool.{leb-true, le-leb, lt-leb, cond-true, cond_both}
use Rattle.lru_shard.specs.Row.{Row, weight_of, without_last}
use Rattle.lru_shard.proofs.Rows.{weight-cons}
use Rattle.trace_player_inside.specs.Traces.{Rows, front}

-- all rows, where they fit
pub front_all : (limit : ℕ) (rows : Rows) → weight_of rows ≤ limit → front limit rows ≡ rows
front_all limit [] h = refl
front_all limit (r ∷ rest) h =
    let weighs = weight-cons r rest in
    cond-true (nat_le r.weight limit) (r ∷ front (limit - r.weight) rest) [] (le-leb r.weight limit (omega (arith, h, weighs)))
    ∙ ap (λ xs. r ∷ xs) (front_all (limit - r.weight) rest (omega (arith, h, weighs)))

either : (b : Bool) (r : Row (Unit {0})) (xs ys : Rows) → (b ≡ true → xs ≡ ys) → (if b then r ∷ xs else []) ≡ (if b then r ∷ ys else [])
either true r xs ys same = ap (λ zs. r ∷ zs) (same refl)
either false r xs ys same = refl

none : (b : Bool) (xs : Rows) → b ≡ false → [] ≡ (if b then xs else [])
none false xs h = refl
none true xs h = cc

split : (r : Row (Unit {0})) (rows : Rows) → 0 < length rows → without_last (r ∷ rows) ≡ r ∷ without_last rows
split r rows h = let one_more : length (r ∷ rows) - 1 ≡ suc (length rows - 1) = omega (arith, h) in ap (λ n. take n (r ∷ rows)) one_more

-- without the last row it is the same, where not all fit
pub front_last : (limit : ℕ) (rows : Rows) → limit < weight_of rows → front limit (without_last rows) ≡ front limit rows
front_last limit [] h = refl
front_last limit (r ∷ []) h = let weighs = weight-cons r [] in none (nat_le r.weight limit) (r ∷ []) (lt-leb r.weight limit (omega (arith, h, weighs)))
front_last limit (r ∷ s ∷ rest) h =
    let weighs = weight-cons r (s ∷ rest) in
    ap (front limit) (split r (s ∷ rest) (omega arith))
    ∙ either (nat_le r.weight limit) r (front (limit - r.weight) (without_last (s ∷ rest))) (front (limit - r.weight) (s ∷ rest))
    (λ fits. front_last (limit - r.weight) (s ∷ rest) (omega (arith, h, weighs, leb-true r.weight limit fits)))

-- it is no longer than the list
pub front_short : (limit : ℕ) (rows : Rows) → length (front limit rows) ≤ length rows
front_short limit [] = omega arith
front_short limit (r ∷ rest) =
    let fewer = front_short (limit - r.weight) rest in
    cond_both (nat_le r.weight limit) (r ∷ front (limit - r.weight) rest) [] (λ xs. length xs ≤ length (r ∷ rest)) (λ _. omega (arith, fewer)) (λ _. omega arith)
