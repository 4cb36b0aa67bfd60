-- Seats dealt one by one.
use Rattle.std.proofs.Common.{◌≡◌, ℕ, zero, suc, ◌+◌, ◌-◌, ◌<◌, List, [], ◌∷◌, map, refl, sym, ap, ◌∙◌, arith}
use Rattle.lru_boxes.specs.declared.hand.SeatSlips.{SeatSlips}
use Rattle.lru_short_locks.specs.Hands.{up}
use Rattle.lru_boxes.specs.Ties.{kept, blank_seats}

pub seats_rest : (i n : ℕ) → i < n → blank_seats i (n - i) ≡ kept i [] ∷ blank_seats (i + 1) (n - (i + 1))
seats_rest i n h = let a : n - i ≡ suc (n - (i + 1)) = omega (arith, h) in let b : suc i ≡ i + 1 = omega arith in ap (blank_seats i) a ∙ (λ k. kept i [] ∷ blank_seats (b k) (n - (i + 1)))
