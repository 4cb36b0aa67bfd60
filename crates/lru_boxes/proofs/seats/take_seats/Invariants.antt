use Rattle.std.proofs.Common.{◌≡◌, ◌+◌, ◌-◌, [], ◌∷◌, map}
use Rattle.std.specs.Prelude.{All}
use Rattle.lru_short_locks.specs.Hands.{up}
use Rattle.lru_boxes.specs.Ties.{hand, blank_lists, blank_seats}
use Rattle.lru_boxes.proofs.seats.take_seats.Given as goal

abbrev pub invariant-loop-number : goal.invariant-loop-number
invariant-loop-number g l = (l.rest.table_id ≡ g.B.BoxRegistry.takes) × (((map (λ s. s.number) l.seats.items ≡ up 0 l.number) × All (λ s. s.share.slips ≡ []) l.seats.items) × (l.rest.me ≡ (hand (blank_lists l.count ∷ []) (blank_seats l.number (l.count - l.number)), [])))
