use Rattle.std.proofs.Common.{◌≡◌, ◌+◌, ◌-◌, [], map}
use Rattle.std.specs.Prelude.{All}
use Rattle.lru_short_locks.specs.Hands.{up}
use Rattle.lru_recording.specs.Ties.{hand}
use Rattle.lru_recording.proofs.dealing.deal_seats.Given as goal

abbrev pub invariant-loop-number : goal.invariant-loop-number
invariant-loop-number g l = (l.rest.table_id ≡ g.B.Registry.table) × (((map (λ s. s.number) l.seats.items ≡ up 0 l.number) × All (λ s. s.receipts.items ≡ []) l.seats.items) × (l.rest.me ≡ (hand [] (up l.number (l.count - l.number)) [] [], [])))
