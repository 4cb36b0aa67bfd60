-- A box whose slips stand with its seats.
use Rattle.std.specs.Prelude.{◌≡◌, ℕ, List, [], ◌∷◌, map, length}
use Rattle.atomic_table.specs.Table.{Me}
use Rattle.lru_mailbox.specs.declared.slip.Slip.{Slip}
use Rattle.lru_mailbox.specs.Ledger.{Book, Seats, Stock, seats_of, IsTied}
use Rattle.lru_boxes.specs.declared.hand.DeskHand.{DeskHand}
use Rattle.lru_boxes.specs.Ties.{of_desk, known}

-- what the box has is exactly what its seats have not: what was put is told at those who put, what was taken at those who
-- take, and the rest waits or is lost in the box
pub record IsDesk {K : Type 0} (putters takers : ℕ) (stock : Stock K) (putting taking : Me (Unit {0}) DeskHand) : Type 0 where
  pub putting_is : putting ≡ (of_desk (known putting.0), [])
  pub taking_is : taking ≡ (of_desk (known taking.0), [])
  pub putters_are : length (known putting.0) ≡ putters
  pub takers_are : length (known taking.0) ≡ takers
  pub seats : stock.seats ≡ seats_of putters takers
  pub tied : IsTied stock.book (known putting.0) (known taking.0)
