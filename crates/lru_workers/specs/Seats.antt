-- The slips of a seat.
use Rattle.std.specs.Prelude.{List, Option, option_map}
use Rattle.lru_boxes.specs.declared.seats.PutSeat.{PutSeat}
use Rattle.lru_boxes.specs.declared.tie.BoxRegistry.{Ghosts}
use Rattle.lru_mailbox.specs.declared.slip.Slip.{Slip}

-- of what was put with it, where there is one
abbrev pub slips_at : {B : Type 0} {R : Ghosts B} → Option (PutSeat B R) → Option (List Slip)
slips_at seat = option_map (λ s. s.share.slips) seat
