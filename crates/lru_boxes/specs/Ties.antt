-- The slips that seats keep, and that a desk knows them to keep.
use Rattle.std.specs.Prelude.{◌≡◌, ℕ, zero, suc, ◌+◌, ◌≤◌, ◌==◌, if◌then◌else◌, List, [], ◌∷◌, ◌++◌, length, map, slice_get, slice_set, Some, ◌⊎◌}
use Rattle.atomic_table.specs.Table.{Me, Step}
use Rattle.lru_short_locks.specs.Hands.{total, up, Among, Held}
use Rattle.lru_mailbox.specs.declared.slip.Slip.{Slip}
use Rattle.lru_boxes.specs.declared.hand.SeatSlips.{SeatSlips}
use Rattle.lru_boxes.specs.declared.hand.DeskHand.{DeskHand}

abbrev pub kept : ℕ → List Slip → SeatSlips
kept number slips = record { number = number; slips = slips }

abbrev pub hand : List (List (List Slip)) → List SeatSlips → DeskHand
hand desks seats = record { desks = desks; seats = seats }

-- it speaks for the desk, which knows the seats to have these slips
abbrev pub of_desk : List (List Slip) → DeskHand
of_desk lists = hand (lists ∷ []) []

-- it speaks for one seat
abbrev pub of_seat : ℕ → List Slip → DeskHand
of_seat number slips = hand [] (kept number slips ∷ [])

-- what the first desk knows
abbrev pub first_desk : List (List (List Slip)) → List (List Slip)
first_desk [] = []
first_desk (lists ∷ _) = lists

abbrev pub known : DeskHand → List (List Slip)
known v = first_desk v.desks

-- what the first seat has
abbrev pub first_seat : List SeatSlips → List Slip
first_seat [] = []
first_seat (s ∷ _) = s.slips

abbrev pub own : DeskHand → List Slip
own v = first_seat v.seats

-- so many lists without slips
abbrev pub blank_lists : ℕ → List (List Slip)
blank_lists zero = []
blank_lists (suc count) = [] ∷ blank_lists count

-- so many seats without slips, from this number up
abbrev pub blank_seats : ℕ → ℕ → List SeatSlips
blank_seats from count = map (λ n. kept n []) (up from count)

-- how often a seat has this number
abbrev pub named : ℕ → List SeatSlips → ℕ
named n seats = total (λ s. if s.number == n then 1 else 0) seats

-- the desk knows what the seat has
abbrev pub Agrees : List (List Slip) → SeatSlips → Type 0
Agrees lists s = slice_get lists s.number ≡ Some s.slips

-- there is one desk and one seat of each number at most, and the desk knows what each seat has
pub record Ties (vs : List DeskHand) : Type 0 where
  pub one_desk : total (λ v. length v.desks) vs ≤ 1
  pub once : (n : ℕ) → total (λ v. named n v.seats) vs ≤ 1
  pub agree : (lists : List (List Slip)) (s : SeatSlips) → Held (λ (v : DeskHand). v.desks) lists vs → Held (λ (v : DeskHand). v.seats) s vs → Agrees lists s

-- a seat has one slip more, and the desk knows it
abbrev pub noted_at : Slip → List (List (List Slip)) → List SeatSlips → DeskHand
noted_at x (lists ∷ []) (s ∷ []) = hand (slice_set lists s.number (s.slips ++ x ∷ []) ∷ []) (kept s.number (s.slips ++ x ∷ []) ∷ [])
noted_at x desks seats = hand desks seats

abbrev pub noted : Slip → DeskHand → DeskHand
noted x v = noted_at x v.desks v.seats

-- what a hand shows: each of its seats has what its desk knows, and no two of them have one number
pub record Shows (v : DeskHand) : Type 0 where
  pub once : (n : ℕ) → named n v.seats ≤ 1
  pub agree : (lists : List (List Slip)) (s : SeatSlips) → Among lists v.desks → Among s v.seats → Agrees lists s

-- a step that notes a slip
abbrev pub Notes : {S : Type 0} → Slip → Step S → Me S DeskHand → ℕ → Me S DeskHand → Type 0
Notes x st m n m' = (m' ≡ (noted x m.0, m.1)) × Shows m.0

-- a step that looks
abbrev pub Looks : {S : Type 0} → Step S → Me S DeskHand → ℕ → Me S DeskHand → Type 0
Looks st m n m' = (m' ≡ m) × Shows m.0

abbrev pub joined : DeskHand → DeskHand → DeskHand
joined v w = hand (v.desks ++ w.desks) (v.seats ++ w.seats)
