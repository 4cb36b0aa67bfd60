-- Where evicted pairs go.
use Rattle.std.specs.Prelude.{◌≡◌, ℕ, Bool, true, false, List, [], ◌∷◌, ◌++◌, Option, Some, None, option_map, Result, Ok, Err}
use Rattle.std.specs.declared.alloc.AllocError.{AllocError}
use Rattle.lru_boxes.specs.declared.seats.TakeSeat.{TakeSeat}
use Rattle.lru_boxes.specs.declared.tie.BoxRegistry.{Ghosts}
use Rattle.lru_mailbox.specs.declared.slip.Slip.{Slip}
use Rattle.lru_workers.specs.declared.outlet.Outlet.{Outlet}
use Rattle.lru_workers.specs.declared.outlet.Outlet.TheVariants.{Mailbox, Ledger}
use Rattle.lru_workers.specs.declared.outlet.TakenPair.{TakenPair}
use Rattle.lru_workers.specs.declared.outlet.TakenPair.TheVariants.{Pair, Nothing, NoMemory}

-- whether it counts every pair
abbrev pub is_ledger : {K B : Type 0} → Outlet K B → Bool
is_ledger (Mailbox _) = false
is_ledger (Ledger _) = true

module _ {K : Type 0} where
  -- what was taken of a mailbox
  abbrev pub taken_by_pair : Option (K × ℕ) → TakenPair K
  taken_by_pair (Some p) = Pair p.0 p.1
  taken_by_pair None = Nothing

  -- of a box: a pair has the weight of its slip
  abbrev pub taken_by_slip : Result (Option (Slip × K)) AllocError → TakenPair K
  taken_by_slip (Ok (Some p)) = Pair p.1 p.0.weight
  taken_by_slip (Ok None) = Nothing
  taken_by_slip (Err _) = NoMemory

  abbrev pub pair_in : TakenPair K → Option (K × ℕ)
  pair_in (Pair key weight) = Some (key, weight)
  pair_in Nothing = None
  pair_in NoMemory = None

  -- the slips at a seat after a take: one more, of the weight that was answered, where a pair was taken; else as before
  abbrev pub NotesTaken : List Slip → TakenPair K → List Slip → Type 0
  NotesTaken old (Pair key weight) new = (slip : Slip) × (slip.weight ≡ weight) × (new ≡ old ++ slip ∷ [])
  NotesTaken old Nothing new = new ≡ old
  NotesTaken old NoMemory new = new ≡ old

  -- the same of one who may have a seat: without one nothing is taken
  abbrev pub NotesAt : Option (List Slip) → TakenPair K → Option (List Slip) → Type 0
  NotesAt None taken new = (taken ≡ Nothing) × (new ≡ None)
  NotesAt (Some old) taken (Some new) = NotesTaken old taken new
  NotesAt (Some old) taken None = ⊥

module _ {B : Type 0} {R : Ghosts B} where
  -- the number of a seat, where there is one
  abbrev pub number_at : Option (TakeSeat B R) → Option ℕ
  number_at seat = option_map (λ s. s.number) seat

  -- the slips of what was taken with it
  abbrev pub taken_at : Option (TakeSeat B R) → Option (List Slip)
  taken_at seat = option_map (λ s. s.share.slips) seat
