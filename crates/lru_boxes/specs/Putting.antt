-- What a put and a take leave at a seat.
use Rattle.std.specs.Prelude.{◌≡◌, ℕ, List, [], ◌∷◌, ◌++◌, length, Option, Some, None, Result, Ok, Err}
use Rattle.std.specs.declared.alloc.AllocError.{AllocError}
use Rattle.lru_mailbox.specs.declared.mail_error.MailError.{MailError}
use Rattle.lru_mailbox.specs.declared.mail_error.MailError.TheVariants.{Memory, Closed, Waiting}
use Rattle.lru_mailbox.specs.declared.slip.Slip.{Slip}
use Rattle.lru_mailbox.specs.Slips.{slip_of}
use Rattle.lru_mailbox.specs.Ledger.{Book}

module _ {K : Type 0} where
  -- a put leaves one slip more, with this hash and weight and some number; or, for want of memory alone, the key is handed
  -- back and the slips are as before
  abbrev pub PutsSlip : List Slip → ℕ → K → ℕ → Result (Unit {0}) (MailError K) → List Slip → Type 0
  PutsSlip old hash key weight (Ok _) new = (number : ℕ) × (new ≡ old ++ slip_of number hash weight ∷ [])
  PutsSlip old hash key weight (Err (Memory held)) new = (held ≡ key) × (new ≡ old)
  PutsSlip old hash key weight (Err (Closed held)) new = ⊥
  PutsSlip old hash key weight (Err (Waiting held)) new = ⊥

  -- a take leaves the slip that it answers; or, where it answers none, the slips as before
  abbrev pub TakesSlip : List Slip → Result (Option (Slip × K)) AllocError → List Slip → Type 0
  TakesSlip old (Ok (Some pair)) new = new ≡ old ++ pair.0 ∷ []
  TakesSlip old (Ok None) new = new ≡ old
  TakesSlip old (Err _) new = new ≡ old

-- so many pairs may have waited: there is a box in which they do
abbrev pub MayWait : (K : Type 0) → ℕ → Type 0
MayWait K count = (b : Book K) × (length b.waiting ≡ count)
