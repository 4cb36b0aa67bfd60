-- What a mailbox of pairs, and a box with slips, are as queues.
use Rattle.std.specs.Prelude.{◌≡◌, ℕ, ◌%◌, ◌^◌, List, ◌∷◌, [], ◌++◌, length, map}
use Rattle.lru_mailbox.specs.Mail.{Post}
use Rattle.lru_mailbox.specs.declared.slip.Slip.{Slip}
use Rattle.lru_mailbox.specs.Ledger.{Book, slip_put, put}
use Rattle.lru_mailbox.specs.Queue.{Queue}

module _ {K : Type 0} where
  abbrev pub queue_of_post : Post (K × ℕ) → Queue K
  queue_of_post p = record { waiting = p.waiting; closed = p.closed; lost = p.lost }

  abbrev pub queue_of_book : Book K → Queue K
  queue_of_book b = record { waiting = map (λ (p : Slip × K). (p.1, p.0.weight)) b.waiting; closed = b.closed; lost = length b.lost % 2 ^ 64 }

  -- a pair is put into a box, with its slip in the share
  pub record IsPut (old : Book K) (share : List Slip) (hash : ℕ) (key : K) (weight : ℕ) (new : Book K) (share' : List Slip) : Type 0 where
    pub book : new ≡ put old hash key weight
    pub slips : share' ≡ share ++ slip_put old hash weight ∷ []
