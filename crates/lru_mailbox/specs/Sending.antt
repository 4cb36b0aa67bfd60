-- What a mailbox that threads share answers.
use Rattle.std.specs.Prelude.{◌≡◌, ℕ, List, ◌++◌, length, Result, Ok, Err}
use Rattle.lru_mailbox.specs.Mail.{Post, IsPost}
use Rattle.lru_mailbox.specs.declared.mail_error.MailError.{MailError}
use Rattle.lru_mailbox.specs.declared.mail_error.MailError.TheVariants.{Memory, Closed, Waiting}

module _ {M : Type 0} where
  -- a refused message is handed back: for want of memory, or since the mailbox is closed
  abbrev pub HandsBack : M → Result (Unit {0}) (MailError M) → Type 0
  HandsBack m (Ok _) = Unit {0}
  HandsBack m (Err (Memory held)) = held ≡ m
  HandsBack m (Err (Closed held)) = held ≡ m
  HandsBack m (Err (Waiting held)) = ⊥

  -- or since one like it waits
  abbrev pub HandsBackEvict : M → Result (Unit {0}) (MailError M) → Type 0
  HandsBackEvict m (Ok _) = Unit {0}
  HandsBackEvict m (Err (Memory held)) = held ≡ m
  HandsBackEvict m (Err (Closed held)) = held ≡ m
  HandsBackEvict m (Err (Waiting held)) = held ≡ m

  -- so many messages come after those that were there
  abbrev pub Gains : List M → ℕ → List M → Type 0
  Gains old count new = (gained : List M) × (length gained ≡ count) × (new ≡ old ++ gained)

-- so many messages may have waited: there is a mailbox in which they do
abbrev pub MayWait : (M : Type 0) → ℕ → Type 0
MayWait M count = (p : Post M) × IsPost p × (length p.waiting ≡ count)
