-- What threads put into a mailbox with its log, and take from it.
use Rattle.std.specs.Prelude.{◌≡◌, ℕ, List, ◌++◌, length, Option, option_map}
use Rattle.lru_mailbox.specs.declared.mail_error.MailError.{MailError}
use Rattle.lru_mailbox.specs.declared.mail_error.MailError.TheVariants.{Memory, Closed, Waiting}
use Rattle.lru_actors.specs.declared.message.LruMsg.{LruMsg}
use Rattle.lru_actors.specs.declared.letter.Letter.{Letter}
use Rattle.lru_inbox.specs.Inboxes.{messages_of}

module _ {K T : Type 0} where
  -- a refused letter is handed back: for want of memory, or since the mailbox is closed
  abbrev pub IsHandedBack : Letter K T → MailError (Letter K T) → Type 0
  IsHandedBack letter (Memory held) = held ≡ letter
  IsHandedBack letter (Closed held) = held ≡ letter
  IsHandedBack letter (Waiting held) = ⊥

  -- so many letters come after those that were there, and their messages after those that were taken, where these are known
  abbrev pub Takes : List (Letter K T) → Option (List (LruMsg K)) → ℕ → List (Letter K T) → Option (List (LruMsg K)) → Type 0
  Takes old taken count new taken' =
      (gained : List (Letter K T)) × (length gained ≡ count) × (new ≡ old ++ gained) × (taken' ≡ option_map (λ t. t ++ messages_of gained) taken)
