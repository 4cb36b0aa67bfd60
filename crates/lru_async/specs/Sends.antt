-- The messages that calls send, and what a refusal tells.
use Rattle.std.specs.Prelude.{ℕ, ◌%◌, Option, Some, None, Result, Ok, Err}
use Rattle.lru_mailbox.specs.declared.mail_error.MailError.{MailError}
use Rattle.lru_mailbox.specs.declared.mail_error.MailError.TheVariants as mail
use Rattle.lru_actors.specs.declared.message.LruMsg.{LruMsg}
use Rattle.lru_actors.specs.declared.message.LruMsg.TheVariants.{Admit, IncrementWeight, InsertTail}
use Rattle.lru_actors.specs.declared.effect.Reply.{Reply}
use Rattle.lru_actors.specs.declared.effect.Reply.TheVariants as reply
use Rattle.lru_actors.specs.declared.letter.Letter.{Letter}
use Rattle.lru_async.specs.declared.sends.Addressed.{Addressed}
use Rattle.lru_async.specs.declared.sends.Heard.{Heard}
use Rattle.lru_async.specs.declared.refusals.SendRefused.{SendRefused}
use Rattle.lru_async.specs.declared.refusals.SendRefused.TheVariants.{Memory, Closed}

module _ {K : Type 0} where
  -- a message for the shard of this hash, among so many
  abbrev pub addressed : ℕ → ℕ → LruMsg K → Addressed K
  addressed shards hash message = record { shard = hash % shards; message = message }

  -- the key that a message brings
  abbrev pub key_in : LruMsg K → Option K
  key_in (Admit _ key _) = Some key
  key_in (IncrementWeight _ key _ _) = Some key
  key_in (InsertTail _ key _) = Some key
  key_in _ = None

  -- a question is answered, or there was no memory for the answer, or the message was left behind
  abbrev pub answered_by : Option (Reply K) → Result (Option (Reply K)) (SendRefused (Unit {0}))
  answered_by None = Err (Closed tt)
  answered_by (Some reply.Memory) = Err (Memory tt)
  answered_by (Some (reply.Weight w)) = Ok (Some (reply.Weight w))
  answered_by (Some (reply.Lru found)) = Ok (Some (reply.Lru found))
  answered_by (Some (reply.Rows pairs)) = Ok (Some (reply.Rows pairs))

  abbrev pub heard : Reply K → ℕ → Heard K
  heard r refused = record { reply = r; refused = refused }

  -- the same, with how many messages were refused up to the question
  abbrev pub heard_by : Option (Reply K × ℕ) → Result (Heard K) (SendRefused (Unit {0}))
  heard_by None = Err (Closed tt)
  heard_by (Some (reply.Memory, _)) = Err (Memory tt)
  heard_by (Some (reply.Weight w, n)) = Ok (heard (reply.Weight w) n)
  heard_by (Some (reply.Lru found, n)) = Ok (heard (reply.Lru found) n)
  heard_by (Some (reply.Rows pairs, n)) = Ok (heard (reply.Rows pairs) n)

module _ {K T : Type 0} where
  -- a mailbox refuses what is put by `push` for want of memory, or since it is closed
  abbrev pub IsMailRefusal : MailError (Letter K T) → Type 0
  IsMailRefusal (mail.Memory _) = Unit {0}
  IsMailRefusal (mail.Closed _) = Unit {0}
  IsMailRefusal (mail.Waiting _) = ⊥

  -- and so the message is refused
  abbrev pub refused_by : MailError (Letter K T) → Option (SendRefused (LruMsg K))
  refused_by (mail.Memory letter) = Some (Memory letter.message)
  refused_by (mail.Closed letter) = Some (Closed letter.message)
  refused_by (mail.Waiting _) = None
