-- A mailbox whose messages stand in a log.
use Rattle.std.specs.Prelude.{◌≡◌, ℕ, ◌<◌, true, false, List, [], ◌∷◌, ◌++◌, length, map, Option, Some, None, IsSome, option_map, Result, Ok, Err, ◌⊎◌}
use Rattle.atomic_table.specs.Table.{Me}
use Rattle.lru_mailbox.specs.Mail.{Post, Mail, posted, urged}
use Rattle.lru_mailbox.specs.declared.mail_error.MailError.{MailError}
use Rattle.lru_mailbox.specs.declared.mail_error.MailError.TheVariants.{Memory, Closed, Waiting}
use Rattle.lru_actors.specs.declared.message.LruMsg.{LruMsg}
use Rattle.lru_actors.specs.declared.message.LruMsg.TheVariants.{Evict}
use Rattle.lru_actors.specs.declared.effect.Reply.{Reply}
use Rattle.lru_actors.specs.declared.letter.Letter.{Letter}
use Rattle.lru_inbox.specs.declared.voice.Voice.{Voice}
use Rattle.lru_inbox.specs.declared.tie.Archive.{Ghosts}
use Rattle.lru_inbox.specs.declared.hand.Log.{Log}
use Rattle.lru_inbox.specs.declared.hand.Front.{Front}
use Rattle.lru_inbox.specs.declared.hand.LogHand.{LogHand}
use Rattle.lru_inbox.specs.Replies.{IsReply}
use Rattle.lru_inbox.specs.Logs.{Begins, front, of_log, log_of, accepted, put_in, taken_by, seen_of, first_seen}

-- what was seen first of all that a hand has seen
abbrev pub shown : {E : Type 0} → LogHand E → List E
shown v = first_seen v.fronts

module _ {K T : Type 0} where
  abbrev pub messages_of : List (Letter K T) → List (LruMsg K)
  messages_of letters = map (λ l. l.message) letters

  -- a mailbox, and the log that its token speaks for
  pub record IsInbox (shard : ℕ) (p : Post (Letter K T)) (me : Me (Unit {0}) (LogHand (LruMsg K))) : Type 0 where
    pub speaks : me ≡ (of_log (log_of me.0), [])
    pub shard_is : (log_of me.0).shard ≡ shard
    -- what was put and not taken waits, or it was left behind
    pub waits : p.closed ≡ false → messages_of p.waiting ≡ (log_of me.0).left
    pub first_waits : 0 < length (messages_of p.waiting) → messages_of p.waiting ≡ (log_of me.0).left
    pub put : p.pushed ≡ length (accepted (log_of me.0))
    pub took : p.taken ≡ length (log_of me.0).taken

module _ {K : Type 0} where
  -- the log of a shard has grown, past all that was seen of it, by this message; and all of it was seen
  abbrev pub Sends : ℕ → LruMsg K → List (Front (LruMsg K)) → List (Front (LruMsg K)) → Type 0
  Sends shard message old new =
      (grown : List (LruMsg K)) × Begins (seen_of shard old) grown × (new ≡ front shard (grown ++ message ∷ []) ∷ old)

  -- a reply tells of the rows after a beginning of the shard's log that has all that was seen of it, so many messages of which were
  -- refused; without a reply nothing was learned
  abbrev pub Learns : (K → K → Type 0) → ℕ → ℕ → List (Front (LruMsg K)) → Option (Reply K) → ℕ → List (Front (LruMsg K)) → Type 0
  Learns IsClone cap shard old (Some reply) refused new =
      (seen : List (LruMsg K)) × Begins (seen_of shard old) seen × (new ≡ front shard seen ∷ old) × ∥ IsReply IsClone cap seen refused reply ∥₁
  Learns IsClone cap shard old None refused new = new ≡ old

module _ {K T : Type 0} where
  -- why a letter is not put, which is handed back: the mailbox is closed, or there is no memory for one more, or all numbers were given
  abbrev pub Refuses : Mail (Letter K T) → Letter K T → MailError (Letter K T) → Type 0
  Refuses old letter (Closed held) = (old.post.closed ≡ true) × (held ≡ letter)
  Refuses old letter (Memory held) = (old.post.closed ≡ false) × (held ≡ letter) × ((old.post.pushed ≡ 18446744073709551615) ⊎ (old.room ≡ 0))
  Refuses old letter (Waiting held) = ⊥

  -- a letter is put last, and its message comes last in the log; or it is refused, and nothing changes
  abbrev pub PutsLetter : {A : Type 0} → Mail (Letter K T) → Option (Log (LruMsg K)) → Letter K T → Result A (MailError (Letter K T)) → Mail (Letter K T) → Option (Log (LruMsg K)) → Type 0
  PutsLetter old l letter (Ok _) new l' =
      (old.post.closed ≡ false) × (new.post ≡ posted old.post letter) × (l' ≡ option_map (λ x. put_in x (letter.message ∷ [])) l)
  PutsLetter old l letter (Err refused) new l' = Refuses old letter refused × (new.post ≡ old.post) × (l' ≡ l)

  -- the same of a request for an eviction, of which one at most waits
  abbrev pub PutsEvict : Mail (Letter K T) → Option (Log (LruMsg K)) → Result (Unit {0}) (MailError (Letter K T)) → Mail (Letter K T) → Option (Log (LruMsg K)) → Type 0
  PutsEvict old l (Ok _) new l' =
      (letter : Letter K T) × (letter.message ≡ Evict) × (old.post.closed ≡ false) × (old.post.evict ≡ None) × (new.post ≡ urged old.post letter) × (l' ≡ option_map (λ x. put_in x (Evict ∷ [])) l)
  PutsEvict old l (Err (Waiting _)) new l' = (old.post.closed ≡ false) × IsSome old.post.evict × (new.post ≡ old.post) × (l' ≡ l)
  PutsEvict old l (Err (Closed _)) new l' = (old.post.closed ≡ true) × (new.post ≡ old.post) × (l' ≡ l)
  PutsEvict old l (Err (Memory _)) new l' =
      (old.post.closed ≡ false) × ((old.post.pushed ≡ 18446744073709551615) ⊎ ((old.post.evict ≡ None) × (old.room ≡ 0))) × (new.post ≡ old.post) × (l' ≡ l)

-- the log that is spoken for, and what was taken, where there is a log
abbrev pub log_in : {E B : Type 0} {A : Ghosts B} → Option (Voice E B A) → Option (Log E)
log_in voice = option_map (λ v. log_of v.token.me.0) voice

abbrev pub taken_in : {E B : Type 0} {A : Ghosts B} → Option (Voice E B A) → Option (List E)
taken_in voice = option_map (λ v. taken_by v.token.me.0) voice
