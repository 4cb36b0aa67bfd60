-- A mailbox: the messages that wait, the first one first, and counts of what became of all that were put.
use Rattle.std.specs.Prelude.{◌≡◌, ℕ, ◌+◌, ◌-◌, ◌%◌, ◌^◌, ◌<◌, Bool, true, false, List, [], ◌∷◌, ◌++◌, length, take, drop, Option, Some, None, IfSome, IsSome, Result, Ok, Err, if◌then◌else◌, nat_lt, refl}
use Rattle.std.specs.Coded.{Coded, code_by, coded×, coded_ℕ, coded_bool, coded_list, coded_option}
use Rattle.lru_mailbox.specs.declared.mail_error.MailError.{MailError}
use Rattle.lru_mailbox.specs.declared.mail_error.MailError.TheVariants.{Memory, Closed, Waiting}

-- counts begin again at 2 ^ 64
abbrev pub counted : ℕ → ℕ
counted n = n % 2 ^ 64

-- a place in a queue after the first n have left it
abbrev pub moved_up : ℕ → Option ℕ → Option ℕ
moved_up n None = None
moved_up n (Some place) = if nat_lt place n then None else Some (place - n)

-- `evict` is the place among those waiting of the message that `push_evict` put, if one waits
pub record Post (M : Type 0) : Type 0 where
  pub waiting : List M
  pub evict : Option ℕ
  pub closed : Bool
  pub pushed : ℕ
  pub taken : ℕ
  pub lost : ℕ

-- with the room that was made for more messages
pub record Mail (M : Type 0) : Type 0 where
  pub post : Post M
  pub room : ℕ

module _ {M : Type 0} where
  abbrev pub post_of : List M → Option ℕ → Bool → ℕ → ℕ → ℕ → Post M
  post_of waiting evict closed pushed taken lost =
      record { waiting = waiting; evict = evict; closed = closed; pushed = pushed; taken = taken; lost = lost }

  abbrev pub mail_of : Post M → ℕ → Mail M
  mail_of post room = record { post = post; room = room }

  -- each message that was put was taken, is lost or waits, and the place is one of those waiting
  pub record IsPost (p : Post M) : Type 0 where
    pub counts : p.pushed ≡ counted (p.taken + p.lost + length p.waiting)
    pub place : IfSome p.evict (λ place. place < length p.waiting)

  abbrev pub empty : Post M
  empty = post_of [] None false 0 0 0

  -- a message is put last
  abbrev pub posted : Post M → M → Post M
  posted p m = record p { waiting = p.waiting ++ m ∷ []; pushed = counted (p.pushed + 1) }

  -- the same, and it is the one that waits as `push_evict` put it
  abbrev pub urged : Post M → M → Post M
  urged p m = record (posted p m) { evict = Some (length p.waiting) }

  -- the first n are taken, or as many as wait
  abbrev pub served : ℕ → Post M → Post M
  served n p = record p { waiting = drop n p.waiting; evict = moved_up n p.evict; taken = counted (p.taken + length (take n p.waiting)) }

  -- no message is put from now on
  abbrev pub shut : Post M → Post M
  shut p = record p { closed = true }

  -- the same, and what waits is lost
  abbrev pub left : Post M → Post M
  left p = record p { waiting = []; evict = None; closed = true; lost = counted (p.lost + length p.waiting) }

  -- a message that is put comes last, or where the mailbox is closed is lost
  abbrev pub posted_or_lost : Post M → M → Post M
  posted_or_lost p m = if p.closed then record p { pushed = counted (p.pushed + 1); lost = counted (p.lost + 1) } else posted p m

  -- a refusal hands the message back and changes nothing: the mailbox is closed, else its room is used up and no more was to be had
  abbrev pub Pushes : Mail M → M → Result (Unit {0}) (MailError M) → Mail M → Type 0
  Pushes old m (Ok _) new = (old.post.closed ≡ false) × (new.post ≡ posted old.post m)
  Pushes old m (Err (Closed held)) new = (old.post.closed ≡ true) × (held ≡ m) × (new ≡ old)
  Pushes old m (Err (Waiting held)) new = ⊥
  Pushes old m (Err (Memory held)) new = (old.post.closed ≡ false) × (old.room ≡ 0) × (held ≡ m) × (new.post ≡ old.post)

  -- the same, where it is refused too while one message that was put like this still waits
  abbrev pub PushesEvict : Mail M → M → Result (Unit {0}) (MailError M) → Mail M → Type 0
  PushesEvict old m (Ok _) new = (old.post.closed ≡ false) × (old.post.evict ≡ None) × (new.post ≡ urged old.post m)
  PushesEvict old m (Err (Closed held)) new = (old.post.closed ≡ true) × (held ≡ m) × (new ≡ old)
  PushesEvict old m (Err (Waiting held)) new = (old.post.closed ≡ false) × IsSome old.post.evict × (held ≡ m) × (new ≡ old)
  PushesEvict old m (Err (Memory held)) new = (old.post.closed ≡ false) × (old.post.evict ≡ None) × (old.room ≡ 0) × (held ≡ m) × (new.post ≡ old.post)

abbrev pub post_code : {M : Type 0} → Coded M → Coded (Post M)
post_code {M} code =
    code_by (List M × (Option ℕ × (Bool × (ℕ × (ℕ × ℕ)))))
    (coded× (coded_list code) (coded× (coded_option coded_ℕ) (coded× coded_bool (coded× coded_ℕ (coded× coded_ℕ coded_ℕ)))))
    (λ p. (p.waiting, (p.evict, (p.closed, (p.pushed, (p.taken, p.lost))))))
    (λ t. post_of t.0 t.1.0 t.1.1.0 t.1.1.1.0 t.1.1.1.1.0 t.1.1.1.1.1) (λ _. refl)

abbrev pub mail_code : {M : Type 0} → Coded M → Coded (Mail M)
mail_code {M} code =
    code_by (Post M × ℕ) (coded× (post_code code) coded_ℕ) (λ m. (m.post, m.room)) (λ t. mail_of t.0 t.1) (λ _. refl)

-- the number of a refusal
abbrev pub number_of : {M : Type 0} → MailError M → ℕ
number_of (Memory _) = 1
number_of (Closed _) = 2
number_of (Waiting _) = 3
