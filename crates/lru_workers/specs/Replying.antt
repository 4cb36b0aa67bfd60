-- What an actor answers.
use Rattle.std.specs.Prelude.{◌≡◌, ℕ, suc, ◌+◌, ◌≤◌, ◌<◌, ◌^◌, List, [], ◌++◌, length, take, slice_get, Option, Some}
use Rattle.std.specs.Option.{ForSome}
use Rattle.lru_actors.specs.declared.message.LruMsg.{LruMsg}
use Rattle.lru_actors.specs.declared.effect.Reply.{Reply}
use Rattle.lru_inbox.specs.declared.tie.Archive as archive
use Rattle.lru_inbox.specs.declared.voice.Voice.{Voice}
use Rattle.lru_inbox.specs.Logs.{hand, blank_fronts}
use Rattle.lru_inbox.specs.Replies.{IsReply}

-- each reply tells of the rows after its own message, with how many messages were refused up to that, where the first of these
-- messages comes after so many that were taken before
abbrev pub AreReplies : {K : Type 0} → (K → K → Type 0) → ℕ → List (LruMsg K) → ℕ → List (Option (Reply K × ℕ)) → Type 0
AreReplies {K} IsClone cap taken before replies =
    (i : ℕ) (r : Reply K) (refused : ℕ) → slice_get replies i ≡ Some (Some (r, refused)) → ∥ IsReply IsClone cap (take (before + suc i) taken) refused r ∥₁

-- nothing was taken, as far as it is known
abbrev pub HasNothing : {A : Type 0} → Option (List A) → Type 0
HasNothing taken = ForSome taken (λ t. t ≡ [])

-- after so many messages at least so many more were taken, and all that were taken are fewer than the numbers of messages
abbrev pub TookPast : {A : Type 0} → ℕ → ℕ → List A → Type 0
TookPast before count taken = (before + count ≤ length taken) × (length taken < 2 ^ 64)

-- these messages were taken after so many before
abbrev pub Gains : {A : Type 0} → ℕ → List A → List A → Type 0
Gains {A} before gained taken = (first : List A) × (length first ≡ before) × (taken ≡ first ++ gained)

-- what speaks for those who take from so many shards, from this one on, none of whom took anything
abbrev pub AreTakers : {E B : Type 0} {A : archive.Ghosts B} → ℕ → ℕ → Option (Voice E B A) → Type 0
AreTakers from count voice = ForSome voice (λ v. v.token.me ≡ (hand [] (blank_fronts from count) [], []))
