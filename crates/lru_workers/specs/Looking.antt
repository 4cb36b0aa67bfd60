-- What one learns who looks at a weight.
use Rattle.std.specs.Prelude.{◌≡◌, ℕ, List, [], ◌∷◌, ◌++◌, Option}
use Rattle.lru_actors.specs.declared.message.LruMsg.{LruMsg}
use Rattle.lru_inbox.specs.declared.hand.Front.{Front}
use Rattle.lru_inbox.specs.Logs.{Begins, front, seen_of}
use Rattle.lru_inbox.specs.Replies.{IsWeight}

-- it is the weight of the hash among the rows that a beginning of the shard's log leaves, so many messages of which were refused: of
-- the same log as all that was seen. That beginning is seen too, behind what was seen before
abbrev pub LearnsWeight : {K : Type 0} → ℕ → ℕ → ℕ → List (Front (LruMsg K)) → Option ℕ → ℕ → List (Front (LruMsg K)) → Type 0
LearnsWeight {K} cap shard hash old weight refused new =
    (messages whole : List (LruMsg K)) × (new ≡ old ++ front shard messages ∷ []) × Begins messages whole × Begins (seen_of shard old) whole
    × ∥ IsWeight cap messages refused hash weight ∥₁

-- a weight that a hash may have in a shard under this cap, or none: there are messages that leave it
abbrev pub MayWeigh : (K : Type 0) → ℕ → ℕ → Option ℕ → Type 0
MayWeigh K most hash weight = ∥ ((messages : List (LruMsg K)) × ((refused : ℕ) × IsWeight most messages refused hash weight)) ∥₁
