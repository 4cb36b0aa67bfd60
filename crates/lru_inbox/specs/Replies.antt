-- What messages leave, and what a reply tells of it.
use Rattle.std.specs.Prelude.{◌≡◌, ℕ, ◌+◌, ◌%◌, ◌^◌, List, [], ◌∷◌, map, fold, Option, option_map, if◌then◌else◌}
use Rattle.lru_shard.specs.Row.{Row, pair_of, last_row, weight_of}
use Rattle.lru_shard.specs.Shard.{shard}
use Rattle.lru_actors.specs.declared.message.LruMsg.{LruMsg}
use Rattle.lru_actors.specs.declared.effect.Effect.{Effect}
use Rattle.lru_actors.specs.declared.effect.Reply.{Reply}
use Rattle.lru_actors.specs.declared.effect.Reply.TheVariants as reply
use Rattle.lru_actors.specs.Messages.{State, state_of, consumed, IsCloneOf, AreClones}
use Rattle.lru_actors.specs.Turns.{Turn, rows_left, refusals, weight_in, AreAllowed}

module _ {K : Type 0} where
  -- a shard, and the map of its rows' weights, are what these messages leave, one after the other. One was refused only where it
  -- would pass the cap or the greatest length, or where memory may have been wanted; and each was that the shard has to refuse
  pub record IsLeft (cap : ℕ) (messages : List (LruMsg K)) (s : State K) (look : ℕ → Option ℕ) : Type 0 where
    pub turns : List (Turn K)
    pub messages_are : map (λ t. t.msg) turns ≡ messages
    pub allowed : AreAllowed cap [] turns
    pub state : s ≡ state_of (shard (rows_left [] turns) cap) (refusals turns % 2 ^ 64)
    pub map_is : (h : ℕ) → look h ≡ weight_in (rows_left [] turns) h

  -- how many of these effects are refusals
  abbrev pub refused_in : List (Effect K) → ℕ
  refused_in [] = 0
  refused_in (e ∷ es) = (if e.refused then 1 else 0) + refused_in es

  -- the weight of this hash among the rows that these messages leave, so many of which were refused; none where it has no row
  pub record IsWeight (cap : ℕ) (messages : List (LruMsg K)) (refused hash : ℕ) (weight : Option ℕ) : Type 0 where
    pub turns : List (Turn K)
    pub messages_are : map (λ t. t.msg) turns ≡ messages
    pub allowed : AreAllowed cap [] turns
    pub refused_are : refusals turns ≡ refused
    pub weighs : weight ≡ weight_in (rows_left [] turns) hash

  -- `IsClone` is what a clone of a key may be
  module _ (IsClone : K → K → Type 0) where
    -- a reply tells of these rows
    abbrev pub Tells : List (Row K) → Reply K → Type 0
    Tells rows (reply.Weight w) = w ≡ weight_of rows
    Tells rows (reply.Lru found) = IsCloneOf IsClone (option_map pair_of (last_row rows)) found
    Tells rows (reply.Rows pairs) = AreClones IsClone (map pair_of rows) pairs.items
    Tells rows reply.Memory = Unit {0}

    -- it tells of the rows that these messages leave, so many of which were refused
    pub record IsReply (cap : ℕ) (messages : List (LruMsg K)) (refused : ℕ) (r : Reply K) : Type 0 where
      pub turns : List (Turn K)
      pub messages_are : map (λ t. t.msg) turns ≡ messages
      pub allowed : AreAllowed cap [] turns
      pub refused_are : refusals turns ≡ refused
      pub tells : Tells (rows_left [] turns) r

  -- the rows that these messages leave, one after the other, where none is refused
  abbrev pub rows_by : List (LruMsg K) → List (Row K)
  rows_by messages = fold consumed [] messages

  -- of messages none of which was refused, a reply tells of the rows that all of them leave,
  abbrev pub RepliesAreExact : (K → K → Type 0) → Type 0
  RepliesAreExact IsClone = (cap : ℕ) (messages : List (LruMsg K)) (r : Reply K) → IsReply IsClone cap messages 0 r → Tells IsClone (rows_by messages) r

-- and a weight is the one among those rows
abbrev pub WeightsAreExact : (K : Type 0) → Type 0
WeightsAreExact K =
    (cap : ℕ) (messages : List (LruMsg K)) (hash : ℕ) (weight : Option ℕ) → IsWeight cap messages 0 hash weight → weight ≡ weight_in (rows_by messages) hash
