-- The messages that one actor consumed, in order, and what they leave. A turn is a message with its sender and the effect that it had.
use Rattle.std.specs.Prelude.{◌≡◌, ℕ, ◌+◌, ◌⊎◌, ◌==◌, ◌&&◌, not, Bool, true, false, List, [], ◌∷◌, ◌++◌, count_by, filter, fold, map, Option, None, option_to_list, option_map, if◌then◌else◌}
use Rattle.std.specs.Option.{option_map_or}
use Rattle.lru_shard.specs.Row.{Row, row_of, is_held, last_row}
use Rattle.lru_shard.specs.Shard.{shard}
use Rattle.lru_actors.specs.declared.message.LruMsg.{LruMsg}
use Rattle.lru_actors.specs.declared.message.LruMsg.TheVariants.{Admit, IncrementWeight, Remove, InsertTail, Evict}
use Rattle.lru_actors.specs.declared.effect.Effect.{Effect}
use Rattle.lru_actors.specs.Messages.{consumed, evicted_of, refusal_of, MayBeRefused, Replies}
use Rattle.lru_actors.specs.Processing.{MayWantRoom}

-- a message with the number of its sender; an eviction worker's has none
pub record Sent (K : Type 0) : Type 0 where
  pub by : Option ℕ
  pub msg : LruMsg K

pub record Turn (K : Type 0) : Type 0 where
  pub by : Option ℕ
  pub msg : LruMsg K
  pub effect : Effect K

module _ {K : Type 0} where
  abbrev pub sent : Option ℕ → LruMsg K → Sent K
  sent by msg = record { by = by; msg = msg }

  abbrev pub turn : Sent K → Effect K → Turn K
  turn x effect = record { by = x.by; msg = x.msg; effect = effect }

  -- the message that was consumed, with its sender
  abbrev pub sent_of : Turn K → Sent K
  sent_of t = sent t.by t.msg

  -- the turns of messages whose effects are these, in order
  abbrev pub turns_of : List (Sent K) → List (Effect K) → List (Turn K)
  turns_of (x ∷ xs) (e ∷ es) = turn x e ∷ turns_of xs es
  turns_of _ _ = []

  -- the messages of one sender, in order
  abbrev pub messages_of : ℕ → List (Sent K) → List (LruMsg K)
  messages_of by xs = map (λ (x : Sent K). x.msg) (filter (λ x. option_map_or (λ number. number == by) x.by false) xs)

  -- the rows after a turn; a refused message changes none
  abbrev pub rows_after : List (Row K) → Turn K → List (Row K)
  rows_after rows t = if t.effect.refused then rows else consumed rows t.msg

  -- the rows that all turns leave, one after the other
  abbrev pub rows_left : List (Row K) → List (Turn K) → List (Row K)
  rows_left rows turns = fold rows_after rows turns

  abbrev pub refusals : List (Turn K) → ℕ
  refusals turns = count_by (λ t. t.effect.refused) turns

  -- the pair that a message evicts, if it is not refused
  abbrev pub leaving : List (Row K) → Turn K → List (K × ℕ)
  leaving rows t = if t.effect.refused then [] else option_to_list (evicted_of rows t.msg)

  -- the pairs that all turns evict, in order
  abbrev pub evictions : List (Row K) → List (Turn K) → List (K × ℕ)
  evictions rows [] = []
  evictions rows (t ∷ turns) = leaving rows t ++ evictions (rows_after rows t) turns

  -- the weight of a hash, if it has a row
  abbrev pub weight_in : List (Row K) → ℕ → Option ℕ
  weight_in rows h = option_map (λ r. r.weight) (row_of rows h)

  -- a turn is refused only where it may be: by the shard's cap and length, or for want of memory; and one that the shard has to refuse is refused
  abbrev pub IsAllowed : ℕ → List (Row K) → Turn K → Type 0
  IsAllowed cap rows t =
      ((t.effect.refused ≡ false) × (refusal_of (shard rows cap) t.msg ≡ None))
      ⊎ ((t.effect.refused ≡ true) × (MayBeRefused (shard rows cap) t.msg ⊎ MayWantRoom (Unit {0}) (weight_in rows) rows t.msg))

  abbrev pub AreAllowed : ℕ → List (Row K) → List (Turn K) → Type 0
  AreAllowed cap rows [] = Unit {0}
  AreAllowed cap rows (t ∷ turns) = IsAllowed cap rows t × AreAllowed cap (rows_after rows t) turns

  -- a message brings the row of a hash, where it has none
  abbrev pub brings : ℕ → List (Row K) → LruMsg K → Bool
  brings h rows (Admit hash _ _) = hash == h && not (is_held rows hash)
  brings h rows (IncrementWeight hash _ _ _) = hash == h && not (is_held rows hash)
  brings h rows (InsertTail hash _ _) = hash == h && not (is_held rows hash)
  brings h rows _ = false

  -- it takes the row of a hash out
  abbrev pub removes : ℕ → List (Row K) → LruMsg K → Bool
  removes h rows (Remove hash) = hash == h && is_held rows hash
  removes h rows _ = false

  -- it evicts the row of a hash
  abbrev pub evicts : ℕ → List (Row K) → LruMsg K → Bool
  evicts h rows Evict = option_map_or (λ r. r.key == h) (last_row rows) false
  evicts h rows _ = false

  -- how many turns did this
  abbrev pub times_done : (List (Row K) → LruMsg K → Bool) → List (Row K) → List (Turn K) → ℕ
  times_done does rows [] = 0
  times_done does rows (t ∷ turns) = (if not t.effect.refused && does rows t.msg then 1 else 0) + times_done does (rows_after rows t) turns

  -- `IsClone` is what a clone of a key may be
  module _ (IsClone : K → K → Type 0) where
    -- a turn is answered as the rows before it say; a refused one has no answer
    abbrev pub IsAnswered : List (Row K) → Turn K → Type 0
    IsAnswered rows t = ((t.effect.refused ≡ true) × (t.effect.reply ≡ None)) ⊎ ((t.effect.refused ≡ false) × Replies IsClone rows t.msg t.effect.reply)

    abbrev pub AreAnswered : List (Row K) → List (Turn K) → Type 0
    AreAnswered rows [] = Unit {0}
    AreAnswered rows (t ∷ turns) = IsAnswered rows t × AreAnswered (rows_after rows t) turns
