-- What becomes of the rows of a shard, and the slips of those that were evicted.
use Rattle.std.specs.Prelude.{◌≡◌, ℕ, ◌+◌, ◌%◌, ◌^◌, ◌==◌, List, [], ◌∷◌, ◌++◌, map, count_by, Option, None, option_map, option_to_list, if◌then◌else◌}
use Rattle.std.specs.Option.{ForSome}
use Rattle.lru_shard.specs.Row.{Row, last_row, times}
use Rattle.lru_shard.specs.Shard.{shard}
use Rattle.lru_mailbox.specs.declared.slip.Slip.{Slip}
use Rattle.lru_actors.specs.declared.message.LruMsg.{LruMsg}
use Rattle.lru_actors.specs.declared.message.LruMsg.TheVariants.{Evict}
use Rattle.lru_actors.specs.Messages.{State, state_of}
use Rattle.lru_actors.specs.Turns.{Turn, rows_after, rows_left, refusals, brings, removes, times_done, AreAllowed}
use Rattle.lru_inbox.specs.Replies.{IsLeft}

-- what a slip says of its row
abbrev pub row_of_slip : Slip → ℕ × ℕ
row_of_slip s = (s.hash, s.weight)

module _ {K : Type 0} where
  -- the hash and the weight of the row that a message takes out by eviction, where it is served: the last one
  abbrev pub evicted_row : List (Row K) → LruMsg K → Option (ℕ × ℕ)
  evicted_row rows Evict = option_map (λ r. (r.key, r.weight)) (last_row rows)
  evicted_row rows _ = None

  -- of the row that is evicted in a turn: none where its message was refused
  abbrev pub row_leaving : List (Row K) → Turn K → List (ℕ × ℕ)
  row_leaving rows t = if t.effect.refused then [] else option_to_list (evicted_row rows t.msg)

  -- of the rows that all turns evict, in order
  abbrev pub rows_evicted : List (Row K) → List (Turn K) → List (ℕ × ℕ)
  rows_evicted rows [] = []
  rows_evicted rows (t ∷ turns) = row_leaving rows t ++ rows_evicted (rows_after rows t) turns

  -- a shard, its map and the slips of its seat, if it has one, are what these messages leave: each row that was evicted has its
  -- slip, in order
  pub record IsKept (cap : ℕ) (messages : List (LruMsg K)) (s : State K) (look : ℕ → Option ℕ) (slips : Option (List Slip)) : Type 0 where
    pub left : IsLeft cap messages s look
    pub slips_are : ForSome slips (λ ss. map row_of_slip ss ≡ rows_evicted [] left.turns)

  -- the account of a shard after these messages: of each hash, the rows that ever came are held, were removed, or were evicted; and
  -- each that was evicted has one slip, with its weight, in order
  pub record IsAccount (cap : ℕ) (messages : List (LruMsg K)) (s : State K) (slips : List Slip) : Type 0 where
    pub turns : List (Turn K)
    pub messages_are : map (λ t. t.msg) turns ≡ messages
    pub allowed : AreAllowed cap [] turns
    pub state : s ≡ state_of (shard (rows_left [] turns) cap) (refusals turns % 2 ^ 64)
    pub slips_are : map row_of_slip slips ≡ rows_evicted [] turns
    pub hashes : (h : ℕ) → times_done (brings h) [] turns ≡ times h s.shard.rows + times_done (removes h) [] turns + count_by (λ x. x.hash == h) slips
