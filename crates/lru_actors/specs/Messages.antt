-- The messages of an actor: what each does to a shard's rows, to the map of weights by hash, and to what is evicted.
use Rattle.std.specs.Prelude.{◌≡◌, ℕ, ◌+◌, ◌%◌, ◌^◌, ◌<◌, ◌⊎◌, max, Bool, true, false, List, [], ◌∷◌, length, map, Option, Some, None, option_map, if◌then◌else◌, refl}
use Rattle.std.specs.Option.{option_map_or}
use Rattle.std.specs.Borrow.{Bor}
use Rattle.std.specs.Coded.{Coded, code_by, coded×, coded_ℕ}
use Rattle.lru_shard.specs.declared.unit.Cause.{Cause}
use Rattle.lru_shard.specs.Row.{Row, row, row_of, is_held, with_first, without, without_last, last_row, pair_of, weight_of}
use Rattle.lru_shard.specs.Shard.{Shard, shard, shard_code, size_of, refusal, MayRefuse}
use Rattle.lru_shard.specs.Unit.{grown, accessed, tailed}
use Rattle.lru_actors.specs.declared.message.LruMsg.{LruMsg}
use Rattle.lru_actors.specs.declared.message.LruMsg.TheVariants.{Admit, IncrementWeight, Promote, Remove, InsertTail, Evict, PeekLru, Snapshot, QueryWeight}
use Rattle.lru_actors.specs.declared.effect.Effect.{Effect}
use Rattle.lru_actors.specs.declared.effect.Reply.{Reply}
use Rattle.lru_actors.specs.declared.effect.Reply.TheVariants as reply

-- a shard, and how many messages it refused. The count begins again at 2 ^ 64
pub record State (K : Type 0) : Type 0 where
  pub shard : Shard K
  pub refused : ℕ

abbrev pub state_of : {K : Type 0} → Shard K → ℕ → State K
state_of s refused = record { shard = s; refused = refused }

abbrev pub state_code : {K : Type 0} → Coded K → Coded (State K)
state_code {K} code = code_by (Shard K × ℕ) (coded× (shard_code code) coded_ℕ) (λ s. (s.shard, s.refused)) (λ t. state_of t.0 t.1) (λ _. refl)

module _ {K : Type 0} where
  -- what is told of a row: its hash, its key and its weight
  abbrev pub listed : Row K → ℕ × (K × ℕ)
  listed r = (r.key, pair_of r)

  -- what an item of an iterator over rows shows
  abbrev pub told : (ℕ × Bor K × ℕ) → ℕ × (K × ℕ)
  told item = (item.0, (item.1.now, item.2))

  -- a row that is there keeps its key
  abbrev pub kept : List (Row K) → ℕ → K → K
  kept rows hash key = option_map_or (λ r. r.value) (row_of rows hash) key

  -- the rows after a message that is not refused
  abbrev pub consumed : List (Row K) → LruMsg K → List (Row K)
  consumed rows (Admit hash key weight) = with_first rows (row hash (kept rows hash key) (max weight 1))
  consumed rows (IncrementWeight hash key delta most) = with_first rows (row hash (kept rows hash key) (grown delta most (row_of rows hash)))
  consumed rows (Promote hash) = accessed rows hash
  consumed rows (Remove hash) = without rows hash
  consumed rows (InsertTail hash key weight) = tailed rows hash key weight
  consumed rows Evict = without_last rows
  consumed rows _ = rows

  -- the hash whose weight is set in the map, and that weight
  abbrev pub put_of : List (Row K) → LruMsg K → Option (ℕ × ℕ)
  put_of rows (Admit hash key weight) = Some (hash, max weight 1)
  put_of rows (IncrementWeight hash key delta most) = Some (hash, grown delta most (row_of rows hash))
  put_of rows (InsertTail hash key weight) = if is_held rows hash then None else Some (hash, weight)
  put_of rows _ = None

  -- the hash that leaves the map
  abbrev pub cleared_of : List (Row K) → LruMsg K → Option ℕ
  cleared_of rows (Remove hash) = option_map (λ _. hash) (row_of rows hash)
  cleared_of rows Evict = option_map (λ r. r.key) (last_row rows)
  cleared_of rows _ = None

  -- the pair that is evicted
  abbrev pub evicted_of : List (Row K) → LruMsg K → Option (K × ℕ)
  evicted_of rows Evict = option_map pair_of (last_row rows)
  evicted_of rows _ = None

  -- whether the limits are looked at afterwards
  abbrev pub looks : LruMsg K → Bool
  looks (Admit _ _ _) = true
  looks (IncrementWeight _ _ _ _) = true
  looks _ = false

  -- what refuses a message whatever memory there is
  abbrev pub refusal_of : Shard K → LruMsg K → Option Cause
  refusal_of s (Admit hash key weight) = refusal s.cap (size_of s.rows) (size_of (consumed s.rows (Admit hash key weight)))
  refusal_of s (IncrementWeight hash key delta most) = refusal s.cap (size_of s.rows) (size_of (consumed s.rows (IncrementWeight hash key delta most)))
  refusal_of s (InsertTail hash key weight) = refusal s.cap (size_of s.rows) (size_of (consumed s.rows (InsertTail hash key weight)))
  refusal_of s _ = None

  -- a message that brings a new row may be refused at any time, since memory may be wanting; one that changes a row, as its new weight may be
  abbrev pub MayBeRefused : Shard K → LruMsg K → Type 0
  MayBeRefused s (Admit hash key weight) =
      (row_of s.rows hash ≡ None) ⊎ ((cause : Cause) × MayRefuse s.cap (size_of s.rows) (size_of (consumed s.rows (Admit hash key weight))) cause)
  MayBeRefused s (IncrementWeight hash key delta most) =
      (row_of s.rows hash ≡ None) ⊎ ((cause : Cause) × MayRefuse s.cap (size_of s.rows) (size_of (consumed s.rows (IncrementWeight hash key delta most))) cause)
  MayBeRefused s (InsertTail hash key weight) =
      (cause : Cause) × MayRefuse s.cap (size_of s.rows) (size_of (consumed s.rows (InsertTail hash key weight))) cause
  MayBeRefused s _ = ⊥

  -- an effect that tells sizes alone
  abbrev pub quiet : ℕ × ℕ → ℕ × ℕ → Bool → Effect K
  quiet before after look = record {
    put = None;
    cleared = None;
    weight_before = before.0;
    weight_after = after.0;
    len_before = before.1;
    len_after = after.1;
    evicted = None;
    reply = None;
    refused = false;
    look = look;
  }

  -- how heavy and how long a shard is
  abbrev pub measure : List (Row K) → ℕ × ℕ
  measure rows = (weight_of rows, length rows)

  -- how heavy and how long the shard was, and is
  pub record IsMeasured (old : State K) (e : Effect K) (new : State K) : Type 0 where
    pub weight_before : e.weight_before ≡ weight_of old.shard.rows
    pub len_before : e.len_before ≡ length old.shard.rows
    pub weight_after : e.weight_after ≡ weight_of new.shard.rows
    pub len_after : e.len_after ≡ length new.shard.rows

  -- a refused message changes the count of those alone
  pub record IsRefused (old : State K) (msg : LruMsg K) (e : Effect K) (new : State K) : Type 0 where
    pub left : new ≡ state_of old.shard ((old.refused + 1) % 2 ^ 64)
    pub refused : e.refused ≡ true
    pub put : e.put ≡ None
    pub cleared : e.cleared ≡ None
    pub evicted : e.evicted ≡ None
    pub reply : e.reply ≡ None
    pub look : e.look ≡ looks msg
    pub measured : IsMeasured old e new

  -- `IsClone` is what a clone of a key may be
  module _ (IsClone : K → K → Type 0) where
    -- clones of the keys with their weights, in order
    abbrev pub AreClones : List (K × ℕ) → List (K × ℕ) → Type 0
    AreClones [] [] = Unit {0}
    AreClones (p ∷ ps) (q ∷ qs) = (IsClone p.0 q.0 × (q.1 ≡ p.1)) × AreClones ps qs
    AreClones _ _ = ⊥

    abbrev pub IsCloneOf : Option (K × ℕ) → Option (K × ℕ) → Type 0
    IsCloneOf None found = found ≡ None
    IsCloneOf (Some p) (Some q) = IsClone p.0 q.0 × (q.1 ≡ p.1)
    IsCloneOf (Some p) None = ⊥

    -- the reply to a message that asks; where something is to be cloned it may say that it found no memory
    abbrev pub Replies : List (Row K) → LruMsg K → Option (Reply K) → Type 0
    Replies rows QueryWeight (Some (reply.Weight w)) = w ≡ weight_of rows
    Replies rows PeekLru (Some (reply.Lru found)) = IsCloneOf (option_map pair_of (last_row rows)) found
    Replies rows PeekLru (Some reply.Memory) = 0 < length rows
    Replies rows Snapshot (Some (reply.Rows pairs)) = AreClones (map pair_of rows) pairs.items
    Replies rows Snapshot (Some reply.Memory) = Unit {0}
    Replies rows QueryWeight _ = ⊥
    Replies rows PeekLru _ = ⊥
    Replies rows Snapshot _ = ⊥
    Replies rows _ answer = answer ≡ None

    -- a message that is not refused
    pub record IsDone (old : State K) (msg : LruMsg K) (e : Effect K) (new : State K) : Type 0 where
      pub allowed : refusal_of old.shard msg ≡ None
      pub left : new ≡ state_of (shard (consumed old.shard.rows msg) old.shard.cap) old.refused
      pub refused : e.refused ≡ false
      pub put : e.put ≡ put_of old.shard.rows msg
      pub cleared : e.cleared ≡ cleared_of old.shard.rows msg
      pub evicted : e.evicted ≡ evicted_of old.shard.rows msg
      pub reply : Replies old.shard.rows msg e.reply
      pub look : e.look ≡ looks msg
      pub measured : IsMeasured old e new

    -- what a shard does with a message
    abbrev pub Steps : State K → LruMsg K → Effect K → State K → Type 0
    Steps old msg e new = IsDone old msg e new ⊎ (MayBeRefused old.shard msg × IsRefused old msg e new)
