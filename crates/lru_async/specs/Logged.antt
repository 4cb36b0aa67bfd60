-- What one who calls an order with logs has seen of them, and what its calls say of that.
use Rattle.std.specs.Prelude.{◌≡◌, ◌≢◌, ℕ, Bool, List, [], ◌∷◌, ◌++◌, Option, is_some}
use Rattle.lru_actors.specs.declared.message.LruMsg.{LruMsg}
use Rattle.lru_actors.specs.declared.effect.Reply.{Reply}
use Rattle.lru_actors.specs.declared.effect.Reply.TheVariants.{Rows}
use Rattle.lru_inbox.specs.declared.tie.Archive as archive
use Rattle.lru_inbox.specs.declared.hand.Front.{Front}
use Rattle.lru_inbox.specs.Logs.{Begins, seen_of}
use Rattle.lru_inbox.specs.declared.caller.Caller.{Caller}
use Rattle.lru_inbox.specs.Replies.{IsReply}
use Rattle.lru_workers.specs.Looking.{LearnsWeight}
use Rattle.lru_async.specs.declared.async_lru.ShardData.{ShardData}

module _ {K B : Type 0} {A : archive.Ghosts B} where
  -- what was seen of the logs
  abbrev pub fronts_of : Caller K B A → List (Front (LruMsg K))
  fronts_of caller = caller.voice.token.me.0.fronts

  -- the messages of a shard's log that were seen: a beginning of it
  abbrev pub seen : ℕ → Caller K B A → List (LruMsg K)
  seen shard caller = seen_of shard (fronts_of caller)

  -- of the other shards the same was seen
  abbrev pub OthersStay : ℕ → Caller K B A → Caller K B A → Type 0
  OthersStay shard old new = (t : ℕ) → t ≢ shard → seen t new ≡ seen t old

  -- of each log at least as much was seen
  pub record SeesMore (old new : Caller K B A) : Type 0 where
    pub more : (shard : ℕ) → Begins (seen shard old) (seen shard new)

  -- the log of a shard has grown, past all that was seen of it, by exactly this message
  abbrev pub Grew : ℕ → LruMsg K → Caller K B A → Caller K B A → Type 0
  Grew shard message old new =
      (grown : List (LruMsg K)) × Begins (seen shard old) grown × (seen shard new ≡ grown ++ message ∷ []) × OthersStay shard old new

  -- the log has grown, past all that was seen of it, by the question, and perhaps by more; and the reply tells of the rows that all
  -- these messages leave, so many of which were refused as the caller has noted
  abbrev pub Learned : (K → K → Type 0) → ℕ → ℕ → LruMsg K → Caller K B A → Reply K → Caller K B A → Type 0
  Learned IsClone cap shard question old reply new =
      (grown : List (LruMsg K)) × Begins (seen shard old) grown × Begins (grown ++ question ∷ []) (seen shard new) × OthersStay shard old new
      × ∥ IsReply IsClone cap (seen shard new) new.refused reply ∥₁

  -- one looks at the weight of a hash: it is that of the rows which a beginning of the shard's log leaves, and that is seen too. The
  -- caller has noted how many messages of it were refused
  abbrev pub Looked : ℕ → ℕ → ℕ → Caller K B A → Option ℕ → Caller K B A → Type 0
  Looked cap shard hash old weight new = LearnsWeight cap shard hash (fronts_of old) weight new.refused (fronts_of new)

  -- a row of this hash is found where a look tells of one; what was seen by the look is seen afterwards, and perhaps more
  abbrev pub Found : ℕ → ℕ → ℕ → Caller K B A → Bool → Caller K B A → Type 0
  Found cap shard hash old found new =
      (weight : Option ℕ) × (looked later : List (Front (LruMsg K))) × LearnsWeight cap shard hash (fronts_of old) weight new.refused looked × (fronts_of new ≡ later ++ looked) × (found ≡ is_some weight)

  -- these are the rows that some messages leave, which begin with all that was seen of the shard's log, and tell how many of those
  -- were refused
  abbrev pub IsRows : (K → K → Type 0) → ℕ → Caller K B A → ShardData K → Type 0
  IsRows IsClone cap caller rows =
      ∥ ((messages : List (LruMsg K)) × Begins (seen rows.shard_index caller) messages × IsReply IsClone cap messages rows.refused (Rows rows.items)) ∥₁
