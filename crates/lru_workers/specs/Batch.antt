-- A batch of an actor: what is kept of its letters, who is answered what, and what it changed.
use Rattle.std.specs.Prelude.{◌≡◌, ℕ, ◌+◌, ◌-◌, ◌%◌, ◌^◌, Bool, true, false, List, [], ◌∷◌, ◌++◌, length, map, sum_by, max, Option, None, Some, option_map, if◌then◌else◌}
use Rattle.lru_shard.specs.Row.{Row, weight_of}
use Rattle.lru_actors.specs.declared.message.LruMsg.{LruMsg}
use Rattle.lru_actors.specs.declared.message.LruMsg.TheVariants.{Evict, Promote, PeekLru, Snapshot, QueryWeight}
use Rattle.lru_actors.specs.declared.effect.Effect.{Effect}
use Rattle.lru_actors.specs.declared.effect.Reply.{Reply}
use Rattle.lru_actors.specs.Messages.{State}
use Rattle.lru_actors.specs.Processing.{ProcessesAll}
use Rattle.lru_mailbox.specs.Queue.{Queue}
use Rattle.lru_inbox.specs.Replies.{refused_in}
use Rattle.lru_mailbox.specs.declared.slip.Slip.{Slip}
use Rattle.lru_actors.specs.declared.letter.Letter.{Letter}
use Rattle.lru_workers.specs.Accounts.{row_of_slip, rows_evicted}
use Rattle.lru_actors.specs.Turns.{sent, turns_of, evictions}
use Rattle.lru_actors.specs.World.{PutsPair, IsSameQueue, itself, AtAnyTime}
use Rattle.lru_workers.specs.declared.bench.AskedLetter.{AskedLetter}
use Rattle.lru_workers.specs.declared.world.Change.{Change}

-- so many fewer, modulo 2 ^ 64
abbrev pub fewer : ℕ → ℕ → ℕ
fewer total n = (total + (2 ^ 64 - n)) % 2 ^ 64

-- the weight that a hash was set to; 0 where none was set
abbrev pub weight_told : Option (ℕ × ℕ) → ℕ
weight_told None = 0
weight_told (Some p) = p.1

module _ {K : Type 0} where
  abbrev pub is_evict : LruMsg K → Bool
  is_evict Evict = true
  is_evict _ = false

  -- any other message
  abbrev pub evicts_none : LruMsg K → Bool
  evicts_none Evict = false
  evicts_none _ = true

  -- a message that changes no weight and evicts nothing, whatever the rows are: it promotes, or asks
  abbrev pub stays_inside : LruMsg K → Bool
  stays_inside (Promote _) = true
  stays_inside PeekLru = true
  stays_inside Snapshot = true
  stays_inside QueryWeight = true
  stays_inside _ = false

  -- the pairs that a batch evicts, in order: those of the law's turns
  abbrev pub pairs_evicted : List (Row K) → List (LruMsg K) → List (Effect K) → List (K × ℕ)
  pairs_evicted rows msgs effects = evictions rows (turns_of (map (λ m. sent None m) msgs) effects)

  -- the weight that a message gave a row, and the greatest one that a batch gave
  abbrev pub weight_put : Effect K → ℕ
  weight_put e = weight_told e.put

  abbrev pub heaviest_put : List (Effect K) → ℕ
  heaviest_put [] = 0
  heaviest_put (e ∷ es) = max (weight_put e) (heaviest_put es)

  -- what each message of a batch is answered: its effect's reply, with how many messages were refused up to it, where so many were
  -- up to the last
  abbrev pub answers : ℕ → List (Effect K) → List (Option (Reply K × ℕ))
  answers total [] = []
  answers total (e ∷ es) = option_map (λ r. (r, fewer total (refused_in es))) e.reply ∷ answers total es

  -- how a batch changed a shard, and what it evicted
  pub record IsChange (old : State K) (msgs : List (LruMsg K)) (effects : List (Effect K)) (new : State K) (c : Change) : Type 0 where
    pub weight_before : c.weight_before ≡ weight_of old.shard.rows
    pub weight_after : c.weight_after ≡ weight_of new.shard.rows
    pub len_before : c.len_before ≡ length old.shard.rows
    pub len_after : c.len_after ≡ length new.shard.rows
    pub evicted_weight : c.evicted_weight ≡ sum_by (λ (p : K × ℕ). p.1) (pairs_evicted old.shard.rows msgs effects) % 2 ^ 64
    pub evicted_len : c.evicted_len ≡ length (pairs_evicted old.shard.rows msgs effects) % 2 ^ 64
    pub refused : c.refused ≡ new.refused
    pub heaviest : c.heaviest ≡ heaviest_put effects

  -- each row that a batch evicts has its slip, in order, after those that were there
  abbrev pub AddsSlips : List (Row K) → List (LruMsg K) → List (Effect K) → Option (List Slip) → Option (List Slip) → Type 0
  AddsSlips rows msgs es old new =
      (slips : List Slip) → new ≡ Some slips → (before : List Slip) × (old ≡ Some before) × (map row_of_slip slips ≡ map row_of_slip before ++ rows_evicted rows (turns_of (map (λ m. sent None m) msgs) es))

  -- `IsClone` is what a clone of a key may be
  module _ (IsClone : K → K → Type 0) where
    -- messages, one after the other, with the map of weights, and the effect of each; whatever the evicted pairs go into
    abbrev pub StepsFrom : State K → (ℕ → Option ℕ) → List (LruMsg K) → List (Effect K) → State K → (ℕ → Option ℕ) → Type 0
    StepsFrom old look msgs es new look' =
        (queue queue' : Queue K) × ProcessesAll PutsPair IsSameQueue itself IsClone AtAnyTime old look queue msgs es new look' queue'

    -- the same, whatever the map
    abbrev pub StepsAll : State K → List (LruMsg K) → List (Effect K) → State K → Type 0
    StepsAll old msgs es new = (look look' : ℕ → Option ℕ) × StepsFrom old look msgs es new look'

module _ {K T : Type 0} where
  -- what is kept of a letter, before its message is processed
  abbrev pub asked_by : Letter K T → AskedLetter K T
  asked_by l = record { evicts = is_evict l.message; cell = l.cell; reply = None }

  -- those who asked, each with the own answer
  abbrev pub replied : List (AskedLetter K T) → List (Option (Reply K × ℕ)) → List (AskedLetter K T)
  replied asked [] = asked
  replied [] (x ∷ xs) = []
  replied (a ∷ later) (x ∷ xs) = record a { reply = x } ∷ replied later xs

  -- the weight of the row that a message's eviction took, and how many rows it took
  abbrev pub weight_taken : AskedLetter K T × Effect K → ℕ
  weight_taken p = if p.0.evicts then p.1.weight_before - p.1.weight_after else 0

  abbrev pub rows_taken : AskedLetter K T × Effect K → ℕ
  rows_taken p = if p.0.evicts then p.1.len_before - p.1.len_after else 0
