-- A message processed with the map of weights by hash, and with the queue of evicted pairs.
use Rattle.std.specs.Prelude.{◌≡◌, ℕ, ◌<◌, ◌⊎◌, cond, eqb, List, [], ◌∷◌, length, Option, Some, None}
use Rattle.lru_shard.specs.Row.{Row}
use Rattle.lru_mailbox.specs.Queue.{Queue, dispatched}
use Rattle.lru_actors.specs.declared.message.LruMsg.{LruMsg}
use Rattle.lru_actors.specs.declared.message.LruMsg.TheVariants.{Admit, IncrementWeight, InsertTail, Evict}
use Rattle.lru_actors.specs.declared.effect.Effect.{Effect}
use Rattle.lru_actors.specs.Messages.{State, evicted_of, MayBeRefused, IsRefused, IsDone}

-- the map with a hash set, and with one taken out. `look` is a map as a function
abbrev pub set_in : Option (ℕ × ℕ) → (ℕ → Option ℕ) → ℕ → Option ℕ
set_in None look k = look k
set_in (Some p) look k = cond (eqb p.0 k) (Some p.1) (look k)

abbrev pub mapped : Option (ℕ × ℕ) → Option ℕ → (ℕ → Option ℕ) → ℕ → Option ℕ
mapped put None look k = set_in put look k
mapped put (Some h) look k = cond (eqb h k) None (set_in put look k)

module _ {K : Type 0} where
  -- an evicted pair is dispatched
  abbrev pub queued : Option (K × ℕ) → Queue K → Queue K
  queued None q = q
  queued (Some p) q = dispatched q p.0 p.1

  -- a map with so much room can take what the message may set
  abbrev pub MapHasRoom : (ℕ → Option ℕ) → ℕ → LruMsg K → Type 0
  MapHasRoom look spare (Admit hash _ _) = look hash ≡ None → 0 < spare
  MapHasRoom look spare (IncrementWeight hash _ _ _) = look hash ≡ None → 0 < spare
  MapHasRoom look spare (InsertTail hash _ _) = look hash ≡ None → 0 < spare
  MapHasRoom look spare _ = Unit {0}

  -- there is room for a pair, where the message may evict one
  abbrev pub HasPlace : Type 0 → List (Row K) → LruMsg K → Type 0
  HasPlace HasRoom rows Evict = 0 < length rows → HasRoom
  HasPlace HasRoom rows _ = Unit {0}

  -- room may be wanted: in the map for a hash that it has not, or in the queue, where this may refuse it, for a pair that is evicted
  abbrev pub MayWantRoom : Type 0 → (ℕ → Option ℕ) → List (Row K) → LruMsg K → Type 0
  MayWantRoom MayRefuse look rows (Admit hash _ _) = look hash ≡ None
  MayWantRoom MayRefuse look rows (IncrementWeight hash _ _ _) = look hash ≡ None
  MayWantRoom MayRefuse look rows (InsertTail hash _ _) = look hash ≡ None
  MayWantRoom MayRefuse look rows Evict = (0 < length rows) × MayRefuse
  MayWantRoom MayRefuse look rows _ = ⊥

  -- `Puts` and `IsSame` are what a put into the queue does, and what making room there leaves
  module _ {D : Type 0} (Puts : D → ℕ → K → ℕ → D → Type 0) (IsSame : D → D → Type 0) (queue : D → Queue K) where
    -- nothing but room was made
    abbrev pub IsKept : D → D → Type 0
    IsKept old new = (new ≡ old) ⊎ IsSame old new

    -- an evicted pair is put, with the hash of its row
    abbrev pub HandsOver : Option ℕ → Option (K × ℕ) → D → D → Type 0
    HandsOver cleared None old new = new ≡ old
    HandsOver (Some hash) (Some p) old new = Puts old hash p.0 p.1 new
    HandsOver None (Some p) old new = ⊥

    module _ (IsClone : K → K → Type 0) where
      -- a message that is served: the effect is the shard's, but that the evicted pair has gone into the queue
      pub record IsServed (old : State K) (look : ℕ → Option ℕ) (d : D) (msg : LruMsg K) (e : Effect K) (new : State K) (look' : ℕ → Option ℕ) (d' : D) : Type 0 where
        pub done : IsDone IsClone old msg (record e { evicted = evicted_of old.shard.rows msg }) new
        pub evicted : e.evicted ≡ None
        pub map : (k : ℕ) → look' k ≡ mapped e.put e.cleared look k
        pub queue_is : queue d' ≡ queued (evicted_of old.shard.rows msg) (queue d)
        pub roomy : D
        pub room : IsKept d roomy
        pub handed : HandsOver e.cleared (evicted_of old.shard.rows msg) roomy d'

      -- `MayRefuse` is where the queue may refuse room
      module _ (MayRefuse : D → Type 0) where
        -- a message that is refused
        pub record IsTurnedAway (old : State K) (look : ℕ → Option ℕ) (d : D) (msg : LruMsg K) (e : Effect K) (new : State K) (look' : ℕ → Option ℕ) (d' : D) : Type 0 where
          pub may : MayBeRefused old.shard msg ⊎ MayWantRoom (MayRefuse d) look old.shard.rows msg
          pub refused : IsRefused old msg e new
          pub map : (k : ℕ) → look' k ≡ look k
          pub queue_is : queue d' ≡ queue d
          pub kept : IsKept d d'

        abbrev pub Processes : State K → (ℕ → Option ℕ) → D → LruMsg K → Effect K → State K → (ℕ → Option ℕ) → D → Type 0
        Processes old look d msg e new look' d' = IsServed old look d msg e new look' d' ⊎ IsTurnedAway old look d msg e new look' d'

        -- messages processed one after the other, and the effect of each
        abbrev pub ProcessesAll : State K → (ℕ → Option ℕ) → D → List (LruMsg K) → List (Effect K) → State K → (ℕ → Option ℕ) → D → Type 0
        ProcessesAll old look d [] [] new look' d' = (new ≡ old) × (((k : ℕ) → look' k ≡ look k) × (d' ≡ d))
        ProcessesAll old look d (msg ∷ msgs) (e ∷ es) new look' d' =
            (mid : State K) × ((between : ℕ → Option ℕ) × ((queue_between : D)
            × (Processes old look d msg e mid between queue_between × ProcessesAll mid between queue_between msgs es new look' d')))
        ProcessesAll old look d _ _ new look' d' = ⊥
