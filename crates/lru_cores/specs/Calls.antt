-- Calls of a core with their replies, and whole runs, over the stream of random words that evictions draw from: each call is
-- the shard's call on the key's own shard, an eviction, or a look.
use Rattle.std.specs.Prelude.{◌≡◌, ℕ, ◌+◌, ◌<◌, length, min, List, [], ◌∷◌, option_map, Ok, Err}
use Rattle.lru_cores.specs.declared.calls.Call.{Call}
use Rattle.lru_cores.specs.declared.calls.Call.TheVariants.{Admit, InsertTail, IncrementWeight, UpdateOrAdmit, SetWeight, Promote, PromoteTopN, Remove, EvictShard, EvictStep, EvictToLimit, SetWeightLimit, Peek, PeekWeight, PeekLru, Totals}
use Rattle.lru_cores.specs.declared.calls.Reply.{Reply}
use Rattle.lru_cores.specs.declared.calls.Reply.TheVariants.{Shard, Inserted, Weight, Updated, Was, Held, Left, Evicted, Known, Last, Totals as Counts, Done}
use Rattle.lru_shard.specs.Row.{row_of, is_held, pair_of, last_row, without}
use Rattle.lru_shard.specs.Unit.{accessed}
use Rattle.lru_cores.specs.Core.{Core, list_at, with_list, home, core_len, core_weight}
use Rattle.lru_cores.specs.CoreCalls.{CoreAdmits, CoreInsertsTail, CoreIncrements, CoreUpdates, CoreSetsWeight}
use Rattle.lru_shard.specs.ShardCalls.{promoted_past}
use Rattle.rand_core.specs.Stream.{Stream}
use Rattle.lru_cores.specs.Eviction.{EvictsFrom, EvictsWhereOver, EvictsToLimit, IsCutShort}

-- the shards of an eviction step are below n
abbrev pub IsAllowed : {T : Type 0} → ℕ → Call T → Type 0
IsAllowed n (EvictStep a b) = (a < n) × (b < n)
IsAllowed n _ = Unit {0}

module _ {T : Type 0} where
  -- data are replaced, and the weight grows
  abbrev pub Overwrites : T → ℕ → T → ℕ → ℕ → T → Type 0
  Overwrites present delta old weight given new = (given ≡ min (weight + delta) 18446744073709551615) × (new ≡ present)

  -- a call that draws nothing may give this reply, and leave this core; no other kind of reply is given
  abbrev pub Answers : Core T → Call T → Reply T → Core T → Type 0
  Answers old (Admit k d w) (Shard answer) new = CoreAdmits old k d w answer new
  Answers old (InsertTail k d w) (Inserted answer) new = CoreInsertsTail old k d w answer new
  Answers old (IncrementWeight k d delta most) (Weight answer) new = CoreIncrements (λ made. made ≡ d) old k delta most answer new
  Answers old (UpdateOrAdmit k present missing delta) (Updated answer) new =
      CoreUpdates (Overwrites present delta) (λ made. made ≡ (missing, delta)) old k answer new
  Answers old (SetWeight k w) (Was answer) new = CoreSetsWeight old k w answer new
  Answers old (Promote k) (Held answer) new =
      (answer ≡ is_held (list_at old (home old k)) k) × (new ≡ with_list old (home old k) (accessed (list_at old (home old k)) k))
  Answers old (PromoteTopN k top) (Held answer) new =
      (answer ≡ is_held (list_at old (home old k)) k) × (new ≡ with_list old (home old k) (promoted_past (list_at old (home old k)) k top))
  Answers old (Remove k) (Left answer) new =
      (answer ≡ option_map pair_of (row_of (list_at old (home old k)) k)) × (new ≡ with_list old (home old k) (without (list_at old (home old k)) k))
  Answers old (EvictShard s) (Left answer) new = EvictsFrom old (home old s) answer new
  Answers old (EvictStep a b) (Left answer) new = EvictsWhereOver old a b answer new
  Answers old (SetWeightLimit limit) Done new = new ≡ record old { weight_limit = limit }
  Answers old (Peek k) (Held answer) new = (answer ≡ is_held (list_at old (home old k)) k) × (new ≡ old)
  Answers old (PeekWeight k) (Known answer) new = (answer ≡ option_map (λ r. r.weight) (row_of (list_at old (home old k)) k)) × (new ≡ old)
  Answers old (PeekLru s) (Last (Ok found)) new = (found ≡ option_map pair_of (last_row (list_at old s))) × (new ≡ old)
  Answers old (PeekLru s) (Last (Err refused)) new = (0 < length (list_at old s)) × (new ≡ old)
  Answers old Totals (Counts n w en ew) new =
      ((n ≡ core_len old) × (w ≡ core_weight old)) × (((en ≡ old.evicted_len) × (ew ≡ old.evicted_weight)) × (new ≡ old))
  Answers old _ _ new = ⊥

  -- a call may give this reply, leave this core, and leave so much of the stream
  abbrev pub Gives : Core T → Stream → Call T → Reply T → Core T → Stream → Type 0
  Gives old words EvictToLimit (Evicted (Ok pairs)) new rest = EvictsToLimit old words pairs.items new rest
  Gives old words EvictToLimit (Evicted (Err stopped)) new rest = IsCutShort old words stopped.evicted.items new rest
  Gives old words EvictToLimit _ new rest = ⊥
  Gives old words call reply new rest = Answers old call reply new × (rest ≡ words)

  -- a run: each reply is one that its call may give where the calls before it have led
  abbrev pub Run : Core T → Stream → List (Call T) → List (Reply T) → Core T → Stream → Type 0
  Run old words [] [] new rest = (new ≡ old) × (rest ≡ words)
  Run old words (call ∷ calls) (reply ∷ replies) new rest =
      (mid : Core T) × ((left : Stream) × (Gives old words call reply mid left × Run mid left calls replies new rest))
  Run old words _ _ new rest = ⊥
