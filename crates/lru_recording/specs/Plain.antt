-- A plain list of keys and weights, most recent first: what each call replies, and which list it leaves.
use Rattle.std.specs.Prelude.{◌≡◌, ℕ, max, not, List, map, Option, Some, None}
use Rattle.std.specs.Option.{option_map_or}
use Rattle.lru_shard.specs.Row.{Row, row, row_of, is_held, with_first, without, with_weight, last_row, without_last}
use Rattle.lru_shard.specs.Shard.{size_of, refusal}
use Rattle.lru_shard.specs.Unit.{grown, weight_at, tailed, accessed}
use Rattle.lru_shard.specs.ShardCalls.{promoted_past}
use Rattle.lru_recording.specs.declared.entry.Call.{Call}
use Rattle.lru_recording.specs.declared.entry.Call.TheVariants.{Admit, InsertTail, IncrementWeight, IncrementWeightUpTo, UpdateOrAdmit, SetWeight, Promote, PromoteTopN, EvictShard, EvictToLimit, Remove, Peek, PeekWeight, PeekLru}
use Rattle.lru_recording.specs.declared.entry.Reply.{Reply}
use Rattle.lru_recording.specs.declared.entry.Reply.TheVariants.{Flag, Weight, Found, NotFound, Refused}

-- a row without data
abbrev pub Plain : Type 0
Plain = Row (Unit {0})

abbrev pub plain : {T : Type 0} → Row T → Plain
plain r = row r.key tt r.weight

abbrev pub forget : {T : Type 0} → List (Row T) → List Plain
forget rows = map plain rows

-- the list that a call leaves, and its reply
pub record Step : Type 0 where
  pub rows : List Plain
  pub reply : Reply

abbrev pub step : List Plain → Reply → Step
step rows reply = record { rows = rows; reply = reply }

-- the weight of a row, if there is one
abbrev pub found : Option Plain → Reply
found None = NotFound
found (Some r) = Found r.weight

-- the new list, unless it is refused for its length or its weight
abbrev pub unless_refused : ℕ → List Plain → List Plain → Reply → Step
unless_refused cap rows new reply = option_map_or (λ cause. step rows (Refused cause)) (refusal cap (size_of rows) (size_of new)) (step new reply)

abbrev pub increment : ℕ → List Plain → ℕ → ℕ → Option ℕ → Step
increment cap rows k delta most =
    let w = grown delta most (row_of rows k) in unless_refused cap rows (with_first rows (row k tt w)) (Weight w)

-- a call on a list under this cap
abbrev pub called : ℕ → List Plain → Call → Step
called cap rows (Admit k w) = unless_refused cap rows (with_first rows (row k tt (max w 1))) (Weight (weight_at rows k))
called cap rows (InsertTail k w) = unless_refused cap rows (tailed rows k tt w) (Flag (not (is_held rows k)))
called cap rows (IncrementWeight k delta) = increment cap rows k delta None
called cap rows (IncrementWeightUpTo k delta most) = increment cap rows k delta (Some most)
called cap rows (UpdateOrAdmit k w) = unless_refused cap rows (with_first rows (row k tt w)) (found (row_of rows k))
called cap rows (SetWeight k w) = unless_refused cap rows (with_weight rows k (max w 1)) (found (row_of rows k))
called cap rows (Promote k) = step (accessed rows k) (Flag (is_held rows k))
called cap rows (PromoteTopN k top) = step (promoted_past rows k top) (Flag (is_held rows k))
called cap rows (EvictShard s) = step (without_last rows) (found (last_row rows))
called cap rows EvictToLimit = step (without_last rows) (found (last_row rows))
called cap rows (Remove k) = step (without rows k) (found (row_of rows k))
called cap rows (Peek k) = step rows (Flag (is_held rows k))
called cap rows (PeekWeight k) = step rows (found (row_of rows k))
called cap rows PeekLru = step rows (found (last_row rows))
