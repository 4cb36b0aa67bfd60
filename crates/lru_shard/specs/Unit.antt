-- The calls of a shard: what each may answer, and which rows it leaves.
use Rattle.std.specs.Prelude.{◌≡◌, ℕ, ◌+◌, min, max, not, Bool, true, false, List, map, take, Option, Some, None, Result, Ok, Err, if◌then◌else◌, option_map, IsTrue, IsFalse}
use Rattle.std.specs.Option.{option_map_or}
use Rattle.std.specs.List.{FoldsTo}
use Rattle.std.specs.Borrow.{Bor, MutBor}
use Rattle.lru_shard.specs.declared.unit.Refused.{Refused}
use Rattle.lru_shard.specs.declared.unit.RefusedUpdate.{RefusedUpdate}
use Rattle.lru_shard.specs.declared.unit.Cause.{Cause}
use Rattle.lru_shard.specs.declared.unit.Cause.TheVariants.{Memory, Weight, Length}
use Rattle.lru_shard.specs.Row.{Row, row, row_of, pair_of, is_held, without, with_first, with_last, with_weight, with_value}
use Rattle.lru_shard.specs.Shard.{Shard, shard, size_of, and_row, is_full, refusal, MayRefuse, Accepts, Declines, Refuses}

-- a present row grows by delta, up to the most but never down to it; no weight is above the greatest number
abbrev pub raised : ℕ → ℕ → Option ℕ → ℕ
raised w delta None = min (w + delta) 18446744073709551615
raised w delta (Some most) = max (min (min (w + delta) 18446744073709551615) most) w

-- a new row starts with delta, at most the most, and with no less than 1
abbrev pub started : ℕ → Option ℕ → ℕ
started delta None = max delta 1
started delta (Some most) = max (min delta most) 1

-- a closure that was lent the data, and given the weight, may give this weight and leave this data. `post` is the closure's own relation
pub record Updates {T : Type 0} (post : MutBor T → ℕ → ℕ → MutBor T → Type 0) (old : T) (weight given : ℕ) (new : T) : Type 0 where
  pub lent : MutBor T
  pub left : MutBor T
  pub shows : lent.now ≡ old
  pub called : post lent weight given left
  pub leaves : left.now ≡ new

module _ {T : Type 0} where
  -- what a row weighs once it is raised, or started where there is none
  abbrev pub grown : ℕ → Option ℕ → Option (Row T) → ℕ
  grown delta most was = option_map_or (λ r. raised r.weight delta most) was (started delta most)

  -- what an item of an iterator over rows shows
  abbrev pub shown : Bor T × ℕ → T × ℕ
  shown item = (item.0.now, item.1)

  -- a closure was called with the data and the weight of each of these rows, in order
  abbrev pub VisitsEach : {F : Type 0} → (F → Bor T × ℕ → F → Type 0) → F → List (Row T) → Type 0
  VisitsEach {F} Step visit rows =
      (items : List (Bor T × ℕ)) × ((left : F) × ((map shown items ≡ map pair_of rows) × FoldsTo Step visit items left))

  -- the weight that a key has, 0 where it has no row
  abbrev pub weight_at : List (Row T) → ℕ → ℕ
  weight_at rows k = option_map_or (λ r. r.weight) (row_of rows k) 0

  -- `admit`: the row is put first, in place of its key's; the answer is the weight that the key had
  abbrev pub Admits : Shard T → ℕ → T → ℕ → Result ℕ (Refused T) → Shard T → Type 0
  Admits old k d w (Ok was) new = (was ≡ weight_at old.rows k) × Accepts old new (with_first old.rows (row k d w))
  Admits old k d w (Err r) new = Refuses old new (with_first old.rows (row k d w)) d r

  -- the rows after `insert_tail`: the row is put last where its key has none
  abbrev pub tailed : List (Row T) → ℕ → T → ℕ → List (Row T)
  tailed rows k d w = if is_held rows k then rows else with_last rows (row k d w)

  abbrev pub InsertsTail : Shard T → ℕ → T → ℕ → Result Bool (Refused T) → Shard T → Type 0
  InsertsTail old k d w (Ok added) new = (added ≡ not (is_held old.rows k)) × Accepts old new (tailed old.rows k d w)
  InsertsTail old k d w (Err r) new = Refuses old new (tailed old.rows k d w) d r

  -- `set_weight`: the order is kept; the answer is the weight that the key had, if it has a row
  abbrev pub SetsWeight : Shard T → ℕ → ℕ → Result (Option ℕ) Cause → Shard T → Type 0
  SetsWeight old k w (Ok was) new = (was ≡ option_map (λ r. r.weight) (row_of old.rows k)) × Accepts old new (with_weight old.rows k w)
  SetsWeight old k w (Err cause) new = Declines old new (with_weight old.rows k w) cause

  -- the rows after `access`: the key's row is put first, if there is one
  abbrev pub accessed : List (Row T) → ℕ → List (Row T)
  accessed rows k = option_map_or (λ r. with_first rows r) (row_of rows k) rows

  -- the key is not among the first so many
  abbrev pub needs_promote : List (Row T) → ℕ → ℕ → Bool
  needs_promote rows k limit = not (is_held (take limit rows) k)

  -- a new row of this weight goes first, with data that may be made; or it is refused, before any are made
  abbrev pub AdmitsMade : (T → Type 0) → Shard T → ℕ → ℕ → Result (Unit {0}) Cause → Shard T → Type 0
  AdmitsMade Makes old k w (Ok _) new = (made : T) × (Makes made × Accepts old new (with_first old.rows (row k made w)))
  AdmitsMade Makes old k w (Err cause) new = MayRefuse old.cap (size_of old.rows) (and_row (size_of old.rows) w) cause × (new ≡ old)

  -- `increment_weight` of a row that is there, and where there is none; `Makes` says what the closure may make.
  -- The answer has the old weight, the new one, and whether the row is new
  abbrev pub IncrementsRow : (T → Type 0) → Shard T → ℕ → ℕ → Option ℕ → Option (Row T) → Result (ℕ × ℕ × Bool) Cause → Shard T → Type 0
  IncrementsRow Makes old k delta most (Some r) (Ok answer) new =
      ((answer.0 ≡ r.weight) × ((answer.1 ≡ raised r.weight delta most) × (answer.2 ≡ false)))
      × Accepts old new (with_first old.rows (row k r.value (raised r.weight delta most)))
  IncrementsRow Makes old k delta most (Some r) (Err cause) new =
      Declines old new (with_first old.rows (row k r.value (raised r.weight delta most))) cause
  IncrementsRow Makes old k delta most None (Ok answer) new =
      ((answer.0 ≡ 0) × ((answer.1 ≡ started delta most) × (answer.2 ≡ true)))
      × AdmitsMade Makes old k (started delta most) (Ok tt) new
  IncrementsRow Makes old k delta most None (Err cause) new = AdmitsMade Makes old k (started delta most) (Err cause) new

  abbrev pub IncrementsWeight : (T → Type 0) → Shard T → ℕ → ℕ → Option ℕ → Result (ℕ × ℕ × Bool) Cause → Shard T → Type 0
  IncrementsWeight Makes old k delta most answer new = IncrementsRow Makes old k delta most (row_of old.rows k) answer new

  -- why `update_or_admit` of a missing key is refused, which weight is told, and what is handed back: Length and want of
  -- memory come before the closure is called, Weight after it
  abbrev pub RefusesNew : (T × ℕ → Type 0) → Shard T → Cause → ℕ → Option (T × ℕ) → Type 0
  RefusesNew Makes old Length told held = IsTrue (is_full old.cap (size_of old.rows)) × ((told ≡ 0) × (held ≡ None))
  RefusesNew Makes old Memory told held = IsFalse (is_full old.cap (size_of old.rows)) × ((told ≡ 0) × (held ≡ None))
  RefusesNew Makes old Weight told held =
      (made : T × ℕ) × (Makes made × (((told ≡ max made.1 1) × (held ≡ Some made))
      × (refusal old.cap (size_of old.rows) (and_row (size_of old.rows) (max made.1 1)) ≡ Some Weight)))

  -- `update_or_admit` of a missing key: `Makes` says what the closure may give
  abbrev pub AdmitsGiven : (T × ℕ → Type 0) → Shard T → ℕ → Result (Option ℕ × ℕ) (RefusedUpdate T) → Shard T → Type 0
  AdmitsGiven Makes old k (Ok answer) new =
      (made : T × ℕ) × (Makes made
      × (((answer.0 ≡ None) × (answer.1 ≡ max made.1 1)) × Accepts old new (with_first old.rows (row k made.0 (max made.1 1)))))
  AdmitsGiven Makes old k (Err refused) new = RefusesNew Makes old refused.cause refused.weight refused.held × (new ≡ old)

  -- `update_or_admit` of a row that is there, and where there is none. `Changes` says what `update` may make of the data
  -- and the weight. A refused update tells the weight that was given, and keeps the data that it wrote, at the old weight
  -- and place
  abbrev pub UpdatesRow : (T → ℕ → ℕ → T → Type 0) → (T × ℕ → Type 0) → Shard T → ℕ → Option (Row T) → Result (Option ℕ × ℕ) (RefusedUpdate T) → Shard T → Type 0
  UpdatesRow Changes Makes old k (Some r) (Ok answer) new =
      (d : T) × ((given : ℕ) × (Changes r.value r.weight given d
      × (((answer.0 ≡ Some r.weight) × (answer.1 ≡ max given 1)) × Accepts old new (with_first old.rows (row k d (max given 1))))))
  UpdatesRow Changes Makes old k (Some r) (Err refused) new =
      (d : T) × ((given : ℕ) × (Changes r.value r.weight given d
      × (MayRefuse old.cap (size_of old.rows) (size_of (with_first old.rows (row k d (max given 1)))) refused.cause
      × (((refused.weight ≡ max given 1) × (refused.held ≡ None)) × (new ≡ shard (with_value old.rows k d) old.cap)))))
  UpdatesRow Changes Makes old k None answer new = AdmitsGiven Makes old k answer new

  abbrev pub UpdatesOrAdmits : (T → ℕ → ℕ → T → Type 0) → (T × ℕ → Type 0) → Shard T → ℕ → Result (Option ℕ × ℕ) (RefusedUpdate T) → Shard T → Type 0
  UpdatesOrAdmits Changes Makes old k answer new = UpdatesRow Changes Makes old k (row_of old.rows k) answer new

  -- `pull` of the row that a key has in `from`: it leaves `from` and goes first, and its weight is answered; or it is
  -- refused as a new row is, and both stay. With no row, both stay
  abbrev pub PullsRow : Shard T → Shard T → ℕ → Option (Row T) → Result (Option ℕ) Cause → Shard T → Shard T → Type 0
  PullsRow old from k (Some r) (Ok answer) new left =
      (answer ≡ Some r.weight) × (Accepts old new (with_first old.rows r) × (left ≡ shard (without from.rows k) from.cap))
  PullsRow old from k (Some r) (Err cause) new left = Declines old new (with_first old.rows r) cause × (left ≡ from)
  PullsRow old from k None (Ok answer) new left = (answer ≡ None) × ((new ≡ old) × (left ≡ from))
  PullsRow old from k None (Err cause) new left = ⊥

  abbrev pub Pulls : Shard T → Shard T → ℕ → Result (Option ℕ) Cause → Shard T → Shard T → Type 0
  Pulls old from k answer new left = PullsRow old from k (row_of from.rows k) answer new left
