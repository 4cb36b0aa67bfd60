-- What is noted of an answer: the reply, data aside; nothing where memory was wanting.
use Rattle.std.specs.Prelude.{◌≡◌, ℕ, Bool, max, Option, Some, None, Result, Ok, Err, option_map}
use Rattle.lru_shard.specs.declared.unit.Refused.{Refused as Handed}
use Rattle.lru_shard.specs.declared.unit.Cause.{Cause}
use Rattle.lru_shard.specs.declared.unit.Cause.TheVariants.{Memory, Weight as Heavy, Length}
use Rattle.lru_recording.specs.declared.entry.Call.{Call}
use Rattle.lru_recording.specs.declared.entry.Call.TheVariants.{IncrementWeight, IncrementWeightUpTo}
use Rattle.lru_recording.specs.declared.entry.Reply.{Reply}
use Rattle.lru_recording.specs.declared.entry.Reply.TheVariants.{Flag, Weight, Found, NotFound, Refused}

abbrev pub refused : Cause → Option Reply
refused Memory = None
refused Heavy = Some (Refused Heavy)
refused Length = Some (Refused Length)

-- a weight, if there is one
abbrev pub weighed : Option ℕ → Reply
weighed None = NotFound
weighed (Some w) = Found w

-- a pair of data and a weight, if there is one
abbrev pub paired : {T : Type 0} → Option (T × ℕ) → Reply
paired pair = weighed (option_map (λ p. p.1) pair)

-- `increment_weight` with and without a bound
abbrev pub increments : ℕ → ℕ → Option ℕ → Call
increments k delta None = IncrementWeight k delta
increments k delta (Some most) = IncrementWeightUpTo k delta most

-- `admit`, `insert_tail`, `increment_weight`, `set_weight`
abbrev pub admitted : {D : Type 0} → Result ℕ (Handed D) → Option Reply
admitted (Ok was) = Some (Weight was)
admitted (Err r) = refused r.cause

abbrev pub inserted : {D : Type 0} → Result Bool (Handed D) → Option Reply
inserted (Ok added) = Some (Flag added)
inserted (Err r) = refused r.cause

-- of the weights before and after, the one after
abbrev pub new_weight : Result (ℕ × ℕ × Bool) Cause → Result ℕ Cause
new_weight (Ok answer) = Ok answer.1
new_weight (Err cause) = Err cause

abbrev pub incremented : Result ℕ Cause → Option Reply
incremented (Ok weight) = Some (Weight weight)
incremented (Err cause) = refused cause

abbrev pub set : Result (Option ℕ) Cause → Option Reply
set (Ok was) = Some (weighed was)
set (Err cause) = refused cause

-- a weight that an `update` gave for a row of this weight, raised to 1. `Changes` says what the closure may do
abbrev pub IsUpdated : {T : Type 0} → (T → ℕ → ℕ → T → Type 0) → ℕ → ℕ → Type 0
IsUpdated {T} Changes was w = (old : T) × ((new : T) × ((given : ℕ) × (Changes old was given new × (w ≡ max given 1))))

-- the weight that is noted of an `update_or_admit` that was not refused: the one that the called closure gave, at least
-- 1. `Changes` and `Makes` say what the closures may do
abbrev pub IsGiven : {T : Type 0} → (T → ℕ → ℕ → T → Type 0) → (T × ℕ → Type 0) → Option ℕ → ℕ → Type 0
IsGiven {T} Changes Makes None w = (made : T × ℕ) × (Makes made × (w ≡ max made.1 1))
IsGiven Changes Makes (Some was) w = IsUpdated Changes was w

-- the same of one that was refused for this cause, with what it handed back. Want of memory and Length come before a
-- closure is called; Weight hands back what was made, and nothing where a row was updated
abbrev pub IsMade : {T : Type 0} → (T → ℕ → ℕ → T → Type 0) → (T × ℕ → Type 0) → Cause → Option (T × ℕ) → ℕ → Type 0
IsMade Changes Makes Memory held w = held ≡ None
IsMade Changes Makes Length held w = (held ≡ None) × (w ≡ 0)
IsMade Changes Makes Heavy (Some made) w = Makes made × (w ≡ max made.1 1)
IsMade Changes Makes Heavy None w = (was : ℕ) × IsUpdated Changes was w
