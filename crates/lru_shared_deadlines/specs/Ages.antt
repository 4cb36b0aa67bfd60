-- Until when an entry is answered.
use Rattle.std.specs.Prelude.{ℕ, ◌+◌, ◌-◌, ◌^◌, min}
use Rattle.lru_deadlines.specs.declared.deadlines.Until.{Until}
use Rattle.lru_deadlines.specs.Deadlines.{until}
use Rattle.lru_shared_deadlines.specs.declared.ages.Aged.{Aged}
use Rattle.lru_shared_deadlines.specs.declared.ages.Ages.{Ages}
use Rattle.lru_shared_deadlines.specs.declared.ages.Moment.{Moment}

-- so much later than a time, or the last time that there is
abbrev pub later : ℕ → ℕ → ℕ
later time span = min (time + span) (2 ^ 64 - 1)

module _ {V : Type 0} where
  abbrev pub aged : V → ℕ → Aged V
  aged v ends = record { value = v; ends = ends }

  -- a value that ends then, as it is left by a use
  abbrev pub kept_until : Moment → V → ℕ → Until (Aged V)
  kept_until m v ends = until (aged v ends) (min ends (later m.time m.ages.idle))

  -- a value as it is put
  abbrev pub begun : Moment → V → Until (Aged V)
  begun m v = kept_until m v (later m.time m.ages.live)

-- a time, and how long entries are answered
abbrev pub moment : ℕ → Ages → Moment
moment time ages = record { time = time; ages = ages }
