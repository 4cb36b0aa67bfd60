-- What may be there, as bytes: a number that tells whether it is, and then what is there.
use Rattle.std.specs.Prelude.{ℕ, List, ◌++◌, Option, None, Some}
use Rattle.lru_frames.specs.Words.{word}

module _ {T : Type 0} where
  abbrev pub option_bytes : (T → List ℕ) → Option T → List ℕ
  option_bytes bytes_of None = word 0
  option_bytes bytes_of (Some value) = word 1 ++ bytes_of value

  abbrev pub IsOption : (T → Type 0) → Option T → Type 0
  IsOption IsValue None = Unit {0}
  IsOption IsValue (Some value) = IsValue value

  -- both are there and the same, or neither is there
  abbrev pub IsSameOption : (T → T → Type 0) → Option T → Option T → Type 0
  IsSameOption IsSame None None = Unit {0}
  IsSameOption IsSame None (Some b) = ⊥
  IsSameOption IsSame (Some a) None = ⊥
  IsSameOption IsSame (Some a) (Some b) = IsSame a b
