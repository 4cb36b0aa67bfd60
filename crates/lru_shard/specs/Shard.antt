-- A shard: its rows, most recent first, and the cap on their weight; and when a call is refused.
use Rattle.std.specs.Prelude.{◌≡◌, ℕ, ◌+◌, ◌<◌, ◌≤◌, min, ◌&&◌, Bool, nat_lt, nat_le, List, length, Option, Some, None, if◌then◌else◌, refl}
use Rattle.std.specs.Coded.{Coded, code_by, coded×, coded_ℕ, coded_list}
use Rattle.lru_shard.specs.declared.unit.Refused.{Refused}
use Rattle.lru_shard.specs.declared.unit.Cause.{Cause}
use Rattle.lru_shard.specs.declared.unit.Cause.TheVariants.{Memory, Weight, Length}
use Rattle.lru_list.specs.Linked.{most_items}
use Rattle.lru_shard.specs.Row.{Row, row_code, weight_of, HasDistinctKeys}

pub record Shard (T : Type 0) : Type 0 where
  pub rows : List (Row T)
  pub cap : ℕ

abbrev pub shard_code : {T : Type 0} → Coded T → Coded (Shard T)
shard_code {T} code =
    code_by (List (Row T) × ℕ) (coded× (coded_list (row_code code)) coded_ℕ) (λ s. (s.rows, s.cap))
    (λ p. record { rows = p.0; cap = p.1 }) (λ _. refl)

-- the number of a cause
abbrev pub number_of : Cause → ℕ
number_of Memory = 1
number_of Weight = 2
number_of Length = 3

-- how many rows a shard may have: no more than its cap, nor than a linked list has places for
abbrev pub most_rows : ℕ → ℕ
most_rows cap = min cap most_items

-- how long and how heavy a list of rows is
pub record Size : Type 0 where
  pub len : ℕ
  pub weight : ℕ

-- one row more, of this weight
abbrev pub and_row : Size → ℕ → Size
and_row s w = record { len = s.len + 1; weight = s.weight + w }

abbrev pub is_full : ℕ → Size → Bool
is_full cap s = nat_le (most_rows cap) s.len

-- why rows of the new size are refused in place of rows of the old size, whatever memory there is:
-- a row too many, else a weight above the cap
abbrev pub refusal : ℕ → Size → Size → Option Cause
refusal cap old new =
    if nat_lt old.len new.len && is_full cap old then Some Length
    else (if nat_lt cap new.weight then Some Weight else None)

-- the new size may be refused for this cause. Want of memory is a free choice where a row is new and nothing else stands against it
abbrev pub MayRefuse : ℕ → Size → Size → Cause → Type 0
MayRefuse cap old new Memory = (refusal cap old new ≡ None) × (old.len < new.len)
MayRefuse cap old new Weight = refusal cap old new ≡ Some Weight
MayRefuse cap old new Length = refusal cap old new ≡ Some Length

module _ {T : Type 0} where
  abbrev pub shard : List (Row T) → ℕ → Shard T
  shard rows cap = record { rows = rows; cap = cap }

  abbrev pub size_of : List (Row T) → Size
  size_of rows = record { len = length rows; weight = weight_of rows }

  -- what holds of every shard
  pub record IsShard (s : Shard T) : Type 0 where
    pub keys : HasDistinctKeys s.rows
    pub light : weight_of s.rows ≤ s.cap
    pub short : length s.rows ≤ most_rows s.cap

  -- a call leaves these rows: no refusal stands against them
  pub record Accepts (old new : Shard T) (rows : List (Row T)) : Type 0 where
    pub allowed : refusal old.cap (size_of old.rows) (size_of rows) ≡ None
    pub left : new ≡ shard rows old.cap

  -- a call that would leave these rows is refused for this cause, and changes nothing
  pub record Declines (old new : Shard T) (rows : List (Row T)) (cause : Cause) : Type 0 where
    pub may : MayRefuse old.cap (size_of old.rows) (size_of rows) cause
    pub left : new ≡ old

  -- the same, and what was given is handed back
  pub record Refuses {D : Type 0} (old new : Shard T) (rows : List (Row T)) (given : D) (r : Refused D) : Type 0 where
    pub declines : Declines old new rows r.cause
    pub held : r.held ≡ given
