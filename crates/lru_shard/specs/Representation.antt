-- What is kept of a shard: its rows, each at its place, and what they weigh together.
use Rattle.std.specs.Prelude.{◌≡◌, ℕ, List, map}
use Rattle.lru_rows.specs.Rows.{Placed, Recency}
use Rattle.lru_shard.specs.Row.{Row, row, weight_of}
use Rattle.lru_shard.specs.Shard.{shard, IsShard}

module _ {T : Type 0} where
  -- a row without its place
  abbrev pub row_in : Placed ℕ T → Row T
  row_in p = row p.key p.value p.weight

  abbrev pub rows_in : List (Placed ℕ T) → List (Row T)
  rows_in ps = map row_in ps

  -- what a shard keeps
  pub record IsKept (rows : Recency ℕ T) (used cap : ℕ) : Type 0 where
    pub valid : IsShard (shard (rows_in rows.rows) cap)
    pub used_is : used ≡ weight_of (rows_in rows.rows)
