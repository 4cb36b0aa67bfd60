-- What a core keeps of its shards.
use Rattle.std.specs.Prelude.{◌≡◌, ℕ, ◌<◌, ◌%◌, List, [], slice_index_or, length, map, All, sum_by}
use Rattle.lru_shard.specs.Row.{Row, weight_of, times}
use Rattle.lru_shard.specs.Shard.{Shard, IsShard}
use Rattle.lru_shard.specs.Limits.{cap_of}

abbrev pub lists_of : {T : Type 0} → List (Shard T) → List (List (Row T))
lists_of units = map (λ u. u.rows) units

pub record AreUnits {T : Type 0} (n : ℕ) (units : List (Shard T)) (weight len : ℕ) : Type 0 where
  pub some : 0 < n
  pub count : length units ≡ n
  pub valid : All (λ u. IsShard u) units
  pub caps : All (λ u. u.cap ≡ cap_of n) units
  pub weight_is : weight ≡ sum_by (λ u. weight_of u.rows) units
  pub len_is : len ≡ sum_by (λ u. length u.rows) units
  -- each key stands in its own shard
  pub homes : (s k : ℕ) → 0 < times k (slice_index_or (lists_of units) s []) → k % n ≡ s
