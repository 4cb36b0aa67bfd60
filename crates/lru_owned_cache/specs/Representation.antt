-- What the rows of a cache stand for.
use Rattle.std.specs.Prelude.{◌≡◌, ℕ, ◌+◌, ◌≤◌, length}
use Rattle.lru_rows.specs.Rows.{Recency}
use Rattle.lru_owned_cache.specs.Entries.{entries_in, weight_in}
use Rattle.lru_owned_cache.specs.Cache.{Cached}

module _ {K V : Type 0} where
  -- the cache that these rows are
  abbrev pub cached_in : {S : Type 0} → Recency K V → S → ℕ → ℕ → Cached K V S
  cached_in r hashes most_weight most_entries =
      record { entries = entries_in r.rows; places = length r.rows + r.free; most_weight = most_weight; most_entries = most_entries; hashes = hashes }

  -- what is kept: the sum of the weights, and no more than the limits
  pub record IsKept (r : Recency K V) (used most_weight most_entries : ℕ) : Type 0 where
    pub used_is : used ≡ weight_in r.rows
    pub light : used ≤ most_weight
    pub few : length r.rows ≤ most_entries
