-- The shards that a sharded order leaves.
use Rattle.std.specs.Prelude.{◌≡◌, ℕ, ◌%◌, ◌<◌, ◌≤◌, List, Some, slice_get}
use Rattle.lru_shard.specs.Row.{Row, times, weight_of}
use Rattle.lru_shard.specs.Shard.{Shard}
use Rattle.lru_shard.specs.Limits.{cap_of}

module _ {T : Type 0} where
  -- each key that has a row is of shard s of n
  abbrev pub AreAtHome : ℕ → ℕ → List (Row T) → Type 0
  AreAtHome n s rows = (k : ℕ) → 0 < times k rows → k % n ≡ s

  -- shard s of n: its keys are its own, and its weight is within the cap of n shards
  pub record IsOwn (n s : ℕ) (u : Shard T) : Type 0 where
    pub home : AreAtHome n s u.rows
    pub cap : u.cap ≡ cap_of n
    pub light : weight_of u.rows ≤ cap_of n

  -- each of these shards, by its number
  abbrev pub AreOwn : ℕ → List (Shard T) → Type 0
  AreOwn n us = (s : ℕ) (u : Shard T) → slice_get us s ≡ Some u → IsOwn n s u
