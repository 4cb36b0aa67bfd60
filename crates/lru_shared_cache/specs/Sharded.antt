-- Caches of one owner, each a shard of one.
use Rattle.std.specs.Prelude.{◌≡◌, ℕ, ◌<◌, List, length, replicate, refl}
use Rattle.std.specs.Coded.{Coded, code_by, coded×, coded_list}
use Rattle.lru_owned_cache.specs.Cache.{cached_code, empty}
use Rattle.lru_shared_cache.specs.Counts.{no_counts}
use Rattle.lru_shared_cache.specs.CountCodes.{counted_code}
use Rattle.lru_shared_cache.specs.Counting.{ShardOf}

-- the shards by their numbers, and what makes the hashes that tell them
pub record Sharded (K V S : Type 0) : Type 0 where
  pub shards : List (ShardOf K V S)
  pub hashes : S

abbrev pub sharded_code : {K V S : Type 0} → Coded K → Coded V → Coded S → Coded (Sharded K V S)
sharded_code {K} {V} {S} key value hashes =
    code_by (List (ShardOf K V S) × S) (coded× (coded_list (counted_code (cached_code key value hashes))) hashes) (λ c. (c.shards, c.hashes)) (λ p. record { shards = p.0; hashes = p.1 }) (λ _. refl)

abbrev pub sharded : {K V S : Type 0} → List (ShardOf K V S) → S → Sharded K V S
sharded shards hashes = record { shards = shards; hashes = hashes }

-- there are so many shards, and at least one
abbrev pub AreSome : {A : Type 0} → ℕ → List A → Type 0
AreSome many shards = (0 < many) × (length shards ≡ many)

-- a shard of no entries, on which nothing was called
abbrev pub empty_shard : {K V S : Type 0} → S → ℕ → ℕ → ShardOf K V S
empty_shard hashes weight entries = record { cache = empty hashes weight entries; counts = no_counts }

-- so many of them, each with a part of the limits
abbrev pub empty_shards : {K V S : Type 0} → ℕ → S → ℕ → ℕ → Sharded K V S
empty_shards many hashes weight entries = sharded (replicate many (empty_shard hashes weight entries)) hashes
