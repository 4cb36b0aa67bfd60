-- Caches whose entries end, of one owner, each a shard of one.
use Rattle.std.specs.Prelude.{◌≡◌, ℕ, ◌<◌, List, length, replicate, refl}
use Rattle.std.specs.Coded.{Coded, code_by, coded×, coded_ℕ, coded_list}
use Rattle.lru_owned_cache.specs.Cache.{cached_code}
use Rattle.lru_deadlines.specs.Codes.{until_code}
use Rattle.lru_shared_cache.specs.CountCodes.{counted_code}
use Rattle.lru_shared_cache.specs.Sharded.{empty_shard}
use Rattle.lru_shared_deadlines.specs.declared.ages.Ages.{Ages}
use Rattle.lru_shared_deadlines.specs.Codes.{aged_code, ages_code}
use Rattle.lru_shared_deadlines.specs.Calls.{ShardOf}

-- the shards by their numbers, what makes the hashes that tell them, how long entries are answered, and which shard is swept next
pub record Sharded (K V S : Type 0) : Type 0 where
  pub shards : List (ShardOf K V S)
  pub hashes : S
  pub ages : Ages
  pub turn : ℕ

abbrev pub shard_code : {K V S : Type 0} → Coded K → Coded V → Coded S → Coded (ShardOf K V S)
shard_code key value hashes = counted_code (cached_code key (until_code (aged_code value)) hashes)

abbrev pub sharded_code : {K V S : Type 0} → Coded K → Coded V → Coded S → Coded (Sharded K V S)
sharded_code {K} {V} {S} key value hashes =
    code_by (List (ShardOf K V S) × (S × (Ages × ℕ))) (coded× (coded_list (shard_code key value hashes)) (coded× hashes (coded× ages_code coded_ℕ))) (λ c. (c.shards, (c.hashes, (c.ages, c.turn))))
    (λ p. record { shards = p.0; hashes = p.1.0; ages = p.1.1.0; turn = p.1.1.1 }) (λ _. refl)

abbrev pub sharded : {K V S : Type 0} → List (ShardOf K V S) → S → Ages → ℕ → Sharded K V S
sharded shards hashes ages turn = record { shards = shards; hashes = hashes; ages = ages; turn = turn }

-- there are so many shards, at least one, and one of them is next
abbrev pub AreInTurn : {A : Type 0} → ℕ → List A → ℕ → Type 0
AreInTurn many shards turn = (length shards ≡ many) × (turn < many)

-- so many shards of no entries, each with a part of the limits, of which the first is swept next
abbrev pub empty_shards : {K V S : Type 0} → ℕ → S → Ages → ℕ → ℕ → Sharded K V S
empty_shards many hashes ages weight entries = sharded (replicate many (empty_shard hashes weight entries)) hashes ages 0

-- what of a cache behind locks no call changes: what makes the hashes that tell the shards of its keys, and how long entries are answered
pub record Setting (S : Type 0) : Type 0 where
  pub hashes : S
  pub ages : Ages

abbrev pub setting : {S : Type 0} → S → Ages → Setting S
setting hashes ages = record { hashes = hashes; ages = ages }

abbrev pub setting_code : {S : Type 0} → Coded S → Coded (Setting S)
setting_code {S} hashes = code_by (S × Ages) (coded× hashes ages_code) (λ c. (c.hashes, c.ages)) (λ p. record { hashes = p.0; ages = p.1 }) (λ _. refl)
