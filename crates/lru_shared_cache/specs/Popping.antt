-- An entry that is taken out of the first shard that has any.
use Rattle.std.specs.Prelude.{◌≡◌, ℕ, ◌<◌, ◌≤◌, ◌⊎◌, List, [], Option, Some, None, IsSome}
use Rattle.lru_owned_cache.specs.declared.entry.Entry.{Entry}
use Rattle.lru_shared_cache.specs.Shards.{Sees, Owns}
use Rattle.lru_shared_cache.specs.Counting.{ShardOf, PopsShard}

module _ {K V S : Type 0} where
  -- the shards from one to another have no entries
  abbrev pub AreEmpty : ℕ → ℕ → List (ShardOf K V S) → Type 0
  AreEmpty first end shards = (i : ℕ) → first ≤ i → i < end → Sees shards i (λ shard. shard.cache.entries ≡ [])

  -- of the shards from one to another the first that has entries gives its last one; or none has any
  abbrev pub PopsAmong : ℕ → ℕ → List (ShardOf K V S) → Option (Entry K V) → List (ShardOf K V S) → Type 0
  PopsAmong first end old None new = AreEmpty first end old × (new ≡ old)
  PopsAmong first end old (Some e) new = (n : ℕ) × ((first ≤ n) × ((n < end) × (AreEmpty first n old × Owns old n (λ before after. PopsShard before (Some e) after) new)))

  -- the same of all shards, from one on, and round to it
  abbrev pub PopsRound : ℕ → ℕ → List (ShardOf K V S) → Option (Entry K V) → List (ShardOf K V S) → Type 0
  PopsRound many from old answer new = (IsSome answer × PopsAmong from many old answer new) ⊎ (PopsAmong from many old None old × PopsAmong 0 from old answer new)
