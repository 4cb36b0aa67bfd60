-- A cache beside what its calls met: what is done to it, and counted.
use Rattle.std.specs.Prelude.{◌≡◌, ℕ, Bool, List, [], length, reverse, Option, Some, None, Result, Ok, Err}
use Rattle.std.specs.List.{FoldsTo}
use Rattle.std.specs.Option.{option_map}
use Rattle.lru_owned_cache.specs.declared.entry.Entry.{Entry}
use Rattle.lru_owned_cache.specs.Entries.{weight_of}
use Rattle.lru_owned_cache.specs.declared.cache.Refused.{Refused}
use Rattle.lru_owned_cache.specs.Cache.{Cached, entry_of, without, with_entries, Clears, Drains, Leaves, Limits, PopsLast, Puts}
use Rattle.lru_shared_cache.specs.declared.counts.Counts.{Counts}
use Rattle.lru_shared_cache.specs.declared.counts.Counted.{Counted}
use Rattle.lru_shared_cache.specs.declared.counts.Size.{Size}
use Rattle.lru_shared_cache.specs.declared.counts.Why.TheVariants.{ForRoom, Removed, Cleared}
use Rattle.lru_shared_cache.specs.Counts.{left_by, fewer, put_counted, refused}

-- a shard: its entries, and what its calls met
abbrev pub ShardOf : Type 0 → Type 0 → Type 0 → Type 0
ShardOf K V S = Counted (Cached K V S)

module _ {K V : Type 0} where
  -- how many entries there are, and what they weigh together
  abbrev pub size_of : {S : Type 0} → Cached K V S → Size
  size_of c = record { entries = length c.entries; weight = weight_of c.entries }

  -- what is counted of an entry that is taken out
  abbrev pub taken_out : Option (Entry K V) → Counts → Counts
  taken_out None c = c
  taken_out (Some e) c = left_by c Removed 1 e.weight

  -- by what stands for a key, its entry is taken out
  abbrev pub Takes : {S Q : Type 0} → (K → Q → Bool) → ShardOf K V S → Q → Option (Entry K V) → ShardOf K V S → Type 0
  Takes eq before key answer after =
      (answer ≡ entry_of eq before.cache.entries key)
      × ((after.cache ≡ with_entries before.cache (without eq before.cache.entries key)) × (after.counts ≡ taken_out answer before.counts))

  -- the last entry is taken out, if there is one
  abbrev pub PopsShard : {S : Type 0} → ShardOf K V S → Option (Entry K V) → ShardOf K V S → Type 0
  PopsShard before answer after = PopsLast before.cache answer after.cache × (after.counts ≡ taken_out answer before.counts)

  module _ {F S : Type 0} (Step : F → Entry K V → F → Type 0) where
    -- all entries go
    abbrev pub ClearsShard : F → ShardOf K V S → ShardOf K V S → Type 0
    ClearsShard visit before after = Clears Step visit before.cache after.cache × (after.counts ≡ left_by before.counts Cleared (length before.cache.entries) (weight_of before.cache.entries))

    -- the same where the first goes first
    abbrev pub DrainsShard : F → ShardOf K V S → ShardOf K V S → Type 0
    DrainsShard visit before after = Drains Step visit before.cache after.cache × (after.counts ≡ left_by before.counts Cleared (length before.cache.entries) (weight_of before.cache.entries))

    -- the limits are others, and what has to go for them goes
    abbrev pub LimitsShard : F → ℕ → ℕ → ShardOf K V S → ShardOf K V S → Type 0
    LimitsShard visit weight entries before after =
        Limits Step visit before.cache weight entries after.cache × (after.counts ≡ fewer before.counts ForRoom (size_of before.cache) (size_of after.cache))

    -- ---- the same, and in which state a closure is left that was handed what goes
    -- the shortest end of the entries goes that has to for the others to be within limits
    abbrev pub LetsGo : F → Cached K V S → ℕ → ℕ → F → Cached K V S → Type 0
    LetsGo visit old weight entries left new =
        (front : List (Entry K V)) × ((gone : List (Entry K V)) × (Leaves weight entries old.entries front gone × (FoldsTo Step visit (reverse gone) left × (new ≡ with_entries old front))))

    -- the limits are others, and what has to go for them goes
    abbrev pub LimitsTo : F → Cached K V S → ℕ → ℕ → F → Cached K V S → Type 0
    LimitsTo visit old weight entries left new =
        (front : List (Entry K V)) × ((gone : List (Entry K V)) × (Leaves weight entries old.entries front gone × (FoldsTo Step visit (reverse gone) left
        × (new ≡ record { entries = front; places = old.places; most_weight = weight; most_entries = entries; hashes = old.hashes }))))

    abbrev pub ClearsShardTo : F → ShardOf K V S → F → ShardOf K V S → Type 0
    ClearsShardTo visit before left after =
        FoldsTo Step visit (reverse before.cache.entries) left
        × ((after.cache ≡ with_entries before.cache []) × (after.counts ≡ left_by before.counts Cleared (length before.cache.entries) (weight_of before.cache.entries)))

    abbrev pub DrainsShardTo : F → ShardOf K V S → F → ShardOf K V S → Type 0
    DrainsShardTo visit before left after =
        FoldsTo Step visit before.cache.entries left
        × ((after.cache ≡ with_entries before.cache []) × (after.counts ≡ left_by before.counts Cleared (length before.cache.entries) (weight_of before.cache.entries)))

    abbrev pub LimitsShardTo : F → ℕ → ℕ → ShardOf K V S → F → ShardOf K V S → Type 0
    LimitsShardTo visit weight entries before left after =
        LimitsTo visit before.cache weight entries left after.cache × (after.counts ≡ fewer before.counts ForRoom (size_of before.cache) (size_of after.cache))

    -- an entry is put, or refused
    abbrev pub PutsCounted : F → (K → K → Bool) → ShardOf K V S → K → V → ℕ → Result (Option (Entry K V)) (Refused K V) → ShardOf K V S → Type 0
    PutsCounted visit eq before k v w (Ok was) after =
        Puts eq Step visit before.cache k v w (Ok was) after.cache
        × (after.counts ≡ put_counted before.counts (size_of before.cache) (option_map (λ (e : Entry K V). e.weight) was) w (size_of after.cache))
    PutsCounted visit eq before k v w (Err r) after = Puts eq Step visit before.cache k v w (Err r) after.cache × (after.counts ≡ refused before.counts)
