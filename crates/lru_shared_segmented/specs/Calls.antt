-- What is done to one shard, a segmented cache beside what its calls met, and what is answered and counted.
use Rattle.std.specs.Prelude.{◌≡◌, ℕ, Bool, length, Option, Result, Ok, Err, IfOk, is_some}
use Rattle.std.specs.Option.{option_map}
use Rattle.std.specs.Borrow.{MutBor}
use Rattle.std.specs.declared.alloc.AllocError.{AllocError}
use Rattle.lru_owned_cache.specs.declared.entry.Entry.{Entry}
use Rattle.lru_owned_cache.specs.Entries.{weight_of}
use Rattle.lru_owned_cache.specs.declared.cache.Refused.{Refused}
use Rattle.lru_owned_cache.specs.Cache.{entry_of}
use Rattle.lru_segmented.specs.Segmented.{Segmented, entries, plain, removed, LetsGo, Limits, PopsLast, Uses, UpdatesEntry, Puts}
use Rattle.lru_shared_cache.specs.declared.counts.Counted.{Counted}
use Rattle.lru_shared_cache.specs.declared.counts.Size.{Size}
use Rattle.lru_shared_cache.specs.declared.counts.Why.TheVariants.{ForRoom, Cleared}
use Rattle.lru_shared_cache.specs.Counts.{left_by, fewer, looked, put_counted, refused}
use Rattle.lru_shared_cache.specs.Counting.{size_of, taken_out}
use Rattle.lru_shared_cache.specs.Calls.{IsCloned}

-- a shard: its entries in their segments, and what its calls met
abbrev pub ShardOf : Type 0 → Type 0 → Type 0 → Type 0
ShardOf K V S = Counted (Segmented K V S)

module _ {K V S : Type 0} where
  -- how many entries both segments have, and what these weigh together
  abbrev pub whole : Segmented K V S → Size
  whole c = size_of (plain c)

  -- by what stands for a key: a key that equals it, or what a query matches
  module _ {Q : Type 0} (eq : K → Q → Bool) where
    -- a key is used, and its value is lent to a closure, which may change it; where it has no entry, nothing is called. It is counted which
    abbrev pub Lends : {R : Type 0} → (MutBor V → ℕ → R → MutBor V → Type 0) → ShardOf K V S → Q → Option R → ShardOf K V S → Type 0
    Lends post before key answer after = UpdatesEntry eq post before.cache key answer after.cache × (after.counts ≡ looked before.counts (is_some answer))

    -- a key that has an entry is used, and a clone of its value is answered, unless there is no memory for one. It is counted whether there was an entry
    abbrev pub Gets : (V → V → Type 0) → ShardOf K V S → Q → Result (Option V) AllocError → ShardOf K V S → Type 0
    Gets clones before key answer after =
        let found = entry_of eq (entries before.cache) key in
        IfOk answer (λ cloned. IsCloned clones found cloned) × (Uses eq before.cache key (is_some found) after.cache × (after.counts ≡ looked before.counts (is_some found)))

    -- a key's entry is taken out of its segment
    abbrev pub Takes : ShardOf K V S → Q → Option (Entry K V) → ShardOf K V S → Type 0
    Takes before key answer after = (answer ≡ entry_of eq (entries before.cache) key) × ((after.cache ≡ removed eq before.cache key) × (after.counts ≡ taken_out answer before.counts))

  -- the entry that is the next to go is taken out, if there is one
  abbrev pub PopsShard : ShardOf K V S → Option (Entry K V) → ShardOf K V S → Type 0
  PopsShard before answer after = PopsLast before.cache answer after.cache × (after.counts ≡ taken_out answer before.counts)

  module _ {F : Type 0} (Step : F → Entry K V → F → Type 0) (visit : F) where
    -- all entries go
    abbrev pub ClearsShard : ShardOf K V S → ShardOf K V S → Type 0
    ClearsShard before after =
        LetsGo Step visit 0 0 before.cache after.cache × (after.counts ≡ left_by before.counts Cleared (length (entries before.cache)) (weight_of (entries before.cache)))

    -- the limits and the share are others, and what has to go for them goes
    abbrev pub LimitsShard : ℕ → ℕ → ℕ → ShardOf K V S → ShardOf K V S → Type 0
    LimitsShard weight entries protected before after =
        Limits Step visit before.cache weight entries protected after.cache × (after.counts ≡ fewer before.counts ForRoom (whole before.cache) (whole after.cache))

    -- an entry is put, or refused
    abbrev pub PutsCounted : (K → K → Bool) → ShardOf K V S → K → V → ℕ → Result (Option (Entry K V)) (Refused K V) → ShardOf K V S → Type 0
    PutsCounted eq before k v w (Ok was) after =
        Puts eq Step visit before.cache k v w (Ok was) after.cache
        × (after.counts ≡ put_counted before.counts (whole before.cache) (option_map (λ (e : Entry K V). e.weight) was) w (whole after.cache))
    PutsCounted eq before k v w (Err r) after = Puts eq Step visit before.cache k v w (Err r) after.cache × (after.counts ≡ refused before.counts)
