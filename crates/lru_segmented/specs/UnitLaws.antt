-- What a missing share and a walk make of a shard in two segments.
use Rattle.std.specs.Prelude.{◌≡◌, ℕ, ◌<◌, nat_eq, Bool, List, [], ◌∷◌, length, map, option_map, Option, None, Result}
use Rattle.lru_owned_cache.specs.declared.entry.Entry.{Entry}
use Rattle.lru_owned_cache.specs.Cache.{entry_of}
use Rattle.lru_shard.specs.declared.unit.Refused.{Refused}
use Rattle.lru_shard.specs.Row.{Row, row, row_of, is_held, without, last_row, without_last, pair_of as pair_of_row}
use Rattle.lru_shard.specs.Shard.{Shard, shard}
use Rattle.lru_shard.specs.Unit.{accessed, Admits as ShardAdmits}
use Rattle.lru_segmented.specs.Segmented.{Segmented, entries, removed, Uses}
use Rattle.lru_segmented.specs.SegmentedUnit.{IsUnit, Admits, Evicts, pair_of}

module _ {T : Type 0} where
  -- ---- one order
  abbrev pub as_row : Entry ℕ T → Row T
  as_row e = row e.key e.value e.weight

  -- the rows of both segments, in one order
  abbrev pub rows_of : {S : Type 0} → Segmented ℕ T S → List (Row T)
  rows_of c = map as_row (entries c)

  abbrev pub shard_of : {S : Type 0} → Segmented ℕ T S → Shard T
  shard_of c = shard (rows_of c) c.most_weight

  -- what a call leaves has no upper segment, and, seen as one order, is what the same call of an `LruUnit` leaves; both answer the same
  pub record IsPlain {S : Type 0} (old new : Segmented ℕ T S) : Type 0 where
    pub none : old.upper ≡ []
    pub admits : (k : ℕ) (d : T) (w : ℕ) (answer : Result ℕ (Refused T)) → Admits old k d w answer new → (new.upper ≡ []) × ShardAdmits (shard_of old) k d w answer (shard_of new)
    pub accesses : (k : ℕ) (answer : Bool) → Uses nat_eq old k answer new → (new.upper ≡ []) × ((answer ≡ is_held (rows_of old) k) × (shard_of new ≡ shard (accessed (rows_of old) k) old.most_weight))
    pub removes : (k : ℕ) (answer : Option (T × ℕ)) → answer ≡ option_map pair_of (entry_of nat_eq (entries old) k) → new ≡ removed nat_eq old k →
        (new.upper ≡ []) × ((answer ≡ option_map pair_of_row (row_of (rows_of old) k)) × (shard_of new ≡ shard (without (rows_of old) k) old.most_weight))
    pub evicts : (answer : Option (T × ℕ)) → Evicts old answer new → (new.upper ≡ []) × ((answer ≡ option_map pair_of_row (last_row (rows_of old))) × (shard_of new ≡ shard (without_last (rows_of old)) old.most_weight))

-- where the share is nothing, each call is that of an `LruUnit`
abbrev pub PlainWithoutShare : Type 0 → Type 0 → Type 0
PlainWithoutShare T S = (old new : Segmented ℕ T S) → IsUnit old → old.most_protected ≡ 0 → IsPlain old new

-- ---- walks
-- what a walk asks for: an admit of a key with data and a weight, or an eviction
pub data Call (T : Type 0) : Type 0 where
  Admit : (key : ℕ) (held : T) (weight : ℕ) → Call T
  Evict : Call T

-- a walk: each call does what its contract says to what the calls before it left. Admits are of keys that have no row, and may be refused; evictions are made while the lower segment has rows
abbrev pub Walks : {T S : Type 0} → List (Call T) → Segmented ℕ T S → Segmented ℕ T S → Type 0
Walks [] old new = new ≡ old
Walks {T} {S} (Admit k d w ∷ calls) old new =
    (entry_of nat_eq (entries old) k ≡ None) × ((answer : Result ℕ (Refused T)) × ((mid : Segmented ℕ T S) × (Admits old k d w answer mid × Walks calls mid new)))
Walks {T} {S} (Evict ∷ calls) old new = (0 < length old.lower) × ((answer : Option (T × ℕ)) × ((mid : Segmented ℕ T S) × (Evicts old answer mid × Walks calls mid new)))

-- no walk takes a row of the upper segment, nor puts one into it, while the lower one has rows to evict
abbrev pub NoWalkEvicts : Type 0 → Type 0 → Type 0
NoWalkEvicts T S = (calls : List (Call T)) (old new : Segmented ℕ T S) → Walks calls old new → new.upper ≡ old.upper
