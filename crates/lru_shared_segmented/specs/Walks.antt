-- What a walk over keys that are asked for once does to the shards of a cache.
use Rattle.std.specs.Prelude.{◌≡◌, ℕ, ◌<◌, ◌==◌, Bool, false, List, [], ◌∷◌, ◌++◌, length, map, filter, All, Option, None, Result, Ok, slice_index_or}
use Rattle.lru_owned_cache.specs.declared.entry.Entry.{Entry}
use Rattle.lru_owned_cache.specs.declared.cache.Refused.{Refused}
use Rattle.lru_owned_cache.specs.Cache.{entry_of}
use Rattle.lru_segmented.specs.Segmented.{entries}
use Rattle.lru_segmented.specs.Scans.{Call, Look, Put, Walks, FitsBeside}
use Rattle.lru_shared_cache.specs.Shards.{Sees, Owns}
use Rattle.lru_shared_cache.specs.declared.calls.NotGot.{NotGot}
use Rattle.lru_shared_segmented.specs.Calls.{ShardOf, PutsCounted}
use Rattle.lru_shared_segmented.specs.Making.{GetsOrPuts}

-- whether a call puts a key of this shard. `at` tells the number of a key's shard
abbrev pub is_of : {K V : Type 0} → (K → ℕ) → ℕ → Call K V → Bool
is_of at i Look = false
is_of at i (Put k v w) = at k == i

module _ {K V S : Type 0} (at : K → ℕ) where
  -- there is room for what a call puts beside the upper segment of its shard
  abbrev pub FitsInShard : List (ShardOf K V S) → Call K V → Type 0
  FitsInShard shards Look = Unit {0}
  FitsInShard shards (Put k v w) = Sees shards (at k) (λ shard. FitsBeside shard.cache w)

  module _ {F : Type 0} (eq : K → K → Bool) (Step : F → Entry K V → F → Type 0) where
    -- a walk over shards: each put is done to the shard of its key, where that has no entry; a look changes nothing
    abbrev pub WalksShards : List (Call K V) → List (ShardOf K V S) → List (ShardOf K V S) → Type 0
    WalksShards [] old new = new ≡ old
    WalksShards (Look ∷ calls) old new = WalksShards calls old new
    WalksShards (Put k v w ∷ calls) old new =
        (visit : F) × ((answer : Result (Option (Entry K V)) (Refused K V)) × ((mid : List (ShardOf K V S))
        × (Owns old (at k) (λ before after. (entry_of eq (entries before.cache) k ≡ None) × PutsCounted Step visit eq before k v w answer after) mid × WalksShards calls mid new)))

-- the entries of a shard's upper segment
abbrev pub upper_of : {K V S : Type 0} → ShardOf K V S → List (Entry K V)
upper_of shard = shard.cache.upper

module _ {K V F : Type 0} (S : Type 0) (at : K → ℕ) (eq : K → K → Bool) (Step : F → Entry K V → F → Type 0) where
  -- what a walk over shards does to one of them is the walk of those calls alone that put keys of that shard
  abbrev pub EachShardIsWalked : Type 0
  EachShardIsWalked = (calls : List (Call K V)) (old new : List (ShardOf K V S)) → WalksShards at eq Step calls old new → (i : ℕ) (d : ShardOf K V S) → i < length old →
      Walks eq Step (filter (is_of at i) calls) (slice_index_or old i d).cache (slice_index_or new i d).cache

  -- no walk over shards whose entries fit beside the upper segments of their shards changes any of these: each has the same entries afterwards, with their values and their weights, in the same order
  abbrev pub NoScanEvicts : Type 0
  NoScanEvicts = (calls : List (Call K V)) (old new : List (ShardOf K V S)) → WalksShards at eq Step calls old new → All (FitsInShard at old) calls → map upper_of new ≡ map upper_of old

  -- whatever their weights are, the walk's puts take entries from the ends of the upper segments only, and put none into them
  abbrev pub ScansTakeTheEnds : Type 0
  ScansTakeTheEnds = (calls : List (Call K V)) (old new : List (ShardOf K V S)) → WalksShards at eq Step calls old new → (i : ℕ) (d : ShardOf K V S) → i < length old →
      (gone : List (Entry K V)) × (upper_of (slice_index_or old i d) ≡ upper_of (slice_index_or new i d) ++ gone)

-- ---- requests by `get_or_put_with`. `Post` tells what a closure may make
module _ {K V S F M E : Type 0} (at : K → ℕ) (eq : K → K → Bool) (clones : V → V → Type 0) (Step : F → Entry K V → F → Type 0) (Post : M → Result (V × ℕ) E → Type 0) where
  -- requests over shards, each of a key that has no entry in its shard when it is asked for: one is made, and put there
  abbrev pub RequestsShards : List (K × M) → List (ShardOf K V S) → List (ShardOf K V S) → Type 0
  RequestsShards [] old new = new ≡ old
  RequestsShards (r ∷ rs) old new =
      Sees old (at r.0) (λ shard. entry_of eq (entries shard.cache) r.0 ≡ None)
      × ((visit : F) × ((answer : Result V (NotGot K V E)) × ((mid : List (ShardOf K V S))
      × (GetsOrPuts ⊥ eq clones (Post r.1) Step visit (λ s P t. Owns s (at r.0) P t) r.0 old answer mid × RequestsShards rs mid new))))

-- what may be made for a request fits beside the upper segment of its key's shard
abbrev pub MadeFitsInShard : {K V S M E : Type 0} → (K → ℕ) → (M → Result (V × ℕ) E → Type 0) → List (ShardOf K V S) → K × M → Type 0
MadeFitsInShard {K} {V} at Post shards r = (made : V × ℕ) → Post r.1 (Ok made) → Sees shards (at r.0) (λ shard. FitsBeside shard.cache made.1)

-- such requests leave the upper segments of all shards as they are, however many they are, where what is made fits beside them
abbrev pub NoRequestEvicts : {K V F M E : Type 0} (S : Type 0) → (K → ℕ) → (K → K → Bool) → (V → V → Type 0) → (F → Entry K V → F → Type 0) → (M → Result (V × ℕ) E → Type 0) → Type 0
NoRequestEvicts {K} {V} {F} {M} S at eq clones Step Post = (requests : List (K × M)) (old new : List (ShardOf K V S)) → RequestsShards at eq clones Step Post requests old new → All (MadeFitsInShard at Post old) requests → map upper_of new ≡ map upper_of old
