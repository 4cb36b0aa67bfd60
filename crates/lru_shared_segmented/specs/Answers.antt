-- What the answers of a cache that threads share say by themselves, where nothing is known of the entries that others may change.
use Rattle.std.specs.Prelude.{◌≡◌, ℕ, Bool, List, length, Result}
use Rattle.lru_owned_cache.specs.declared.entry.Entry.{Entry}
use Rattle.lru_shared_cache.specs.declared.calls.NotGot.{NotGot}
use Rattle.lru_shared_cache.specs.Shards.{MaySee, MayDo}
use Rattle.lru_shared_segmented.specs.Calls.{ShardOf}
use Rattle.lru_shared_segmented.specs.Making.{GetsOrPuts}

-- some shard is so
abbrev pub MayBe : (K V S : Type 0) → (ShardOf K V S → Type 0) → Type 0
MayBe K V S P = MaySee P

-- so many shards are so together, each seen at a moment of its own
abbrev pub MayBeAll : (K V S : Type 0) → ℕ → (List (ShardOf K V S) → Type 0) → Type 0
MayBeAll K V S many P = (shards : List (ShardOf K V S)) × ((length shards ≡ many) × P shards)

-- some shard is changed so
abbrev pub MayChange : (K V S : Type 0) → (ShardOf K V S → ShardOf K V S → Type 0) → Type 0
MayChange K V S P = MayDo P

-- a value was got of some shard; or one was made, and put into one, unless others ended its making
abbrev pub MayGetOrPut : {K V E F : Type 0} (S : Type 0) → (K → K → Bool) → (V → V → Type 0) → (Result (V × ℕ) E → Type 0) → (F → Entry K V → F → Type 0) → F → K → Result V (NotGot K V E) → Type 0
MayGetOrPut {K} {V} {E} {F} S eq clones Makes Step visit key answer = GetsOrPuts {S = S} {T = Unit {0}} (Unit {0}) eq clones Makes Step visit (λ old P new. MayDo P) key tt answer tt
