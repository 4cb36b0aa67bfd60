-- What the answers of a cache that threads share say by themselves, where nothing is known of the entries that others may change.
use Rattle.std.specs.Prelude.{◌≡◌, ℕ, Bool, List, length, Option, Result}
use Rattle.lru_owned_cache.specs.declared.cache.Refused.{Refused}
use Rattle.lru_owned_cache.specs.Cache.{Cached, Puts}
use Rattle.lru_deadlines.specs.declared.deadlines.Until.{Until}
use Rattle.lru_shared_cache.specs.declared.calls.NotGot.{NotGot}
use Rattle.lru_shared_cache.specs.Shards.{MaySee, MayDo}
use Rattle.lru_shared_deadlines.specs.declared.ages.Aged.{Aged}
use Rattle.lru_shared_deadlines.specs.declared.ages.Ages.{Ages}
use Rattle.lru_shared_deadlines.specs.declared.ages.Moment.{Moment}
use Rattle.lru_shared_deadlines.specs.Ages.{moment}
use Rattle.lru_shared_deadlines.specs.Calls.{ShardOf, Ends, GetsOrPuts}

-- some shard is so
abbrev pub MayBe : (K V S : Type 0) → (ShardOf K V S → Type 0) → Type 0
MayBe K V S P = MaySee P

-- so many shards are so together, each seen at a moment of its own
abbrev pub MayBeAll : (K V S : Type 0) → ℕ → (List (ShardOf K V S) → Type 0) → Type 0
MayBeAll K V S many P = (shards : List (ShardOf K V S)) × ((length shards ≡ many) × P shards)

-- some shard is changed so, at a time, under these ages
abbrev pub MayAct : (K V S : Type 0) → Ages → ℕ → (Moment → ShardOf K V S → ShardOf K V S → Type 0) → Type 0
MayAct K V S ages time P = MayDo (P (moment time ages))

-- some shard is changed so
abbrev pub MayChange : (K V S : Type 0) → (ShardOf K V S → ShardOf K V S → Type 0) → Type 0
MayChange K V S P = MayDo P

-- a value was got of some shard, at a time, under these ages; or one was made, and put into one, unless others ended its making
abbrev pub MayGetOrPut : {K V E F : Type 0} (S : Type 0) → (K → K → Bool) → (V → V → Type 0) → (Result (V × ℕ) E → Type 0) → (F → Ends K V → F → Type 0) → F → Ages → ℕ → K → Result V (NotGot K V E) → Type 0
MayGetOrPut {K} {V} {E} {F} S eq clones Makes Step visit ages time key answer = GetsOrPuts {S = S} {T = Unit {0}} (Unit {0}) eq clones Makes Step visit (λ old P new. MayDo P) (moment time ages) key tt answer tt

-- an entry may have been put back, or refused, so: there are entries of which it is told
abbrev pub MayPutBack : {K V F : Type 0} → (K → K → Bool) → (F → Ends K V → F → Type 0) → F → K → Until (Aged V) → ℕ → Result (Option (Ends K V)) (Refused K (Until (Aged V))) → Type 0
MayPutBack {K} {V} eq Step visit key value weight answer = (old : Cached K (Until (Aged V)) (Unit {0})) × ((new : Cached K (Until (Aged V)) (Unit {0})) × Puts eq Step visit old key value weight answer new)
