-- What the answers of a shared cache say, where of the entries that other threads may change nothing is known but that each value stands in a relation to its key.
use Rattle.std.specs.Prelude.{◌≡◌, ℕ, Bool, true, List, length, reverse, All, Option, Result}
use Rattle.std.specs.List.{FoldsTo}
use Rattle.std.specs.Borrow.{Bor, MutBor}
use Rattle.lru_owned_cache.specs.declared.entry.Entry.{Entry}
use Rattle.lru_owned_cache.specs.Entries.{IsShown}
use Rattle.lru_owned_cache.specs.declared.cache.Refused.{Refused}
use Rattle.lru_owned_cache.specs.Cache.{Cached, Puts, Limits, Retains}
use Rattle.lru_shared_cache.specs.Relations.{IsRelated, AreRelated, IsOf}
use Rattle.lru_shared_cache.specs.Counting.{ShardOf, LimitsTo}
use Rattle.lru_shared_cache.specs.Calls.{VisitsEach, VisitsEachTo}

module _ {K V : Type 0} (holds : K → V → Type 0) where
  -- a closure leaves in place of a value only what stands in the relation to its key too
  abbrev pub KeepsRelation : {R : Type 0} → (MutBor V → ℕ → R → MutBor V → Type 0) → Type 0
  KeepsRelation {R} post = (key : K) (lent : MutBor V) (weight : ℕ) (answer : R) (left : MutBor V) → post lent weight answer left → IsRelated holds key lent.now → IsRelated holds key left.now

  module _ {Q : Type 0} (eq : K → Q → Bool) where
    -- a closure that was lent a value of the query's key may have answered this
    abbrev pub MayShowRelated : {R : Type 0} → Q → (Bor V → R → Type 0) → R → Type 0
    MayShowRelated query post answer = (lent : Bor V) × (IsOf holds eq query lent.now × post lent answer)

    -- the same, of one that may change the value and was told its weight
    abbrev pub MayLendRelated : {R : Type 0} → Q → (MutBor V → ℕ → R → MutBor V → Type 0) → R → Type 0
    MayLendRelated query post answer = (lent : MutBor V) × ((weight : ℕ) × ((left : MutBor V) × (IsOf holds eq query lent.now × post lent weight answer left)))

    -- this may be a clone of a value of the query's key
    abbrev pub MayGetRelated : (V → V → Type 0) → Q → V → Type 0
    MayGetRelated clones query answer = (value : V) × (IsOf holds eq query value × clones value answer)

    -- this may be the query's entry
    abbrev pub MayTakeRelated : Q → Entry K V → Type 0
    MayTakeRelated query e = (eq e.key query ≡ true) × IsRelated holds e.key e.value

  -- some such entries may have been seen, of which this is so
  abbrev pub MaySeeRelated : (List (Entry K V) → Type 0) → Type 0
  MaySeeRelated P = (es : List (Entry K V)) × (AreRelated holds es × P es)

  -- so many shards of such entries may have been seen, one after another, of all of which this is so
  abbrev pub MaySeeAllRelated : (S : Type 0) → ℕ → (List (ShardOf K V S) → Type 0) → Type 0
  MaySeeAllRelated S many P = (shards : List (ShardOf K V S)) × ((length shards ≡ many) × (All (λ shard. AreRelated holds shard.cache.entries) shards × P shards))

  -- an entry may have been put, or refused, so: there are such entries of which it is told
  abbrev pub MayPutRelated : {F : Type 0} → (K → K → Bool) → (F → Entry K V → F → Type 0) → F → K → V → ℕ → Result (Option (Entry K V)) (Refused K V) → Type 0
  MayPutRelated eq Step visit key value weight answer =
      (old : Cached K V (Unit {0})) × ((new : Cached K V (Unit {0})) × (AreRelated holds old.entries × (AreRelated holds new.entries × Puts eq Step visit old key value weight answer new)))

  -- a closure may have been called with the parts of such entries
  abbrev pub MayVisitRelated : {F : Type 0} → (F → Bor K × Bor V × ℕ → F → Type 0) → F → Type 0
  MayVisitRelated Step visit = (es : List (Entry K V)) × (AreRelated holds es × VisitsEach Step visit es)

  -- it may have been called with such entries, the last first
  abbrev pub MayClearRelated : {F : Type 0} → (F → Entry K V → F → Type 0) → F → Type 0
  MayClearRelated Step visit = (es : List (Entry K V)) × (AreRelated holds es × IsShown Step visit es)

  -- or the first first
  abbrev pub MayDrainRelated : {F : Type 0} → (F → Entry K V → F → Type 0) → F → Type 0
  MayDrainRelated {F} Step visit = (es : List (Entry K V)) × (AreRelated holds es × ((left : F) × FoldsTo Step visit es left))

  -- the limits may have become others, and such entries may have gone for it
  abbrev pub MayLimitRelated : {F : Type 0} → (F → Entry K V → F → Type 0) → F → ℕ → ℕ → Type 0
  MayLimitRelated Step visit weight entries =
      (old : Cached K V (Unit {0})) × ((new : Cached K V (Unit {0})) × (AreRelated holds old.entries × Limits Step visit old weight entries new))

  -- ---- the same, and in which state the closure is left
  abbrev pub MayVisitTo : {F : Type 0} → (F → Bor K × Bor V × ℕ → F → Type 0) → F → F → Type 0
  MayVisitTo Step visit left = (es : List (Entry K V)) × (AreRelated holds es × VisitsEachTo Step visit es left)

  abbrev pub MayClearTo : {F : Type 0} → (F → Entry K V → F → Type 0) → F → F → Type 0
  MayClearTo Step visit left = (es : List (Entry K V)) × (AreRelated holds es × FoldsTo Step visit (reverse es) left)

  abbrev pub MayDrainTo : {F : Type 0} → (F → Entry K V → F → Type 0) → F → F → Type 0
  MayDrainTo Step visit left = (es : List (Entry K V)) × (AreRelated holds es × FoldsTo Step visit es left)

  abbrev pub MayLimitTo : {F : Type 0} → (F → Entry K V → F → Type 0) → F → ℕ → ℕ → F → Type 0
  MayLimitTo Step visit weight entries left =
      (old : Cached K V (Unit {0})) × ((new : Cached K V (Unit {0})) × (AreRelated holds old.entries × LimitsTo Step visit old weight entries left new))

  -- a test may have been asked of such entries
  abbrev pub MayRetainRelated : {F : Type 0} → (F → Bor K → Bor V → ℕ → Bool → F → Type 0) → F → Type 0
  MayRetainRelated step keep = (old : Cached K V (Unit {0})) × ((new : Cached K V (Unit {0})) × (AreRelated holds old.entries × Retains step keep old new))
