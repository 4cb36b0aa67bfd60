-- What a walk over keys that are asked for once does to the upper segment.
use Rattle.std.specs.Prelude.{◌≡◌, ℕ, ◌+◌, ◌<◌, ◌≤◌, Bool, false, List, [], ◌∷◌, ◌++◌, length, All, Option, None, Result, Ok}
use Rattle.lru_owned_cache.specs.declared.entry.Entry.{Entry}
use Rattle.lru_owned_cache.specs.Entries.{weight_of}
use Rattle.lru_owned_cache.specs.declared.cache.Refused.{Refused}
use Rattle.lru_owned_cache.specs.declared.cache.NotPut.{NotPut}
use Rattle.lru_owned_cache.specs.Cache.{entry_of}
use Rattle.lru_segmented.specs.Segmented.{Segmented, entries, Puts, UsesOrPuts}

-- what a walk asks for: a look, which uses nothing, or a put of a key with a value and a weight
pub data Call (K V : Type 0) : Type 0 where
  Look : Call K V
  Put : (key : K) (value : V) (weight : ℕ) → Call K V

module _ {K V S F : Type 0} (eq : K → K → Bool) (Step : F → Entry K V → F → Type 0) where
  -- a walk: each call does what its contract says to what the calls before it left, and puts are of keys that have no entry. A put may be refused
  abbrev pub Walks : List (Call K V) → Segmented K V S → Segmented K V S → Type 0
  Walks [] old new = new ≡ old
  Walks (Look ∷ calls) old new = Walks calls old new
  Walks (Put k v w ∷ calls) old new =
      (entry_of eq (entries old) k ≡ None) × ((visit : F) × ((answer : Result (Option (Entry K V)) (Refused K V)) × ((mid : Segmented K V S) × (Puts eq Step visit old k v w answer mid × Walks calls mid new))))

  -- requests of keys, each of which uses the key or puts an entry that a closure makes. `Post` tells what a closure may make
  abbrev pub Requests : {M E : Type 0} → (M → Result (V × ℕ) E → Type 0) → List (K × M) → Segmented K V S → Segmented K V S → Type 0
  Requests Post [] old new = new ≡ old
  Requests {M} {E} Post (r ∷ rs) old new =
      (visit : F) × ((answer : Result Bool (NotPut K V E)) × ((mid : Segmented K V S) × (UsesOrPuts eq (Post r.1) Step visit old r.0 answer mid × Requests Post rs mid new)))

module _ {K V S : Type 0} where
  -- there is room for an entry of this weight beside the upper segment
  abbrev pub FitsBeside : Segmented K V S → ℕ → Type 0
  FitsBeside c w = (weight_of c.upper + w ≤ c.most_weight) × (length c.upper < c.most_entries)

  -- the same for what a call puts
  abbrev pub CallFits : Segmented K V S → Call K V → Type 0
  CallFits c Look = Unit {0}
  CallFits c (Put k v w) = FitsBeside c w

-- no key is equal to one before it
abbrev pub AreDistinct : {K M : Type 0} → (K → K → Bool) → List (K × M) → Type 0
AreDistinct eq [] = Unit {0}
AreDistinct eq (r ∷ rs) = All (λ later. eq r.0 later.0 ≡ false) rs × AreDistinct eq rs

module _ {K V F : Type 0} (S : Type 0) (eq : K → K → Bool) (Step : F → Entry K V → F → Type 0) where
  -- no walk whose entries fit beside the upper segment changes it: each of its entries is there afterwards, with its value and its weight, in the same order
  abbrev pub NoScanEvicts : Type 0
  NoScanEvicts = (calls : List (Call K V)) (old new : Segmented K V S) → Walks eq Step calls old new → All (CallFits old) calls → new.upper ≡ old.upper

  -- whatever their weights are, puts of keys that have no entry take entries from the end of the upper segment only, and put none into it
  abbrev pub ScansTakeTheEnd : Type 0
  ScansTakeTheEnd = (calls : List (Call K V)) (old new : Segmented K V S) → Walks eq Step calls old new → (gone : List (Entry K V)) × (old.upper ≡ new.upper ++ gone)

  -- requests of distinct keys that have no entry leave the upper segment as it is, however many they are, where what is made fits beside it
  abbrev pub NoRequestEvicts : {M E : Type 0} → (M → Result (V × ℕ) E → Type 0) → Type 0
  NoRequestEvicts {M} {E} Post = (requests : List (K × M)) (old new : Segmented K V S) → Requests eq Step Post requests old new → AreDistinct eq requests →
      All (λ r. entry_of eq (entries old) r.0 ≡ None) requests → All (λ r. (made : V × ℕ) → Post r.1 (Ok made) → FitsBeside old made.1) requests → new.upper ≡ old.upper
