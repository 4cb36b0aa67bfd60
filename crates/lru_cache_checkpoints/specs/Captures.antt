-- Entries copied out of a cache, and put back.
use Rattle.std.specs.Prelude.{◌≡◌, ◌⊎◌, ℕ, suc, ◌+◌, ◌-◌, ◌^◌, min, cond, Bool, true, false, List, [], ◌∷◌, map, reverse, Vec, Result, Ok, Err}
use Rattle.std.specs.declared.alloc.Global.{Global}
use Rattle.lru_frames.specs.declared.row.Row.{Row}
use Rattle.lru_owned_cache.specs.declared.entry.Entry.{Entry}
use Rattle.lru_owned_cache.specs.declared.cache.Cause.TheVariants.{TooHeavy}
use Rattle.lru_owned_cache.specs.declared.cache.Refused as cached
use Rattle.lru_owned_cache.specs.Cache.{Cached, with_entries, without, parts_of, Leaves, MayRefuse}
use Rattle.lru_owned_cache.specs.Entries.{entry}
use Rattle.lru_frames.specs.Copies.{AreEach, IsEntryCopy}

-- rows may be the copies of a cache: there are entries of which they are
abbrev pub MayCopy : {K V : Type 0} → (K → K → Type 0) → (V → V → Type 0) → List (Row K V) → Type 0
MayCopy {K} {V} IsCloneKey IsCloneValue rows = (cache : Cached K V (Unit {0})) × AreEach (IsEntryCopy IsCloneKey IsCloneValue) (map parts_of cache.entries) rows

-- a row as the entry that is put for it
abbrev pub entry_of : {K V : Type 0} → Row K V → Entry K V
entry_of row = entry row.key row.data row.weight

module _ {K V : Type 0} (eq : K → K → Bool) where
  -- an entry is put first, and the shortest end of the others goes that has to
  abbrev pub PutsEntry : {S : Type 0} → Cached K V S → Row K V → Cached K V S → Type 0
  PutsEntry old row new = (front : List (Entry K V)) × ((gone : List (Entry K V))
      × (Leaves (old.most_weight - row.weight) (old.most_entries - 1) (without eq old.entries row.key) front gone × (new ≡ with_entries old (entry row.key row.data row.weight ∷ front))))

  -- an entry is refused, and nothing changes
  abbrev pub RefusesEntry : {S : Type 0} → Cached K V S → Row K V → cached.Refused K V → Cached K V S → Type 0
  RefusesEntry old row refused new = MayRefuse eq old row.key row.weight refused.cause × ((refused.key ≡ row.key) × ((refused.value ≡ row.data) × (new ≡ old)))

  -- an entry is put, or left out where it is too heavy by itself, or refused for another cause
  abbrev pub PutsOrLeaves : {S : Type 0} → Cached K V S → Row K V → Result Bool (cached.Refused K V) → Cached K V S → Type 0
  PutsOrLeaves old row (Ok false) new = PutsEntry old row new
  PutsOrLeaves old row (Ok true) new = MayRefuse eq old row.key row.weight TooHeavy × (new ≡ old)
  PutsOrLeaves old row (Err refused) new = (refused.cause ≡ TooHeavy → ⊥) × RefusesEntry old row refused new

  -- entries are put one after the other, up to the first that is refused; those that are left out are counted on from a number
  abbrev pub PutsEntries : {S : Type 0} → Cached K V S → List (Row K V) → ℕ → Result ℕ (cached.Refused K V) → Cached K V S → Type 0
  PutsEntries {S} old [] left answer new = (answer ≡ Ok left) × (new ≡ old)
  PutsEntries {S} old (row ∷ rows) left answer new =
      ((is_left : Bool) × ((mid : Cached K V S) × (PutsOrLeaves old row (Ok is_left) mid × PutsEntries mid rows (cond is_left (suc left) left) answer new)))
      ⊎ ((refused : cached.Refused K V) × ((answer ≡ Err refused) × PutsOrLeaves old row (Err refused) new))

  -- an entry may have been put or left out or refused so: there are entries of which it is told
  abbrev pub MayPutOrLeave : Row K V → Result Bool (cached.Refused K V) → Type 0
  MayPutOrLeave row answer = (old : Cached K V (Unit {0})) × ((new : Cached K V (Unit {0})) × PutsOrLeaves old row answer new)

  -- the same of entries one after the other, up to the first that is refused, each at a moment of its own
  abbrev pub MayPutEntries : List (Row K V) → ℕ → Result ℕ (cached.Refused K V) → Type 0
  MayPutEntries [] left answer = answer ≡ Ok left
  MayPutEntries (row ∷ rows) left answer =
      ((is_left : Bool) × (MayPutOrLeave row (Ok is_left) × MayPutEntries rows (cond is_left (suc left) left) answer))
      ⊎ ((refused : cached.Refused K V) × ((answer ≡ Err refused) × MayPutOrLeave row (Err refused)))

  -- the entries of each shard are put, the last of a shard first, up to the first that is refused; those that are left out are counted on, as far as can be told
  abbrev pub PutsShards : {S : Type 0} → Cached K V S → List (Vec (Row K V) Global) → ℕ → Result ℕ (cached.Refused K V) → Cached K V S → Type 0
  PutsShards {S} old [] left answer new = (answer ≡ Ok left) × (new ≡ old)
  PutsShards {S} old (rows ∷ shards) left answer new =
      ((count : ℕ) × ((mid : Cached K V S) × (PutsEntries old (reverse rows.items) 0 (Ok count) mid × PutsShards mid shards (min (left + count) (2 ^ 64 - 1)) answer new)))
      ⊎ ((refused : cached.Refused K V) × ((answer ≡ Err refused) × PutsEntries old (reverse rows.items) 0 (Err refused) new))

  -- the same, each entry at a moment of its own
  abbrev pub MayPutShards : List (Vec (Row K V) Global) → ℕ → Result ℕ (cached.Refused K V) → Type 0
  MayPutShards [] left answer = answer ≡ Ok left
  MayPutShards (rows ∷ shards) left answer =
      ((count : ℕ) × (MayPutEntries (reverse rows.items) 0 (Ok count) × MayPutShards shards (min (left + count) (2 ^ 64 - 1)) answer))
      ⊎ ((refused : cached.Refused K V) × ((answer ≡ Err refused) × MayPutEntries (reverse rows.items) 0 (Err refused)))
