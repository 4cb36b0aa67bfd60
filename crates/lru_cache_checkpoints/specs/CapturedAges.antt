-- Entries that end as rows, whose data are a value, the time at which it ends, and its deadline.
use Rattle.std.specs.Prelude.{◌≡◌, ◌⊎◌, ℕ, ◌+◌, ◌^◌, ◌-◌, min, Bool, List, [], ◌∷◌, map, reverse, Vec, Result, Ok, Err}
use Rattle.std.specs.declared.alloc.Global.{Global}
use Rattle.lru_frames.specs.declared.row.Row.{Row}
use Rattle.lru_frames.specs.Copies.{AreEach}
use Rattle.lru_owned_cache.specs.declared.cache.Refused as cached
use Rattle.lru_owned_cache.specs.Cache.{Cached, parts_of}
use Rattle.lru_deadlines.specs.declared.deadlines.Until.{Until}
use Rattle.lru_shared_deadlines.specs.declared.ages.Aged.{Aged}
use Rattle.lru_cache_checkpoints.specs.Captures.{MayPutEntries}

-- a value with its end and its deadline, as a cache holds it
abbrev pub aged : {V : Type 0} → V × (ℕ × ℕ) → Until (Aged V)
aged {V} stored = record { value = record { value = stored.0; ends = stored.1.0 }; deadline = stored.1.1 }

module _ {K V : Type 0} where
  -- a row with clones of a key and a value, its end, its deadline, and their weight
  abbrev pub IsAgedCopy : (K → K → Type 0) → (V → V → Type 0) → K × Until (Aged V) × ℕ → Row K (V × (ℕ × ℕ)) → Type 0
  IsAgedCopy IsCloneKey IsCloneValue entry row =
      IsCloneKey entry.0 row.key
      × (IsCloneValue entry.1.value.value row.«data».0 × ((row.«data».1.0 ≡ entry.1.value.ends) × ((row.«data».1.1 ≡ entry.1.deadline) × (row.weight ≡ entry.2))))

  -- rows may be the copies of a cache whose entries end: there are entries of which they are
  abbrev pub MayCopyAged : (K → K → Type 0) → (V → V → Type 0) → List (Row K (V × (ℕ × ℕ))) → Type 0
  MayCopyAged IsCloneKey IsCloneValue rows = (cache : Cached K (Until (Aged V)) (Unit {0})) × AreEach (IsAgedCopy IsCloneKey IsCloneValue) (map parts_of cache.entries) rows

  -- the row with its data as a cache holds them
  abbrev pub aged_row : Row K (V × (ℕ × ℕ)) → Row K (Until (Aged V))
  aged_row row = record { key = row.key; «data» = aged row.«data»; weight = row.weight }

  -- the entries of each shard are put with their ends and deadlines, as those of shards without them, each at a moment of its own
  abbrev pub MayPutAged : (K → K → Bool) → List (Vec (Row K (V × (ℕ × ℕ))) Global) → ℕ → Result ℕ (cached.Refused K (Until (Aged V))) → Type 0
  MayPutAged eq [] left answer = answer ≡ Ok left
  MayPutAged eq (rows ∷ shards) left answer =
      ((count : ℕ) × (MayPutEntries eq (map aged_row (reverse rows.items)) 0 (Ok count) × MayPutAged eq shards (min (left + count) (2 ^ 64 - 1)) answer))
      ⊎ ((refused : cached.Refused K (Until (Aged V))) × ((answer ≡ Err refused) × MayPutEntries eq (map aged_row (reverse rows.items)) 0 (Err refused)))
