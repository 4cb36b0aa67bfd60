-- Entries with deadlines as rows, whose data are a value and its deadline.
use Rattle.std.specs.Prelude.{◌≡◌, ◌⊎◌, ℕ, ◌+◌, ◌-◌, ◌^◌, min, Bool, List, [], ◌∷◌, map, reverse, Vec, Result, Ok, Err}
use Rattle.std.specs.declared.alloc.Global.{Global}
use Rattle.lru_frames.specs.declared.row.Row.{Row}
use Rattle.lru_owned_cache.specs.declared.cache.Refused as cached
use Rattle.lru_owned_cache.specs.Cache.{Cached}
use Rattle.lru_cache_checkpoints.specs.Captures.{PutsEntries}
use Rattle.lru_deadlines.specs.declared.deadlines.Until.{Until}
use Rattle.lru_deadlines.specs.Deadlines.{until}

module _ {K V : Type 0} where
  -- a row with clones of a key and a value, its deadline, and their weight
  abbrev pub IsDeadlineCopy : (K → K → Type 0) → (V → V → Type 0) → K × Until V × ℕ → Row K (V × ℕ) → Type 0
  IsDeadlineCopy IsCloneKey IsCloneValue entry row = IsCloneKey entry.0 row.key × (IsCloneValue entry.1.value row.«data».0 × ((row.«data».1 ≡ entry.1.deadline) × (row.weight ≡ entry.2)))

  -- the row with its data as a cache holds them
  abbrev pub until_row : Row K (V × ℕ) → Row K (Until V)
  until_row row = record { key = row.key; «data» = until row.«data».0 row.«data».1; weight = row.weight }

  -- the entries of each shard are put with their deadlines, as those of shards without them
  abbrev pub PutsDeadlines : {S : Type 0} → (K → K → Bool) → Cached K (Until V) S → List (Vec (Row K (V × ℕ)) Global) → ℕ → Result ℕ (cached.Refused K (Until V)) → Cached K (Until V) S → Type 0
  PutsDeadlines {S} eq old [] left answer new = (answer ≡ Ok left) × (new ≡ old)
  PutsDeadlines {S} eq old (rows ∷ shards) left answer new =
      ((count : ℕ) × ((mid : Cached K (Until V) S) × (PutsEntries eq old (map until_row (reverse rows.items)) 0 (Ok count) mid × PutsDeadlines eq mid shards (min (left + count) (2 ^ 64 - 1)) answer new)))
      ⊎ ((refused : cached.Refused K (Until V)) × ((answer ≡ Err refused) × PutsEntries eq old (map until_row (reverse rows.items)) 0 (Err refused) new))
