-- An admission that evicts: last rows leave, those of the key's own shard first, and the row just put after all others.
use Rattle.std.specs.Prelude.{◌≡◌, ℕ, ◌%◌, ◌<◌, ◌+◌, ◌⊎◌, List, [], ◌∷◌, length, map, slice_get, slice_index_or, All, Some, Result, Ok, Err, IsTrue, IsFalse}
use Rattle.std.specs.List.{FoldsTo}
use Rattle.lru_shard.specs.declared.unit.Refused.{Refused}
use Rattle.lru_shard.specs.Row.{Row, pair_of, without, last_row}
use Rattle.lru_cores.specs.Core.{Core, core_len, list_at, home}
use Rattle.lru_cores.specs.CoreCalls.{CoreAdmits}
use Rattle.lru_cores.specs.Eviction.{is_over, IsVictim, evicted}

module _ {T : Type 0} where
  -- the shards' rows without that of a key
  abbrev pub besides : List (List (Row T)) → ℕ → List (List (Row T))
  besides lists k = map (λ rows. without rows k) lists

  -- whose last row leaves where a key is spared: that of the first shard, from the key's own on and round the circle, that has a row
  -- besides the key's; where none has, that of the key's own
  abbrev pub GivesUp : Core T → ℕ → ℕ → Type 0
  GivesUp c k victim =
      IsVictim (besides c.lists k) (home c k) victim ⊎ (All (λ rows. rows ≡ []) (besides c.lists k) × (victim ≡ home c k))

  -- an over core evicts a last row, and spares a key
  pub record EvictsSparing (old : Core T) (k : ℕ) (pair : T × ℕ) (new : Core T) : Type 0 where
    pub over : IsTrue (is_over old)
    pub victim : ℕ
    pub gives_up : GivesUp old k victim
    pub row : Row T
    pub last : last_row (list_at old victim) ≡ Some row
    pub answer : pair ≡ pair_of row
    pub left : new ≡ evicted old victim row

  -- a run of such evictions with these pairs
  abbrev pub SparingRun : Core T → ℕ → List (T × ℕ) → Core T → Type 0
  SparingRun old k [] new = new ≡ old
  SparingRun old k (pair ∷ pairs) new = (mid : Core T) × (EvictsSparing old k pair mid × SparingRun mid k pairs new)

  -- such a run that ends where the core is not over, and a closure that was called with each pair, in order
  pub record SparesToLimit {F : Type 0} (Step : F → T × ℕ → F → Type 0) (visit : F) (old : Core T) (k : ℕ) (new : Core T) : Type 0 where
    pub pairs : List (T × ℕ)
    pub run : SparingRun old k pairs new
    pub within : IsFalse (is_over new)
    pub left : F
    pub visited : FoldsTo Step visit pairs left

  -- `admit_and_evict`: an admission, and then such a run; or a refusal, and nothing else
  abbrev pub CoreAdmitsAndEvicts : {F : Type 0} → (F → T × ℕ → F → Type 0) → F → Core T → ℕ → T → ℕ → Result ℕ (Refused T) → Core T → Type 0
  CoreAdmitsAndEvicts Step visit old k d w (Ok s) new =
      (mid : Core T) × (CoreAdmits old k d w (Ok s) mid × SparesToLimit Step visit mid k new)
  CoreAdmitsAndEvicts Step visit old k d w (Err r) new = CoreAdmits old k d w (Err r) new

  -- a row stands first in the shard of its key, unless no row is left at all
  abbrev pub StandsFirst : Core T → Row T → Type 0
  StandsFirst c r = 0 < core_len c → slice_get (list_at c (home c r.key)) 0 ≡ Some r

  -- the row of this key stands so
  pub record HasPut (c : Core T) (k : ℕ) : Type 0 where
    pub row : Row T
    pub own : row.key ≡ k
    pub first : StandsFirst c row

  -- the first shard that is not empty behind this one, round the circle
  pub record IsNext (lists : List (List (Row T))) (from next : ℕ) : Type 0 where
    pub steps : ℕ
    pub some : 0 < steps
    pub near : steps < length lists
    pub place : next ≡ (from + steps) % length lists
    pub held : 0 < length (slice_index_or lists next [])
    pub empty_between : (j : ℕ) → 0 < j → j < steps → slice_index_or lists ((from + j) % length lists) [] ≡ []

  -- there is none: each shard but this one is empty
  abbrev pub IsLast : List (List (Row T)) → ℕ → Type 0
  IsLast lists from = (j : ℕ) → 0 < j → j < length lists → slice_index_or lists ((from + j) % length lists) [] ≡ []
