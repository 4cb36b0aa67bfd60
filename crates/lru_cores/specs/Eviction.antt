-- Eviction: when a core is over, whose last row leaves, and whole runs.
use Rattle.std.specs.Prelude.{◌≡◌, ℕ, ◌+◌, ◌<◌, ◌≤◌, ◌%◌, ◌^◌, Bool, List, [], ◌∷◌, length, take, slice_index_or, Option, Some, None, MatchOption, IsTrue, IsFalse}
use Rattle.std.specs.List.{FoldsTo}
use Rattle.lru_shard.specs.Row.{Row, pair_of, last_row, without_last}
use Rattle.lru_shard.specs.Victims.{longer_of}
use Rattle.lru_shard.specs.Limits.{is_past}
use Rattle.lru_shard.specs.Draws.{drawn_shards}
use Rattle.rand_core.specs.Stream.{Stream}
use Rattle.lru_cores.specs.Core.{Core, core_weight, core_len, list_at, with_list}

module _ {T : Type 0} where
  -- the weight is above the limit, or the length above the watermark
  abbrev pub is_over : Core T → Bool
  is_over c = is_past c.weight_limit c.watermark (core_weight c) (core_len c)

  -- of two shards the longer one, or the first where they are as long
  abbrev pub start : Core T → ℕ → ℕ → ℕ
  start c a b = longer_of a b (length (list_at c a)) (length (list_at c b))

  -- the first shard that isn't empty, from this one on and round the circle: fewer steps on than there are shards
  pub record IsVictim (lists : List (List (Row T))) (from victim : ℕ) : Type 0 where
    pub steps : ℕ
    pub near : steps < length lists
    pub place : victim ≡ (from + steps) % length lists
    pub held : 0 < length (slice_index_or lists victim [])
    pub empty_before : (j : ℕ) → j < steps → slice_index_or lists ((from + j) % length lists) [] ≡ []

  -- the core after the last row of a shard, this one, was evicted
  abbrev pub evicted : Core T → ℕ → Row T → Core T
  evicted c s r = record {
    lists = (with_list c s (without_last (list_at c s))).lists;
    weight_limit = c.weight_limit;
    watermark = c.watermark;
    evicted_weight = (c.evicted_weight + r.weight) % 2 ^ 64;
    evicted_len = (c.evicted_len + 1) % 2 ^ 64;
  }

  -- `evict_shard`: the last row of a shard leaves, if there is one, whatever the limits are
  abbrev pub EvictsFrom : Core T → ℕ → Option (T × ℕ) → Core T → Type 0
  EvictsFrom old s answer new =
      MatchOption (last_row (list_at old s)) ((answer ≡ None) × (new ≡ old)) (λ r. (answer ≡ Some (pair_of r)) × (new ≡ evicted old s r))

  -- an over core evicts the last row of the victim of two draws
  pub record Evicts (old : Core T) (a b : ℕ) (pair : T × ℕ) (new : Core T) : Type 0 where
    pub over : IsTrue (is_over old)
    pub victim : ℕ
    pub is_victim : IsVictim old.lists (start old a b) victim
    pub row : Row T
    pub last : last_row (list_at old victim) ≡ Some row
    pub answer : pair ≡ pair_of row
    pub left : new ≡ evicted old victim row

  -- what `evict_step` answers, and leaves
  abbrev pub EvictsWhereOver : Core T → ℕ → ℕ → Option (T × ℕ) → Core T → Type 0
  EvictsWhereOver old a b (Some pair) new = Evicts old a b pair new
  EvictsWhereOver old a b None new = IsFalse (is_over old) × (new ≡ old)

  -- `victim_key`: the key of the row that `evict_step` would take
  abbrev pub NamesVictim : Core T → ℕ → ℕ → Option ℕ → Type 0
  NamesVictim c a b (Some k) = (pair : T × ℕ) × ((new : Core T) × ((step : Evicts c a b pair new) × (k ≡ step.row.key)))
  NamesVictim c a b None = IsFalse (is_over c)

  -- a run of evictions with these pairs, each from an over core: its victim is that of two shards drawn from the
  -- stream of random words, and the next eviction draws from what is left of the stream
  abbrev pub EvictionRun : Core T → Stream → List (T × ℕ) → Core T → Stream → Type 0
  EvictionRun old words [] new rest = (new ≡ old) × (rest ≡ words)
  EvictionRun old words (pair ∷ pairs) new rest =
      let drawn = drawn_shards (length old.lists) words in
      (mid : Core T) × (Evicts old drawn.0.0 drawn.0.1 pair mid × EvictionRun mid drawn.1 pairs new rest)

  -- `evict_to_limit`: a run of evictions, with its pairs in order, that ends where the core is not over
  pub record EvictsToLimit (old : Core T) (words : Stream) (pairs : List (T × ℕ)) (new : Core T) (rest : Stream) : Type 0 where
    pub run : EvictionRun old words pairs new rest
    pub within : IsFalse (is_over new)

  -- the same, where want of memory ends it while the core is still over
  pub record IsCutShort (old : Core T) (words : Stream) (pairs : List (T × ℕ)) (new : Core T) (rest : Stream) : Type 0 where
    pub run : EvictionRun old words pairs new rest
    pub over : IsTrue (is_over new)

  -- `evict_with`: such a run, and a closure that was called with each of its pairs, in order
  pub record EvictsWith {F : Type 0} (Step : F → T × ℕ → F → Type 0) (visit : F) (old : Core T) (words : Stream) (new : Core T) (rest : Stream) : Type 0 where
    pub pairs : List (T × ℕ)
    pub evicts : EvictsToLimit old words pairs new rest
    pub left : F
    pub visited : FoldsTo Step visit pairs left

  -- of the rows of the one shard the longest front is kept that is within the limits: with one row more the core is over
  pub record KeepsLongestFront (old new : Core T) : Type 0 where
    pub kept : ℕ
    pub within : kept ≤ length (list_at old 0)
    pub rows : list_at new 0 ≡ take kept (list_at old 0)
    pub longest : (n : ℕ) → kept < n → n ≤ length (list_at old 0) → IsTrue (is_over (with_list old 0 (take n (list_at old 0))))
