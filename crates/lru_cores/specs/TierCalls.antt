-- The calls of two tiers: what each may answer, and both cores after it.
use Rattle.std.specs.Prelude.{◌≡◌, ℕ, List, [], ◌∷◌, length, Option, Some, None, Result, Ok, Err, ◌⊎◌, IsFalse}
use Rattle.lru_shard.specs.declared.unit.Refused.{Refused}
use Rattle.lru_shard.specs.declared.unit.Cause.{Cause}
use Rattle.lru_shard.specs.declared.unit.Cause.TheVariants.{Memory}
use Rattle.lru_shard.specs.Row.{Row}
use Rattle.lru_shard.specs.Unit.{accessed}
use Rattle.lru_shard.specs.Draws.{drawn_shards}
use Rattle.rand_core.specs.Stream.{Stream}
use Rattle.lru_cores.specs.Core.{Core, home, list_at, with_list}
use Rattle.lru_cores.specs.CoreCalls.{CoreAdmits, CorePulls}
use Rattle.lru_cores.specs.Eviction.{is_over, NamesVictim, EvictsToLimit, IsCutShort}
use Rattle.lru_cores.specs.declared.tiered.Tier.{Tier}
use Rattle.lru_cores.specs.declared.tiered.Tier.TheVariants.{Hot, Cold}
use Rattle.lru_cores.specs.Tiers.{Tiers, tiers, core_without, row_where}

module _ {T : Type 0} where
  -- `admit`: the hot core's; where it is granted a row of the key leaves the cold core
  abbrev pub AdmitsHot : Tiers T → ℕ → T → ℕ → Result ℕ (Refused T) → Tiers T → Type 0
  AdmitsHot old k d w (Ok s) new = CoreAdmits old.hot k d w (Ok s) new.hot × (new.cold ≡ core_without old.cold k)
  AdmitsHot old k d w (Err r) new = CoreAdmits old.hot k d w (Err r) new.hot × (new ≡ old)

  -- a row goes from one core into another, whole
  abbrev pub Moves : Core T → Core T → ℕ → Core T → Core T → Type 0
  Moves to from k new left = (w : ℕ) × CorePulls to from k (Ok (Some w)) new left

  -- `touch` of a key whose row is in this tier, if it has one: a hot row is put first, a cold one is pulled into the hot core
  abbrev pub TouchesRow : Tiers T → ℕ → Option (Tier × Row T) → Result (Option Tier) Cause → Tiers T → Type 0
  TouchesRow old k (Some (Hot, r)) (Ok answer) new =
      (answer ≡ Some Hot) × (new ≡ tiers (with_list old.hot (home old.hot k) (accessed (list_at old.hot (home old.hot k)) k)) old.cold)
  TouchesRow old k (Some (Cold, r)) (Ok answer) new = (answer ≡ Some Cold) × Moves old.hot old.cold k new.hot new.cold
  TouchesRow old k (Some (Cold, r)) (Err cause) new = CorePulls old.hot old.cold k (Err cause) new.hot new.cold × (new ≡ old)
  TouchesRow old k None (Ok answer) new = (answer ≡ None) × (new ≡ old)
  TouchesRow old k _ (Err cause) new = ⊥

  abbrev pub Touches : Tiers T → ℕ → Result (Option Tier) Cause → Tiers T → Type 0
  Touches old k answer new = TouchesRow old k (row_where old k) answer new

  -- `spill_step`: where the hot core is over, the row that it would evict of these draws goes into the cold core
  abbrev pub Spills : Tiers T → ℕ → ℕ → Result (Option ℕ) Cause → Tiers T → Type 0
  Spills old a b (Ok (Some k)) new = NamesVictim old.hot a b (Some k) × Moves old.cold old.hot k new.cold new.hot
  Spills old a b (Ok None) new = NamesVictim old.hot a b None × (new ≡ old)
  Spills old a b (Err cause) new =
      (k : ℕ) × (NamesVictim old.hot a b (Some k) × (CorePulls old.cold old.hot k (Err cause) new.cold new.hot × (new ≡ old)))

  -- a run of spills of these keys, each by two shards drawn from the stream of random words
  abbrev pub SpillRun : Tiers T → Stream → List ℕ → Tiers T → Stream → Type 0
  SpillRun old words [] new rest = (new ≡ old) × (rest ≡ words)
  SpillRun old words (k ∷ ks) new rest =
      let drawn = drawn_shards (length old.hot.lists) words in
      (mid : Tiers T) × (Spills old drawn.0.0 drawn.0.1 (Ok (Some k)) mid × SpillRun mid drawn.1 ks new rest)

  -- the rows that make the hot core over are spilled, and no others
  pub record SpillsToLimit (old : Tiers T) (words : Stream) (new : Tiers T) (rest : Stream) : Type 0 where
    pub keys : List ℕ
    pub run : SpillRun old words keys new rest
    pub within : IsFalse (is_over new.hot)

  -- the same, where a spill is refused for this cause; those before it stand
  pub record StopsSpilling (old : Tiers T) (words : Stream) (cause : Cause) (new : Tiers T) (rest : Stream) : Type 0 where
    pub keys : List ℕ
    pub left : Stream
    pub run : SpillRun old words keys new left
    pub drawn : (ℕ × ℕ)
    pub draws : (drawn, rest) ≡ drawn_shards (length new.hot.lists) left
    pub refused : Spills new drawn.0 drawn.1 (Err cause) new

  -- the cold core evicts what makes it over, or is cut short by want of memory
  pub record EvictsCold (old : Tiers T) (words : Stream) (new : Tiers T) (rest : Stream) (Evicts : Core T → Stream → Core T → Stream → Type 0) : Type 0 where
    pub spilled : Tiers T
    pub left : Stream
    pub spills : SpillsToLimit old words spilled left
    pub evicts : Evicts spilled.cold left new.cold rest
    pub hot : new.hot ≡ spilled.hot

  -- `balance`
  abbrev pub Balances : Tiers T → Stream → Result (List (T × ℕ)) (Cause × List (T × ℕ)) → Tiers T → Stream → Type 0
  Balances old words (Ok pairs) new rest = EvictsCold old words new rest (λ c s d r. EvictsToLimit c s pairs d r)
  Balances old words (Err (cause, pairs)) new rest =
      (StopsSpilling old words cause new rest × (pairs ≡ []))
      ⊎ (EvictsCold old words new rest (λ c s d r. IsCutShort c s pairs d r) × (cause ≡ Memory))
