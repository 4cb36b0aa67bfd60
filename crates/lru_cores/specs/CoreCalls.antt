-- The calls of a core on a key: the shard's call on the key's own shard, and nothing else.
use Rattle.std.specs.Prelude.{◌≡◌, ℕ, Bool, Option, Result, Ok, Err}
use Rattle.lru_shard.specs.declared.unit.Refused.{Refused}
use Rattle.lru_shard.specs.declared.unit.Cause.{Cause}
use Rattle.lru_shard.specs.Unit.{InsertsTail, Pulls}
use Rattle.lru_shard.specs.ShardCalls.{AdmitsRaised, SetsRaised, IncrementsTo, UpdatesFrom}
use Rattle.lru_cores.specs.Core.{Core, ActsOn, home}

module _ {T : Type 0} where
  -- `admit` answers the shard
  abbrev pub CoreAdmits : Core T → ℕ → T → ℕ → Result ℕ (Refused T) → Core T → Type 0
  CoreAdmits old k d w (Ok s) new = (s ≡ home old k) × ((was : ℕ) × ActsOn old (home old k) new (λ a b. AdmitsRaised a k d w (Ok was) b))
  CoreAdmits old k d w (Err r) new = ActsOn old (home old k) new (λ a b. AdmitsRaised a k d w (Err r) b)

  abbrev pub CoreInsertsTail : Core T → ℕ → T → ℕ → Result Bool (Refused T) → Core T → Type 0
  CoreInsertsTail old k d w answer new = ActsOn old (home old k) new (λ a b. InsertsTail a k d w answer b)

  abbrev pub CoreIncrements : (T → Type 0) → Core T → ℕ → ℕ → Option ℕ → Result ℕ Cause → Core T → Type 0
  CoreIncrements Makes old k delta most answer new = ActsOn old (home old k) new (λ a b. IncrementsTo Makes a k delta most answer b)

  abbrev pub CoreUpdates : (T → ℕ → ℕ → T → Type 0) → (T × ℕ → Type 0) → Core T → ℕ → Result (Option ℕ) (Refused (Option (T × ℕ))) → Core T → Type 0
  CoreUpdates Changes Makes old k answer new = ActsOn old (home old k) new (λ a b. UpdatesFrom Changes Makes a k answer b)

  abbrev pub CoreSetsWeight : Core T → ℕ → ℕ → Result (Option ℕ) Cause → Core T → Type 0
  CoreSetsWeight old k w answer new = ActsOn old (home old k) new (λ a b. SetsRaised a k w answer b)

  -- `pull`: the key's row goes from its shard there into its shard here
  abbrev pub CorePulls : Core T → Core T → ℕ → Result (Option ℕ) Cause → Core T → Core T → Type 0
  CorePulls old from k answer new left = ActsOn old (home old k) new (λ a b. ActsOn from (home from k) left (λ f l. Pulls a f k answer b l))
