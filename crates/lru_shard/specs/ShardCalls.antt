-- The calls of a shard, with the answers that a sharded order gives: a weight of 0 counts as 1 where a caller sets it,
-- and of the weights before and after one is told.
use Rattle.std.specs.Prelude.{ℕ, max, Bool, List, Option, Result, Ok, Err, if◌then◌else◌}
use Rattle.lru_shard.specs.declared.unit.Refused.{Refused}
use Rattle.lru_shard.specs.declared.unit.RefusedUpdate.{RefusedUpdate}
use Rattle.lru_shard.specs.declared.unit.Cause.{Cause}
use Rattle.lru_shard.specs.Row.{Row}
use Rattle.lru_shard.specs.Shard.{Shard}
use Rattle.lru_shard.specs.Unit.{Admits, SetsWeight, IncrementsWeight, UpdatesOrAdmits, accessed, needs_promote}

module _ {T : Type 0} where
  -- `admit`
  abbrev pub AdmitsRaised : Shard T → ℕ → T → ℕ → Result ℕ (Refused T) → Shard T → Type 0
  AdmitsRaised old k d w answer new = Admits old k d (max w 1) answer new

  -- `set_weight`
  abbrev pub SetsRaised : Shard T → ℕ → ℕ → Result (Option ℕ) Cause → Shard T → Type 0
  SetsRaised old k w answer new = SetsWeight old k (max w 1) answer new

  -- `increment_weight` answers the new weight
  abbrev pub IncrementsTo : (T → Type 0) → Shard T → ℕ → ℕ → Option ℕ → Result ℕ Cause → Shard T → Type 0
  IncrementsTo Makes old k delta most (Ok w) new = (was : ℕ) × ((added : Bool) × IncrementsWeight Makes old k delta most (Ok (was, w, added)) new)
  IncrementsTo Makes old k delta most (Err cause) new = IncrementsWeight Makes old k delta most (Err cause) new

  -- a refused `update_or_admit` that tells this weight
  abbrev pub told : Refused (Option (T × ℕ)) → ℕ → RefusedUpdate T
  told refused w = record { cause = refused.cause; weight = w; held = refused.held }

  -- `update_or_admit` answers the weight that the key had, if it had a row; of a refusal the weight is not told
  abbrev pub UpdatesFrom : (T → ℕ → ℕ → T → Type 0) → (T × ℕ → Type 0) → Shard T → ℕ → Result (Option ℕ) (Refused (Option (T × ℕ))) → Shard T → Type 0
  UpdatesFrom Changes Makes old k (Ok was) new = (w : ℕ) × UpdatesOrAdmits Changes Makes old k (Ok (was, w)) new
  UpdatesFrom Changes Makes old k (Err refused) new = (w : ℕ) × UpdatesOrAdmits Changes Makes old k (Err (told refused w)) new

  -- the rows after `promote_top_n`: the key's row is put first, unless it is among the first so many
  abbrev pub promoted_past : List (Row T) → ℕ → ℕ → List (Row T)
  promoted_past rows k top = if needs_promote rows k top then accessed rows k else rows
