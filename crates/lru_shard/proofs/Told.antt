-- A refused `update_or_admit` whose weight is not told.
use Rattle.std.proofs.Common.{◌≡◌, ℕ, Err, subst, sym}
use Rattle.std.specs.Prelude.{Option}
use Rattle.lru_shard.specs.declared.unit.Refused.{Refused}
use Rattle.lru_shard.specs.declared.unit.RefusedUpdate.{RefusedUpdate}
use Rattle.lru_shard.specs.Shard.{Shard}
use Rattle.lru_shard.specs.Unit.{UpdatesOrAdmits}
use Rattle.lru_shard.specs.ShardCalls.{told, UpdatesFrom}

module _ {T : Type 0} where
  pub told_again : (refused : RefusedUpdate T) (r : Refused (Option (T × ℕ))) → r.cause ≡ refused.cause → r.held ≡ refused.held → told r refused.weight ≡ refused
  told_again refused r cause held = λ i. record { cause = cause i; weight = refused.weight; held = held i }

  pub untold_from : (Changes : T → ℕ → ℕ → T → Type 0) (Makes : T × ℕ → Type 0) (old : Shard T) (k : ℕ) (refused : RefusedUpdate T) (r : Refused (Option (T × ℕ))) → r.cause ≡ refused.cause → r.held ≡ refused.held →
      (new : Shard T) → UpdatesOrAdmits Changes Makes old k (Err refused) new → UpdatesFrom Changes Makes old k (Err r) new
  untold_from Changes Makes old k refused r cause held new h =
      (refused.weight, subst (λ (x : RefusedUpdate T). UpdatesOrAdmits Changes Makes old k (Err x) new) (sym (told_again refused r cause held)) h)
