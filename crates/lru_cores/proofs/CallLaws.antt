-- Laws of calls with closures, and of runs of calls.
use Rattle.std.proofs.Common.{ℕ, List, [], ◌∷◌, ◌++◌, Some, None, Ok, Err, refl, subst, Bool, suc, arith}
use Rattle.std.specs.Prelude.{Option, Result, All}
use Rattle.lru_shard.specs.declared.unit.Refused.{Refused}
use Rattle.lru_shard.specs.declared.unit.RefusedUpdate.{RefusedUpdate}
use Rattle.lru_shard.specs.declared.unit.Cause.{Cause}
use Rattle.lru_shard.specs.declared.unit.Cause.TheVariants.{Memory, Weight, Length}
use Rattle.lru_cores.specs.declared.calls.Call.{Call}
use Rattle.lru_cores.specs.declared.calls.Reply.{Reply}
use Rattle.lru_shard.specs.Row.{Row, row_of}
use Rattle.lru_shard.specs.Shard.{Shard}
use Rattle.lru_shard.specs.Unit.{AdmitsMade, IncrementsRow, RefusesNew, AdmitsGiven, UpdatesRow}
use Rattle.lru_shard.specs.ShardCalls.{IncrementsTo, told, UpdatesFrom}
use Rattle.rand_core.specs.Stream.{Stream}
use Rattle.lru_cores.specs.Core.{Core, ActsOn}
use Rattle.lru_cores.specs.CoreCalls.{CoreIncrements, CoreUpdates}
use Rattle.lru_cores.specs.Calls.{Gives, Run}

pub all_first : {X : Type 0} (P : X → Type 0) (x : X) (xs : List X) → All P (x ∷ xs) → P x
all_first P x xs h = h 0 x (omega arith)

pub all_rest : {X : Type 0} (P : X → Type 0) (x : X) (xs : List X) → All P (x ∷ xs) → All P xs
all_rest P x xs h k d lt = h (suc k) d (omega arith)

module _ {T : Type 0} where
  acts_more : (P Q : Shard T → Shard T → Type 0) → ((a b : Shard T) → P a b → Q a b) → (old : Core T) (s : ℕ) (new : Core T) → ActsOn old s new P → ActsOn old s new Q
  acts_more P Q more old s new h = record { rows = h.rows; acts = more _ _ h.acts; left = h.left }

  module _ (P Q : T → Type 0) (more : (made : T) → P made → Q made) where
    made_more : (a : Shard T) (k w : ℕ) (answer : Result (Unit {0}) Cause) (b : Shard T) → AdmitsMade P a k w answer b → AdmitsMade Q a k w answer b
    made_more a k w (Ok x) b h = (h.0, (more h.0 h.1.0, h.1.1))
    made_more a k w (Err cause) b h = h

    row_more : (a : Shard T) (k delta : ℕ) (most : Option ℕ) (o : Option (Row T)) (answer : Result (ℕ × ℕ × Bool) Cause) (b : Shard T) → IncrementsRow P a k delta most o answer b → IncrementsRow Q a k delta most o answer b
    row_more a k delta most (Some r) (Ok answer) b h = h
    row_more a k delta most (Some r) (Err cause) b h = h
    row_more a k delta most None (Ok answer) b h = (h.0, made_more a k _ (Ok tt) b h.1)
    row_more a k delta most None (Err cause) b h = made_more a k _ (Err cause) b h

    to_more : (a : Shard T) (k delta : ℕ) (most : Option ℕ) (answer : Result ℕ Cause) (b : Shard T) → IncrementsTo P a k delta most answer b → IncrementsTo Q a k delta most answer b
    to_more a k delta most (Ok w) b h = (h.0, (h.1.0, row_more a k delta most (row_of a.rows k) (Ok (h.0, w, h.1.0)) b h.1.1))
    to_more a k delta most (Err cause) b h = row_more a k delta most (row_of a.rows k) (Err cause) b h

    -- `increment_weight` with what is known of its closure
    pub increments_more : (old : Core T) (k delta : ℕ) (most : Option ℕ) (answer : Result ℕ Cause) (new : Core T) → CoreIncrements P old k delta most answer new → CoreIncrements Q old k delta most answer new
    increments_more old k delta most answer new h = acts_more _ _ (λ a b. to_more a k delta most answer b) old _ new h

  module _ (C D : T → ℕ → ℕ → T → Type 0) (P Q : T × ℕ → Type 0) (changes : (old : T) (weight given : ℕ) (new : T) → C old weight given new → D old weight given new) (more : (made : T × ℕ) → P made → Q made) where
    refused_more : (a : Shard T) (cause : Cause) (w : ℕ) (held : Option (T × ℕ)) → RefusesNew P a cause w held → RefusesNew Q a cause w held
    refused_more a Length w held h = h
    refused_more a Memory w held h = h
    refused_more a Weight w held h = (h.0, (more h.0 h.1.0, h.1.1))

    given_more : (a : Shard T) (k : ℕ) (answer : Result (Option ℕ × ℕ) (RefusedUpdate T)) (b : Shard T) → AdmitsGiven P a k answer b → AdmitsGiven Q a k answer b
    given_more a k (Ok answer) b h = (h.0, (more h.0 h.1.0, h.1.1))
    given_more a k (Err refused) b h = (refused_more a refused.cause refused.weight refused.held h.0, h.1)

    updated_more : (a : Shard T) (k : ℕ) (o : Option (Row T)) (answer : Result (Option ℕ × ℕ) (RefusedUpdate T)) (b : Shard T) → UpdatesRow C P a k o answer b → UpdatesRow D Q a k o answer b
    updated_more a k (Some r) (Ok answer) b h = (h.0, (h.1.0, (changes r.value r.weight h.1.0 h.0 h.1.1.0, h.1.1.1)))
    updated_more a k (Some r) (Err refused) b h = (h.0, (h.1.0, (changes r.value r.weight h.1.0 h.0 h.1.1.0, h.1.1.1)))
    updated_more a k None answer b h = given_more a k answer b h

    from_more : (a : Shard T) (k : ℕ) (answer : Result (Option ℕ) (Refused (Option (T × ℕ)))) (b : Shard T) → UpdatesFrom C P a k answer b → UpdatesFrom D Q a k answer b
    from_more a k (Ok was) b h = (h.0, updated_more a k (row_of a.rows k) (Ok (was, h.0)) b h.1)
    from_more a k (Err refused) b h = (h.0, updated_more a k (row_of a.rows k) (Err (told refused h.0)) b h.1)

    -- `update_or_admit` with what is known of its closures
    pub updates_more : (old : Core T) (k : ℕ) (answer : Result (Option ℕ) (Refused (Option (T × ℕ)))) (new : Core T) → CoreUpdates C P old k answer new → CoreUpdates D Q old k answer new
    updates_more old k answer new h = acts_more _ _ (λ a b. from_more a k answer b) old _ new h

  -- a run goes on by one call
  pub run_on : (old : Core T) (words : Stream) (calls : List (Call T)) (replies : List (Reply T)) (mid : Core T) (left : Stream) (call : Call T) (reply : Reply T) (new : Core T) (rest : Stream) → Run old words calls replies mid left → Gives mid left call reply new rest →
      Run old words (calls ++ call ∷ []) (replies ++ reply ∷ []) new rest
  run_on old words [] [] mid left call reply new rest run gives =
      (new, (rest, (subst (λ (z : Core T). Gives z words call reply new rest) run.0 (subst (λ (z : Stream). Gives mid z call reply new rest) run.1 gives), (refl, refl))))
  run_on old words [] (r ∷ rs) mid left call reply new rest run gives = absurd run
  run_on old words (c ∷ cs) [] mid left call reply new rest run gives = absurd run
  run_on old words (c ∷ cs) (r ∷ rs) mid left call reply new rest run gives =
      (run.0, (run.1.0, (run.1.1.0, run_on run.0 run.1.0 cs rs mid left call reply new rest run.1.1.1 gives)))
