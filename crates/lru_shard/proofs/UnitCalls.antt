-- What the calls of a unit may answer: on a key that is there, and on one that is not.
use Rattle.std.proofs.Common.{◌≡◌, ℕ, ◌+◌, ◌<◌, ◌≤◌, true, false, cond, eqb, List, [], ◌∷◌, Some, None, Ok, Err, refl, sym, ap, ◌∙◌, subst, inl, inr}
use Rattle.std.specs.Prelude.{Option, Result, is_some, max}
use Rattle.std.proofs.lemmas.Bool.{cond-true, cond-false, cases_Bool, cond_both, leb-false}
use Rattle.lru_shard.specs.declared.unit.Cause.{Cause}
use Rattle.lru_shard.specs.declared.unit.Cause.TheVariants.{Memory, Weight, Length}
use Rattle.lru_shard.specs.declared.unit.RefusedUpdate.{RefusedUpdate}
use Rattle.lru_shard.specs.Row.{Row, row, row_of, times, with_first, with_last, with_value}
use Rattle.lru_shard.specs.Shard.{Shard, shard, Size, size_of, and_row, most_rows, is_full, refusal, MayRefuse, Accepts}
use Rattle.lru_shard.specs.Unit.{tailed, weight_at, raised, started, AdmitsMade, IncrementsRow, IncrementsWeight, AdmitsGiven, RefusesNew, UpdatesRow, UpdatesOrAdmits}
use Rattle.lru_shard.proofs.Refusals.{refusal_none, refusal_weight}
use Rattle.lru_shard.proofs.Edits.{tailed-new, weight_at-absent, size-first_new, size-last}
use Rattle.lru_shard.proofs.Rows.{times_no}

-- no refusal but want of memory is answered by what is asked of the sizes
pub may_refuse : (cap : ℕ) (old new : Size) (cause : Cause) → refusal cap old new ≡ Some cause → MayRefuse cap old new cause
may_refuse cap old new Weight h = h
may_refuse cap old new Length h = h
may_refuse cap old new Memory h =
    absurd (cond_both _ (Some Length) (cond _ (Some Weight) None) (λ o. o ≡ Some Memory → ⊥) (λ _ e. let x : Some Length ≡ Some Memory = e in cc)
    (λ _. cond_both _ (Some Weight) None (λ o. o ≡ Some Memory → ⊥) (λ _ e. let x : Some Weight ≡ Some Memory = e in cc) (λ _ e. let x : None ≡ Some Memory = e in cc)) h)

module _ {T : Type 0} where
  pub tailed_same : (rows : List (Row T)) (k : ℕ) (r : Row T) → row_of rows k ≡ Some r → (d : T) (w : ℕ) → tailed rows k d w ≡ rows
  tailed_same rows k r h d w = ap (λ o. cond (is_some o) rows (with_last rows (row k d w))) h

  -- a key without a row stands nowhere
  pub times_none : (rows : List (Row T)) (k : ℕ) → row_of rows k ≡ None → times k rows ≡ 0
  times_none [] k h = refl
  times_none (r ∷ rows) k h =
      elim (cases_Bool (eqb r.key k)) [
        | inl e ↦ let bad : Some r ≡ None = sym (cond-true (eqb r.key k) (Some r) (row_of rows k) e) ∙ h in cc
        | inr e ↦ times_no k r rows e ∙ times_none rows k (sym (cond-false (eqb r.key k) (Some r) (row_of rows k) e) ∙ h)
      ]

  module _ (rows : List (Row T)) (k : ℕ) (none : row_of rows k ≡ None) (cap : ℕ) (d : T) (w : ℕ) where
    pub to_first : (cause : Cause) → MayRefuse cap (size_of rows) (and_row (size_of rows) w) cause → MayRefuse cap (size_of rows) (size_of (with_first rows (row k d w))) cause
    to_first cause = subst (λ s. MayRefuse cap (size_of rows) s cause) (sym (size-first_new rows k (times_none rows k none) d w))

    pub to_last : (cause : Cause) → MayRefuse cap (size_of rows) (and_row (size_of rows) w) cause → MayRefuse cap (size_of rows) (size_of (tailed rows k d w)) cause
    to_last cause = subst (λ s. MayRefuse cap (size_of rows) s cause)
        (sym (ap size_of (tailed-new rows k (times_none rows k none) d w) ∙ size-last rows k (times_none rows k none) d w))

    pub tailed_is : tailed rows k d w ≡ with_last rows (row k d w)
    tailed_is = tailed-new rows k (times_none rows k none) d w

    pub no_weight : 0 ≡ weight_at rows k
    no_weight = sym (weight_at-absent rows k (times_none rows k none))

  -- the relations of the calls that take closures, from what the code knows
  module _ (Makes : T → Type 0) (s s' : Shard T) (k delta : ℕ) (most : Option ℕ) (same : s ≡ s') (none : row_of s'.rows k ≡ None) (w : ℕ) (w_is : w ≡ started delta most) (new : Shard T) where
    pub increments_new : AdmitsMade Makes s k w (Ok tt) new → IncrementsWeight Makes s' k delta most (Ok (0, w, true)) new
    increments_new h = subst (λ o. IncrementsRow Makes s' k delta most o (Ok (0, w, true)) new) (sym none)
        ((refl, (w_is, refl)), subst (λ z. AdmitsMade Makes z k (started delta most) (Ok tt) new) same (subst (λ v. AdmitsMade Makes s k v (Ok tt) new) w_is h))

    pub increments_no : (cause : Cause) → AdmitsMade Makes s k w (Err cause) new → IncrementsWeight Makes s' k delta most (Err cause) new
    increments_no cause h = subst (λ o. IncrementsRow Makes s' k delta most o (Err cause) new) (sym none)
        (subst (λ z. AdmitsMade Makes z k (started delta most) (Err cause) new) same (subst (λ v. AdmitsMade Makes s k v (Err cause) new) w_is h))

  module _ (Makes : T → Type 0) (s : Shard T) (k delta : ℕ) (most : Option ℕ) (r : Row T) (there_row : row_of s.rows k ≡ Some r) (w : ℕ) (w_is : w ≡ raised r.weight delta most) (new : Shard T) where
    pub increments : Accepts s new (with_first s.rows (row k r.value w)) → IncrementsWeight Makes s k delta most (Ok (r.weight, w, false)) new
    increments h = subst (λ o. IncrementsRow Makes s k delta most o (Ok (r.weight, w, false)) new) (sym there_row)
        ((refl, (w_is, refl)), subst (λ v. Accepts s new (with_first s.rows (row k r.value v))) w_is h)

    pub increments_heavy : refusal s.cap (size_of s.rows) (size_of (with_first s.rows (row k r.value w))) ≡ Some Weight → new ≡ s → IncrementsWeight Makes s k delta most (Err Weight) new
    increments_heavy h left = subst (λ o. IncrementsRow Makes s k delta most o (Err Weight) new) (sym there_row)
        (record { may = ap (λ v. refusal s.cap (size_of s.rows) (size_of (with_first s.rows (row k r.value v)))) (sym w_is) ∙ h; left = left })

  module _ (Changes : T → ℕ → ℕ → T → Type 0) (Makes : T × ℕ → Type 0) (s : Shard T) (k : ℕ) (r : Row T) (there_row : row_of s.rows k ≡ Some r) (d : T) (given : ℕ) (changes : Changes r.value r.weight given d) (new : Shard T) where
    pub updates : (w : ℕ) → w ≡ max given 1 → Accepts s new (with_first s.rows (row k d w)) → UpdatesOrAdmits Changes Makes s k (Ok (Some r.weight, w)) new
    updates w w_is h = subst (λ o. UpdatesRow Changes Makes s k o (Ok (Some r.weight, w)) new) (sym there_row)
        (d, (given, (changes, ((refl, w_is), subst (λ v. Accepts s new (with_first s.rows (row k d v))) w_is h))))

    pub updates_heavy : (refused : RefusedUpdate T) → refused.cause ≡ Weight → (w : ℕ) → refused.weight ≡ w → refused.held ≡ None → w ≡ max given 1 →
        refusal s.cap (size_of s.rows) (size_of (with_first s.rows (row k d w))) ≡ Some Weight → new ≡ shard (with_value s.rows k d) s.cap → UpdatesOrAdmits Changes Makes s k (Err refused) new
    updates_heavy refused cause w told held w_is h left = subst (λ o. UpdatesRow Changes Makes s k o (Err refused) new) (sym there_row) (
      d,
      (
        given,
        (
          changes,
          (
            subst (MayRefuse s.cap (size_of s.rows) (size_of (with_first s.rows (row k d (max given 1))))) (sym cause)
                (ap (λ v. refusal s.cap (size_of s.rows) (size_of (with_first s.rows (row k d v)))) (sym w_is) ∙ h),
            ((told ∙ w_is, held), left),
          ),
        ),
      ),
    )

  pub updates_new : (Changes : T → ℕ → ℕ → T → Type 0) (Makes : T × ℕ → Type 0) (s s' : Shard T) (k : ℕ) → s ≡ s' → row_of s'.rows k ≡ None → (answer : Result (Option ℕ × ℕ) (RefusedUpdate T)) (new : Shard T) →
      AdmitsGiven Makes s k answer new → UpdatesOrAdmits Changes Makes s' k answer new
  updates_new Changes Makes s s' k same none answer new h = subst (λ o. UpdatesRow Changes Makes s' k o answer new) (sym none) (subst (λ z. AdmitsGiven Makes z k answer new) same h)

  -- a new row whose weight is known only once its data are made
  pub given_heavy : (Makes : T × ℕ → Type 0) (s : Shard T) (cause : Cause) (told : ℕ) (held : Option (T × ℕ)) (made : T × ℕ) → Makes made → cause ≡ Weight → told ≡ max made.1 1 → held ≡ Some made →
      refusal s.cap (size_of s.rows) (and_row (size_of s.rows) (max made.1 1)) ≡ Some Weight → RefusesNew Makes s cause told held
  given_heavy Makes s cause told held made makes is_weight told_is held_is h = subst (λ x. RefusesNew Makes s x told held) (sym is_weight) (made, (makes, ((told_is, held_is), h)))

  pub given_fits : (Makes : T × ℕ → Type 0) (s : Shard T) (k : ℕ) (made : T × ℕ) (w : ℕ) (new : Shard T) → Makes made → w ≡ max made.1 1 → Accepts s new (with_first s.rows (row k made.0 w)) →
      AdmitsGiven Makes s k (Ok (None, w)) new
  given_fits Makes s k made w new makes w_is h = (made, (makes, ((refl, w_is), subst (λ v. Accepts s new (with_first s.rows (row k made.0 v))) w_is h)))

-- a row more, where the shard is not full
pub light_row : (cap : ℕ) (s : Size) (w : ℕ) → is_full cap s ≡ false → s.weight + w ≤ cap → refusal cap s (and_row s w) ≡ None
light_row cap s w room h = refusal_none cap s (and_row s w) (inr (leb-false (most_rows cap) s.len room)) h

pub heavy_row : (cap : ℕ) (s : Size) (w : ℕ) → is_full cap s ≡ false → cap < s.weight + w → refusal cap s (and_row s w) ≡ Some Weight
heavy_row cap s w room h = refusal_weight cap s (and_row s w) (inr (leb-false (most_rows cap) s.len room)) h
