-- A list of rows, data forgotten: each edit and each look is the same there.
use Rattle.std.proofs.Common.{◌≡◌, ℕ, zero, suc, ◌+◌, ◌-◌, not, eqb, cond, Bool, true, false, List, [], ◌∷◌, ◌++◌, length, take, map, Option, Some, None, is_some, refl, sym, ap, ◌∙◌, arith}
use Rattle.std.proofs.lemmas.Bool.{not-false}
use Rattle.std.specs.Prelude.{slice_get, option_map}
use Rattle.std.specs.Option.{option_map_or}
use Rattle.lru_shard.specs.Row.{Row, row, row_of, is_held, weight_of, without, with_first, with_last, with_weight, with_value, last_row, without_last}
use Rattle.lru_shard.specs.Shard.{Size, size_of}
use Rattle.lru_shard.specs.Unit.{weight_at, tailed, accessed, needs_promote}
use Rattle.lru_shard.specs.ShardCalls.{promoted_past}
use Rattle.lru_shard.proofs.Rows.{weight-cons}
use Rattle.lru_recording.specs.Plain.{Plain, plain, forget}

-- a function of the two branches is the branches' function
cond_of : {A B : Type 0} (f : A → B) (b : Bool) (x y : A) → cond b (f x) (f y) ≡ f (cond b x y)
cond_of f true x y = refl
cond_of f false x y = refl

module _ {T : Type 0} where
  pub length-forget : (rows : List (Row T)) → length (forget rows) ≡ length rows
  length-forget [] = refl
  length-forget (r ∷ rows) = ap suc (length-forget rows)

  pub weight-forget : (rows : List (Row T)) → weight_of (forget rows) ≡ weight_of rows
  weight-forget [] = refl
  weight-forget (r ∷ rows) = weight-cons (plain r) (forget rows) ∙ ap (λ w. r.weight + w) (weight-forget rows) ∙ sym (weight-cons r rows)

  pub size-forget : (rows : List (Row T)) → size_of (forget rows) ≡ size_of rows
  size-forget rows i = record { len = length-forget rows i; weight = weight-forget rows i }

  pub row_of-forget : (rows : List (Row T)) (k : ℕ) → row_of (forget rows) k ≡ option_map plain (row_of rows k)
  row_of-forget [] k = refl
  row_of-forget (r ∷ rows) k = ap (cond (eqb r.key k) (Some (plain r))) (row_of-forget rows k) ∙ cond_of (option_map plain) (eqb r.key k) (Some r) (row_of rows k)

  held_map : (o : Option (Row T)) → is_some (option_map plain o) ≡ is_some o
  held_map None = refl
  held_map (Some r) = refl

  pub is_held-forget : (rows : List (Row T)) (k : ℕ) → is_held (forget rows) k ≡ is_held rows k
  is_held-forget rows k = ap is_some (row_of-forget rows k) ∙ held_map (row_of rows k)

  pub without-forget : (rows : List (Row T)) (k : ℕ) → without (forget rows) k ≡ forget (without rows k)
  without-forget [] k = refl
  without-forget (r ∷ rows) k = (λ i. cond (not (eqb r.key k)) (plain r ∷ without-forget rows k i) (without-forget rows k i)) ∙ cond_of forget (not (eqb r.key k)) (r ∷ without rows k) (without rows k)

  pub first-forget : (rows : List (Row T)) (r : Row T) → with_first (forget rows) (plain r) ≡ forget (with_first rows r)
  first-forget rows r = ap (λ l. plain r ∷ l) (without-forget rows r.key)

  last-forget : (rows : List (Row T)) (r : Row T) → with_last (forget rows) (plain r) ≡ forget (with_last rows r)
  last-forget [] r = refl
  last-forget (x ∷ rows) r = ap (λ l. plain x ∷ l) (last-forget rows r)

  pub tailed-forget : (rows : List (Row T)) (k : ℕ) (d : T) (w : ℕ) → tailed (forget rows) k tt w ≡ forget (tailed rows k d w)
  tailed-forget rows k d w = (λ i. cond (is_held-forget rows k i) (forget rows) (last-forget rows (row k d w) i)) ∙ cond_of forget (is_held rows k) rows (with_last rows (row k d w))

  pub with_weight-forget : (rows : List (Row T)) (k w : ℕ) → with_weight (forget rows) k w ≡ forget (with_weight rows k w)
  with_weight-forget [] k w = refl
  with_weight-forget (r ∷ rows) k w = λ i. cond_of plain (eqb r.key k) (row r.key r.value w) r i ∷ with_weight-forget rows k w i

  weight_map : (o : Option (Row T)) → option_map_or (λ (r : Plain). r.weight) (option_map plain o) 0 ≡ option_map_or (λ (r : Row T). r.weight) o 0
  weight_map None = refl
  weight_map (Some r) = refl

  pub weight_at-forget : (rows : List (Row T)) (k : ℕ) → weight_at (forget rows) k ≡ weight_at rows k
  weight_at-forget rows k = ap (λ o. option_map_or (λ (r : Plain). r.weight) o 0) (row_of-forget rows k) ∙ weight_map (row_of rows k)

  accessed_map : (rows : List (Row T)) (o : Option (Row T)) → option_map_or (λ (r : Plain). with_first (forget rows) r) (option_map plain o) (forget rows) ≡ forget (option_map_or (λ (r : Row T). with_first rows r) o rows)
  accessed_map rows None = refl
  accessed_map rows (Some r) = first-forget rows r

  pub accessed-forget : (rows : List (Row T)) (k : ℕ) → accessed (forget rows) k ≡ forget (accessed rows k)
  accessed-forget rows k = ap (λ o. option_map_or (λ (r : Plain). with_first (forget rows) r) o (forget rows)) (row_of-forget rows k) ∙ accessed_map rows (row_of rows k)

  take-forget : (n : ℕ) (rows : List (Row T)) → take n (forget rows) ≡ forget (take n rows)
  take-forget zero rows = refl
  take-forget (suc n) [] = refl
  take-forget (suc n) (r ∷ rows) = ap (λ l. plain r ∷ l) (take-forget n rows)

  pub needs_promote-forget : (rows : List (Row T)) (k top : ℕ) → needs_promote (forget rows) k top ≡ needs_promote rows k top
  needs_promote-forget rows k top = ap not (ap (λ l. is_held l k) (take-forget top rows) ∙ is_held-forget (take top rows) k)

  pub promoted-forget : (rows : List (Row T)) (k top : ℕ) → promoted_past (forget rows) k top ≡ forget (promoted_past rows k top)
  promoted-forget rows k top = (λ i. cond (needs_promote-forget rows k top i) (accessed-forget rows k i) (forget rows)) ∙ cond_of forget (needs_promote rows k top) (accessed rows k) rows

  get-forget : (rows : List (Row T)) (n : ℕ) → slice_get (forget rows) n ≡ option_map plain (slice_get rows n)
  get-forget [] n = refl
  get-forget (r ∷ rows) zero = refl
  get-forget (r ∷ rows) (suc n) = get-forget rows n

  pub last_row-forget : (rows : List (Row T)) → last_row (forget rows) ≡ option_map plain (last_row rows)
  last_row-forget rows = ap (λ n. slice_get (forget rows) (n - 1)) (length-forget rows) ∙ get-forget rows (length rows - 1)

  pub without_last-forget : (rows : List (Row T)) → without_last (forget rows) ≡ forget (without_last rows)
  without_last-forget rows = ap (λ n. take (n - 1) (forget rows)) (length-forget rows) ∙ take-forget (length rows - 1) rows

  value_apart : (b : Bool) (r : Row T) (d : T) → plain (cond b (row r.key d r.weight) r) ≡ plain r
  value_apart true r d = refl
  value_apart false r d = refl

  pub forget-with_value : (rows : List (Row T)) (k : ℕ) (d : T) → forget (with_value rows k d) ≡ forget rows
  forget-with_value [] k d = refl
  forget-with_value (r ∷ rows) k d = λ i. value_apart (eqb r.key k) r d i ∷ forget-with_value rows k d i

  -- a key among the first rows is held
  pub held_front : (n : ℕ) (rows : List (Row T)) (k : ℕ) → is_held (take n rows) k ≡ true → is_held rows k ≡ true
  held_front zero rows k h = absurd (cc)
  held_front (suc n) [] k h = absurd (cc)
  held_front (suc n) (r ∷ rows) k h = by_first (eqb r.key k) (row_of (take n rows) k) (row_of rows k) (held_front n rows k) h
    where
      by_first : (b : Bool) (o p : Option (Row T)) → (is_some o ≡ true → is_some p ≡ true) → is_some (cond b (Some r) o) ≡ true → is_some (cond b (Some r) p) ≡ true
      by_first true o p on h = refl
      by_first false o p on h = on h

  pub near_front : (rows : List (Row T)) (k top : ℕ) → needs_promote rows k top ≡ false → is_held rows k ≡ true
  near_front rows k top h = held_front top rows k (not-false (is_held (take top rows) k) h)
