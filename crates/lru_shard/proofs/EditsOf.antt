-- What a call of a shard does not do: it changes no cap, and brings in no key but its own.
use Rattle.std.proofs.Common.{◌≡◌, ℕ, ◌-◌, ◌<◌, Bool, cond, eqb, List, [], ◌∷◌, length, Some, None, Ok, Err, refl, sym, ap, ◌∙◌, arith, subst, ◌⊎◌, inl, inr}
use Rattle.std.specs.Prelude.{Option, Result, max}
use Rattle.std.specs.Option.{option_map_or}
use Rattle.std.proofs.lemmas.Bool.{cases_eq, cond_both}
use Rattle.std.proofs.lemmas.List.Sums.{sum_by-take-le}
use Rattle.lru_shard.specs.declared.unit.Refused.{Refused}
use Rattle.lru_shard.specs.declared.unit.RefusedUpdate.{RefusedUpdate}
use Rattle.lru_shard.specs.declared.unit.Cause.{Cause}
use Rattle.lru_shard.specs.Row.{Row, row, row_of, is_held, times, with_first, with_last, without, without_last, with_weight, with_value, weight_of}
use Rattle.lru_shard.specs.Shard.{Shard, shard, IsShard}
use Rattle.lru_shard.specs.Unit.{Admits, InsertsTail, SetsWeight, PullsRow, Pulls, IncrementsRow, IncrementsWeight, UpdatesRow, UpdatesOrAdmits, accessed, tailed, raised, started}
use Rattle.lru_shard.proofs.Rows.{times-append, times_no, times-without_other}
use Rattle.lru_shard.proofs.Edits.{times-with_weight, times-with_value, times-without-le, at_row, accessed_at, weight-first, length-first}
use Rattle.lru_shard.proofs.Rows.{distinct-first}
use Rattle.lru_shard.proofs.Pulls.{row_key}
use Rattle.std.proofs.lemmas.Bool.{ne_eqb}

module _ {T : Type 0} where
  -- y is x after a call on this key
  pub record Edit (key : ℕ) (x y : Shard T) : Type 0 where
    pub caps : y.cap ≡ x.cap
    pub fresh : (k : ℕ) → 0 < times k y.rows → (0 < times k x.rows) ⊎ (k ≡ key)

  same_edit : (key : ℕ) (x y : Shard T) → y ≡ x → Edit key x y
  same_edit key x y e = record { caps = ap (λ (s : Shard T). s.cap) e; fresh = λ k h. inl (omega (arith, h, ap (λ (s : Shard T). times k s.rows) e)) }

  to_rows : (key : ℕ) (x y : Shard T) (rows : List (Row T)) → ((k : ℕ) → 0 < times k rows → (0 < times k x.rows) ⊎ (k ≡ key)) → y ≡ shard rows x.cap → Edit key x y
  to_rows key x y rows h e = record { caps = ap (λ (s : Shard T). s.cap) e; fresh = λ k lt. h k (omega (arith, lt, ap (λ (s : Shard T). times k s.rows) e)) }

  fresh_first : (rows : List (Row T)) (r : Row T) (k : ℕ) → 0 < times k (with_first rows r) → (0 < times k rows) ⊎ (k ≡ r.key)
  fresh_first rows r k h =
      elim (cases_eq k r.key) [
        | inl e ↦ inr e
        | inr ne ↦ inl (omega (arith, h, times_no k r (without rows r.key) (ne_eqb r.key k (λ e. ne (sym e))), times-without_other k r.key rows ne))
      ]

  fresh_last : (rows : List (Row T)) (r : Row T) (k : ℕ) → 0 < times k (with_last rows r) → (0 < times k rows) ⊎ (k ≡ r.key)
  fresh_last rows r k h =
      elim (cases_eq k r.key) [
        | inl e ↦ inr e
        | inr ne ↦ inl (omega (arith, h, times-append k rows (r ∷ []), times_no k r [] (ne_eqb r.key k (λ e. ne (sym e)))))
      ]

  put_first : (key : ℕ) (x y : Shard T) (r : Row T) → r.key ≡ key → y ≡ shard (with_first x.rows r) x.cap → Edit key x y
  put_first key x y r same e = to_rows key x y (with_first x.rows r) (λ k h. elim (fresh_first x.rows r k h) [ inl old ↦ inl old | inr new ↦ inr (new ∙ same) ]) e

  fresh_tailed : (rows : List (Row T)) (key : ℕ) (d : T) (w k : ℕ) → 0 < times k (tailed rows key d w) → (0 < times k rows) ⊎ (k ≡ key)
  fresh_tailed rows key d w k =
      cond_both (is_held rows key) rows (with_last rows (row key d w)) (λ rs. 0 < times k rs → (0 < times k rows) ⊎ (k ≡ key)) (λ _ h. inl h) (λ _ h. fresh_last rows (row key d w) k h)

  pub edits_admit : (a : Shard T) (k : ℕ) (d : T) (w : ℕ) (answer : Result ℕ (Refused T)) (b : Shard T) → Admits a k d w answer b → Edit k a b
  edits_admit a k d w (Ok was) b h = to_rows k a b (with_first a.rows (row k d w)) (fresh_first a.rows (row k d w)) h.1.left
  edits_admit a k d w (Err r) b h = same_edit k a b h.declines.left

  pub edits_tail : (a : Shard T) (k : ℕ) (d : T) (w : ℕ) (answer : Result Bool (Refused T)) (b : Shard T) → InsertsTail a k d w answer b → Edit k a b
  edits_tail a k d w (Ok added) b h = to_rows k a b (tailed a.rows k d w) (fresh_tailed a.rows k d w) h.1.left
  edits_tail a k d w (Err r) b h = same_edit k a b h.declines.left

  pub edits_set : (a : Shard T) (k w : ℕ) (answer : Result (Option ℕ) Cause) (b : Shard T) → SetsWeight a k w answer b → Edit k a b
  edits_set a k w (Ok was) b h = to_rows k a b (with_weight a.rows k w) (λ j lt. inl (omega (arith, lt, times-with_weight a.rows k w j))) h.1.left
  edits_set a k w (Err cause) b h = same_edit k a b h.left

  edits_row : (Makes : T → Type 0) (a : Shard T) (k delta : ℕ) (most : Option ℕ) (o : Option (Row T)) (answer : Result (ℕ × ℕ × Bool) Cause) (b : Shard T) → IncrementsRow Makes a k delta most o answer b → Edit k a b
  edits_row Makes a k delta most (Some r) (Ok answer) b h = put_first k a b (row k r.value (raised r.weight delta most)) refl h.1.left
  edits_row Makes a k delta most (Some r) (Err cause) b h = same_edit k a b h.left
  edits_row Makes a k delta most None (Ok answer) b h = put_first k a b (row k h.1.0 (started delta most)) refl h.1.1.1.left
  edits_row Makes a k delta most None (Err cause) b h = same_edit k a b h.1

  pub edits_increment : (Makes : T → Type 0) (a : Shard T) (k delta : ℕ) (most : Option ℕ) (answer : Result (ℕ × ℕ × Bool) Cause) (b : Shard T) → IncrementsWeight Makes a k delta most answer b → Edit k a b
  edits_increment Makes a k delta most answer b h = edits_row Makes a k delta most (row_of a.rows k) answer b h

  edits_updated : (Changes : T → ℕ → ℕ → T → Type 0) (Makes : T × ℕ → Type 0) (a : Shard T) (k : ℕ) (o : Option (Row T)) (answer : Result (Option ℕ × ℕ) (RefusedUpdate T)) (b : Shard T) → UpdatesRow Changes Makes a k o answer b → Edit k a b
  edits_updated Changes Makes a k (Some r) (Ok answer) b h = put_first k a b (row k h.0 (max h.1.0 1)) refl h.1.1.1.1.left
  edits_updated Changes Makes a k (Some r) (Err refused) b h = to_rows k a b (with_value a.rows k h.0) (λ j lt. inl (omega (arith, lt, times-with_value a.rows k h.0 j))) h.1.1.1.1.1
  edits_updated Changes Makes a k None (Ok answer) b h = put_first k a b (row k h.0.0 (max h.0.1 1)) refl h.1.1.1.left
  edits_updated Changes Makes a k None (Err refused) b h = same_edit k a b h.1

  pub edits_update : (Changes : T → ℕ → ℕ → T → Type 0) (Makes : T × ℕ → Type 0) (a : Shard T) (k : ℕ) (answer : Result (Option ℕ × ℕ) (RefusedUpdate T)) (b : Shard T) → UpdatesOrAdmits Changes Makes a k answer b → Edit k a b
  edits_update Changes Makes a k answer b h = edits_updated Changes Makes a k (row_of a.rows k) answer b h

  pub edits_remove : (a : Shard T) (k : ℕ) (b : Shard T) → b ≡ shard (without a.rows k) a.cap → Edit k a b
  edits_remove a k b e = to_rows k a b (without a.rows k) (λ j lt. inl (omega (arith, lt, times-without-le j k a.rows))) e

  pub edits_evict : (a : Shard T) (b : Shard T) (key : ℕ) → b ≡ shard (without_last a.rows) a.cap → Edit key a b
  edits_evict a b key e = to_rows key a b (without_last a.rows) (λ j lt. inl (omega (arith, lt, sum_by-take-le (λ (r : Row T). cond (eqb r.key j) 1 0) a.rows (length a.rows - 1)))) e

  pulled_row : (old from : Shard T) (k : ℕ) (o : Option (Row T)) → row_of from.rows k ≡ o → (answer : Result (Option ℕ) Cause) (new left : Shard T) → PullsRow old from k o answer new left → Edit k old new × Edit k from left
  pulled_row old from k (Some r) is (Ok answer) new left h = (put_first k old new r (row_key from.rows k r is) h.1.0.left, edits_remove from k left h.1.1)
  pulled_row old from k (Some r) is (Err cause) new left h = (same_edit k old new h.0.left, same_edit k from left h.1)
  pulled_row old from k None is (Ok answer) new left h = (same_edit k old new h.1.0, same_edit k from left h.1.1)
  pulled_row old from k None is (Err cause) new left h = absurd h

  -- a pull is a call on its key in both shards
  pub edits_pull : (old from : Shard T) (k : ℕ) (answer : Result (Option ℕ) Cause) (new left : Shard T) → Pulls old from k answer new left → Edit k old new × Edit k from left
  edits_pull old from k answer new left h = pulled_row old from k (row_of from.rows k) refl answer new left h

  -- an access is an edit that leaves weight and length
  pub record Accessed (k : ℕ) (a b : Shard T) : Type 0 where
    pub edit : Edit k a b
    pub valid : IsShard b
    pub same_weight : weight_of b.rows ≡ weight_of a.rows
    pub same_length : length b.rows ≡ length a.rows

  accessed_row : (a : Shard T) (k : ℕ) (b : Shard T) → IsShard a → b ≡ shard (accessed a.rows k) a.cap → (o : Option (Row T)) → row_of a.rows k ≡ o → Accessed k a b
  accessed_row a k b valid e None none =
      let same : b ≡ a = e ∙ ap (λ rs. shard rs a.cap) (ap (λ o. option_map_or (λ (r : Row T). with_first a.rows r) o a.rows) none) in
      record { edit = same_edit k a b same; valid = subst IsShard (sym same) valid; same_weight = ap (λ (s : Shard T). weight_of s.rows) same; same_length = ap (λ (s : Shard T). length s.rows) same }
  accessed_row a k b valid e (Some r) found =
      let at = at_row a.rows k r valid.keys found in
      let rows : accessed a.rows k ≡ with_first a.rows (row k r.value r.weight) = accessed_at a.rows k r found ∙ ap (λ j. row j r.value r.weight ∷ without a.rows j) at.same_key in
      let new : b ≡ shard (with_first a.rows (row k r.value r.weight)) a.cap = e ∙ ap (λ rs. shard rs a.cap) rows in
      let w = weight-first a.rows k r at r.value r.weight in
      let l = length-first a.rows k r at r.value r.weight in
      record {
        edit = to_rows k a b (with_first a.rows (row k r.value r.weight)) (fresh_first a.rows (row k r.value r.weight)) new;
        valid = subst IsShard (sym new) (record { keys = distinct-first a.rows (row k r.value r.weight) valid.keys; light = omega (arith, w, valid.light); short = omega (arith, l, valid.short) });
        same_weight = ap (λ (s : Shard T). weight_of s.rows) new ∙ omega (arith, w);
        same_length = ap (λ (s : Shard T). length s.rows) new ∙ l;
      }

  pub edits_access : (a : Shard T) (k : ℕ) (b : Shard T) → IsShard a → b ≡ shard (accessed a.rows k) a.cap → Accessed k a b
  edits_access a k b valid e = accessed_row a k b valid e (row_of a.rows k) refl
