-- Each call of a shard is the plain list's call, data forgotten.
use Rattle.std.proofs.Common.{◌≡◌, ℕ, suc, ◌+◌, ◌≤◌, ◌<◌, ◌%◌, max, not, eqb, cond, Bool, true, false, List, [], ◌∷◌, length, Option, Some, None, refl, sym, ap, ◌∙◌, subst, arith, inl, inr}
use Rattle.std.specs.Prelude.{Result, Ok, Err, option_map}
use Rattle.std.specs.Option.{option_map_or}
use Rattle.lru_shard.specs.declared.unit.Refused.{Refused as Handed}
use Rattle.lru_shard.specs.declared.unit.RefusedUpdate.{RefusedUpdate}
use Rattle.lru_shard.specs.declared.unit.Cause.{Cause}
use Rattle.lru_shard.specs.declared.unit.Cause.TheVariants.{Memory, Weight as Heavy, Length}
use Rattle.lru_shard.specs.Row.{Row, row, row_of, pair_of, is_held, with_first, without, with_weight, last_row, without_last, weight_of}
use Rattle.lru_shard.specs.Shard.{Shard, shard, Size, size_of, and_row, refusal, MayRefuse, most_rows, is_full, IsShard, Accepts, Declines}
use Rattle.lru_shard.specs.Unit.{Admits, InsertsTail, SetsWeight, IncrementsWeight, IncrementsRow, UpdatesOrAdmits, UpdatesRow, RefusesNew, weight_at, tailed, grown, raised, started, accessed}
use Rattle.lru_shard.specs.ShardCalls.{promoted_past}
use Rattle.lru_recording.specs.declared.entry.Call.{Call}
use Rattle.lru_recording.specs.declared.entry.Call.TheVariants.{Admit, InsertTail, IncrementWeight, IncrementWeightUpTo, UpdateOrAdmit, SetWeight, Promote, PromoteTopN, EvictShard, EvictToLimit, Remove, Peek, PeekWeight, PeekLru}
use Rattle.lru_recording.specs.declared.entry.Reply.{Reply}
use Rattle.lru_recording.specs.declared.entry.Reply.TheVariants.{Flag, Weight, Refused}
use Rattle.std.proofs.lemmas.Bool.{cond_both, cases_lt, leb-true}
use Rattle.lru_shard.proofs.Rows.{weight-cons, length-without-le}
use Rattle.lru_shard.proofs.Edits.{at_row, weight-without, weight-first, length-first}
use Rattle.lru_shard.proofs.Refusals.{refusal_none, refusal_weight, refusal_length}
use Rattle.lru_recording.specs.Plain.{Plain, plain, forget, step, found, unless_refused, increment, called}
use Rattle.lru_recording.specs.Histories.{home, IsEviction}
use Rattle.lru_recording.specs.Replies.{refused, weighed, paired, admitted, inserted, new_weight, incremented, increments, set, IsUpdated, IsGiven, IsMade}
use Rattle.lru_recording.proofs.Forgets.{length-forget, weight-forget, size-forget, row_of-forget, is_held-forget, without-forget, first-forget, tailed-forget, with_weight-forget, weight_at-forget, accessed-forget, promoted-forget, last_row-forget, without_last-forget, forget-with_value}
use Rattle.lru_recording.proofs.Noted.{Stands}

-- a call that evicts
evicts : (cap : ℕ) (rows : List Plain) (n s : ℕ) (call : Call) → IsEviction n s call → called cap rows call ≡ step (without_last rows) (found (last_row rows))
evicts cap rows n s (EvictShard x) is = refl
evicts cap rows n s EvictToLimit is = refl
evicts cap rows n s (Admit k w) is = absurd is
evicts cap rows n s (InsertTail k w) is = absurd is
evicts cap rows n s (IncrementWeight k d) is = absurd is
evicts cap rows n s (IncrementWeightUpTo k d m) is = absurd is
evicts cap rows n s (UpdateOrAdmit k w) is = absurd is
evicts cap rows n s (SetWeight k w) is = absurd is
evicts cap rows n s (Promote k) is = absurd is
evicts cap rows n s (PromoteTopN k t) is = absurd is
evicts cap rows n s (Remove k) is = absurd is
evicts cap rows n s (Peek k) is = absurd is
evicts cap rows n s (PeekWeight k) is = absurd is
evicts cap rows n s PeekLru is = absurd is

pub evict_home : (n s : ℕ) (call : Call) → IsEviction n s call → home n s call ≡ s
evict_home n s (EvictShard x) is = is
evict_home n s EvictToLimit is = refl
evict_home n s (Admit k w) is = absurd is
evict_home n s (InsertTail k w) is = absurd is
evict_home n s (IncrementWeight k d) is = absurd is
evict_home n s (IncrementWeightUpTo k d m) is = absurd is
evict_home n s (UpdateOrAdmit k w) is = absurd is
evict_home n s (SetWeight k w) is = absurd is
evict_home n s (Promote k) is = absurd is
evict_home n s (PromoteTopN k t) is = absurd is
evict_home n s (Remove k) is = absurd is
evict_home n s (Peek k) is = absurd is
evict_home n s (PeekWeight k) is = absurd is
evict_home n s PeekLru is = absurd is

-- a row that is missing leaves nothing out
none_of : (b : Bool) (x : Plain) (o : Option Plain) → cond b (Some x) o ≡ None → (b ≡ false) × (o ≡ None)
none_of true x o e = absurd (cc)
none_of false x o e = (refl, e)

without_none : (rows : List Plain) (k : ℕ) → row_of rows k ≡ None → without rows k ≡ rows
without_none [] k e = refl
without_none (r ∷ rows) k e =
    let n = none_of (eqb r.key k) r (row_of rows k) e in
    (λ i. cond (not (n.0 i)) (r ∷ without_none rows k n.1 i) (without_none rows k n.1 i))

-- `increment_weight`
called_increment : (most_weight : ℕ) (rows : List Plain) (k delta : ℕ) (most : Option ℕ) → called most_weight rows (increments k delta most) ≡ increment most_weight rows k delta most
called_increment most_weight rows k delta None = refl
called_increment most_weight rows k delta (Some most) = refl

pub increments_home : (n s k delta : ℕ) (most : Option ℕ) → k % n ≡ s → home n s (increments k delta most) ≡ s
increments_home n s k delta None h = h
increments_home n s k delta (Some most) h = h

-- a list that is no longer is not refused for its length
not_long : (cap : ℕ) (was is : Size) → is.len ≤ was.len → refusal cap was is ≡ Some Length → ⊥
not_long cap was is short h =
    elim (cases_lt cap is.weight) [
      | inl heavy ↦ let e : Some Heavy ≡ Some Length = sym (refusal_weight cap was is (inl short) heavy) ∙ h in cc
      | inr light ↦ let e : None ≡ Some Length = sym (refusal_none cap was is (inl short) light) ∙ h in cc
    ]

module _ {T : Type 0} where
  -- the same refusal, data forgotten
  same_refusal : (cap : ℕ) (rows new : List (Row T)) (plain_new : List Plain) → plain_new ≡ forget new → refusal cap (size_of (forget rows)) (size_of plain_new) ≡ refusal cap (size_of rows) (size_of new)
  same_refusal cap rows new plain_new same = (λ i. refusal cap (size-forget rows i) ((ap size_of same ∙ size-forget new) i))

  -- a list that nothing refuses is left
  pub accepts : (old new : Shard T) (rows : List (Row T)) (plain_rows : List Plain) (reply : Reply) → plain_rows ≡ forget rows → Accepts old new rows → unless_refused old.cap (forget old.rows) plain_rows reply ≡ step (forget new.rows) reply
  accepts old new rows plain_rows reply same a =
      ap (λ o. option_map_or (λ cause. step (forget old.rows) (Refused cause)) o (step plain_rows reply)) (same_refusal old.cap old.rows rows plain_rows same ∙ a.allowed)
      ∙ ap (λ l. step l reply) (same ∙ ap (λ (s : Shard T). forget s.rows) (sym a.left))

  -- a list that something refuses is not left
  heavy_by : (old new : Shard T) (plain_rows : List Plain) (reply : Reply) (size : Size) (cause : Cause) → size_of plain_rows ≡ size → refusal old.cap (size_of old.rows) size ≡ Some cause → forget new.rows ≡ forget old.rows →
      unless_refused old.cap (forget old.rows) plain_rows reply ≡ step (forget new.rows) (Refused cause)
  heavy_by old new plain_rows reply size cause same why left =
      ap (λ o. option_map_or (λ cause. step (forget old.rows) (Refused cause)) o (step plain_rows reply)) ((λ i. refusal old.cap (size-forget old.rows i) (same i)) ∙ why)
      ∙ ap (λ l. step l (Refused cause)) (sym left)

  declines_by : (call : Call) (old new : Shard T) (plain_rows : List Plain) (reply : Reply) (size : Size) (cause : Cause) → called old.cap (forget old.rows) call ≡ unless_refused old.cap (forget old.rows) plain_rows reply → size_of plain_rows ≡ size →
      MayRefuse old.cap (size_of old.rows) size cause → forget new.rows ≡ forget old.rows → Stands old.cap (forget old.rows) call (refused cause) (forget new.rows)
  declines_by call old new plain_rows reply size Memory is same may left = left
  declines_by call old new plain_rows reply size Heavy is same may left = is ∙ heavy_by old new plain_rows reply size Heavy same may left
  declines_by call old new plain_rows reply size Length is same may left = is ∙ heavy_by old new plain_rows reply size Length same may left

  pub declines : (call : Call) (old new : Shard T) (rows : List (Row T)) (plain_rows : List Plain) (reply : Reply) (cause : Cause) → called old.cap (forget old.rows) call ≡ unless_refused old.cap (forget old.rows) plain_rows reply → plain_rows ≡ forget rows →
      Declines old new rows cause → Stands old.cap (forget old.rows) call (refused cause) (forget new.rows)
  declines call old new rows plain_rows reply cause is same d = declines_by call old new plain_rows reply (size_of rows) cause is (ap size_of same ∙ size-forget rows) d.may (ap (λ (s : Shard T). forget s.rows) d.left)

  pub stands_admit : (old new : Shard T) (k : ℕ) (d : T) (w : ℕ) (answer : Result ℕ (Handed T)) → Admits old k d (max w 1) answer new → Stands old.cap (forget old.rows) (Admit k w) (admitted answer) (forget new.rows)
  stands_admit old new k d w (Ok was) h =
      accepts old new (with_first old.rows (row k d (max w 1))) (with_first (forget old.rows) (row k tt (max w 1))) (Weight (weight_at (forget old.rows) k)) (first-forget old.rows (row k d (max w 1))) h.1
      ∙ ap (λ x. step (forget new.rows) (Weight x)) (weight_at-forget old.rows k ∙ sym h.0)
  stands_admit old new k d w (Err r) h =
      declines (Admit k w) old new (with_first old.rows (row k d (max w 1))) (with_first (forget old.rows) (row k tt (max w 1))) (Weight (weight_at (forget old.rows) k)) r.cause refl (first-forget old.rows (row k d (max w 1))) h.declines

  pub stands_insert : (old new : Shard T) (k : ℕ) (d : T) (w : ℕ) (answer : Result Bool (Handed T)) → InsertsTail old k d w answer new → Stands old.cap (forget old.rows) (InsertTail k w) (inserted answer) (forget new.rows)
  stands_insert old new k d w (Ok added) h =
      accepts old new (tailed old.rows k d w) (tailed (forget old.rows) k tt w) (Flag (not (is_held (forget old.rows) k))) (tailed-forget old.rows k d w) h.1
      ∙ ap (λ x. step (forget new.rows) (Flag x)) (ap not (is_held-forget old.rows k) ∙ sym h.0)
  stands_insert old new k d w (Err r) h =
      declines (InsertTail k w) old new (tailed old.rows k d w) (tailed (forget old.rows) k tt w) (Flag (not (is_held (forget old.rows) k))) r.cause refl (tailed-forget old.rows k d w) h.declines

  pub found_row : (o : Option (Row T)) → found (option_map plain o) ≡ weighed (option_map (λ (r : Row T). r.weight) o)
  found_row None = refl
  found_row (Some r) = refl

  pub found_of : (rows : List (Row T)) (k : ℕ) → found (row_of (forget rows) k) ≡ weighed (option_map (λ (r : Row T). r.weight) (row_of rows k))
  found_of rows k = ap found (row_of-forget rows k) ∙ found_row (row_of rows k)

  pub stands_set : (old new : Shard T) (k w : ℕ) (answer : Result (Option ℕ) Cause) → SetsWeight old k (max w 1) answer new → Stands old.cap (forget old.rows) (SetWeight k w) (set answer) (forget new.rows)
  stands_set old new k w (Ok was) h =
      accepts old new (with_weight old.rows k (max w 1)) (with_weight (forget old.rows) k (max w 1)) (found (row_of (forget old.rows) k)) (with_weight-forget old.rows k (max w 1)) h.1
      ∙ ap (λ x. step (forget new.rows) x) (found_of old.rows k ∙ ap weighed (sym h.0))
  stands_set old new k w (Err cause) h =
      declines (SetWeight k w) old new (with_weight old.rows k (max w 1)) (with_weight (forget old.rows) k (max w 1)) (found (row_of (forget old.rows) k)) cause refl (with_weight-forget old.rows k (max w 1)) h

  pub size-new : (rows : List (Row T)) (k w : ℕ) → row_of (forget rows) k ≡ None → size_of (with_first (forget rows) (row k tt w)) ≡ and_row (size_of rows) w
  size-new rows k w none =
      let l : suc (length (without (forget rows) k)) ≡ length rows + 1 = omega (arith, ap length (without_none (forget rows) k none), length-forget rows) in
      let v : weight_of (row k tt w ∷ without (forget rows) k) ≡ weight_of rows + w = omega (arith, weight-cons (row k tt w) (without (forget rows) k), ap weight_of (without_none (forget rows) k none), weight-forget rows) in
      (λ i. record { len = l i; weight = v i })

  -- `increment_weight`
  module _ (Makes : T → Type 0) (old new : Shard T) (k delta : ℕ) (most : Option ℕ) where
    weight_for : Option (Row T) → ℕ
    weight_for o = grown delta most (option_map plain o)

    is_increment : (o : Option (Row T)) → row_of old.rows k ≡ o →
        called old.cap (forget old.rows) (increments k delta most) ≡ unless_refused old.cap (forget old.rows) (with_first (forget old.rows) (row k tt (grown delta most (option_map plain o)))) (Weight (grown delta most (option_map plain o)))
    is_increment o e = called_increment old.cap (forget old.rows) k delta most
        ∙ ap (λ r. unless_refused old.cap (forget old.rows) (with_first (forget old.rows) (row k tt (grown delta most r))) (Weight (grown delta most r))) (row_of-forget old.rows k ∙ ap (option_map plain) e)

    stands_row : (o : Option (Row T)) → row_of old.rows k ≡ o → (answer : Result (ℕ × ℕ × Bool) Cause) → IncrementsRow Makes old k delta most o answer new → Stands old.cap (forget old.rows) (increments k delta most) (incremented (new_weight answer)) (forget new.rows)
    stands_row (Some r) e (Ok answer) h =
        let w = raised r.weight delta most in
        is_increment (Some r) e
        ∙ accepts old new (with_first old.rows (row k r.value w)) (with_first (forget old.rows) (row k tt w)) (Weight w) (first-forget old.rows (row k r.value w)) h.1
        ∙ ap (λ x. step (forget new.rows) (Weight x)) (sym h.0.1.0)
    stands_row (Some r) e (Err cause) h =
        let w = raised r.weight delta most in
        declines (increments k delta most) old new (with_first old.rows (row k r.value w)) (with_first (forget old.rows) (row k tt w)) (Weight w) cause (is_increment (Some r) e) (first-forget old.rows (row k r.value w)) h
    stands_row None e (Ok answer) h =
        let w = started delta most in
        is_increment None e
        ∙ accepts old new (with_first old.rows (row k h.1.0 w)) (with_first (forget old.rows) (row k tt w)) (Weight w) (first-forget old.rows (row k h.1.0 w)) h.1.1.1
        ∙ ap (λ x. step (forget new.rows) (Weight x)) (sym h.0.1.0)
    stands_row None e (Err cause) h =
        let w = started delta most in
        declines_by (increments k delta most) old new (with_first (forget old.rows) (row k tt w)) (Weight w) (and_row (size_of old.rows) w) cause (is_increment None e)
        (size-new old.rows k w (row_of-forget old.rows k ∙ ap (option_map plain) e)) h.0 (ap (λ (s : Shard T). forget s.rows) h.1)

    pub stands_increment : (answer : Result (ℕ × ℕ × Bool) Cause) → IncrementsWeight Makes old k delta most answer new → Stands old.cap (forget old.rows) (increments k delta most) (incremented (new_weight answer)) (forget new.rows)
    stands_increment answer h = stands_row (row_of old.rows k) refl answer h

  -- calls that nothing refuses
  module _ (old new : Shard T) (k : ℕ) where
    pub stands_promote : (answer : Bool) → answer ≡ is_held old.rows k → new ≡ shard (accessed old.rows k) old.cap → Stands old.cap (forget old.rows) (Promote k) (Some (Flag answer)) (forget new.rows)
    stands_promote answer a e = λ i. step ((accessed-forget old.rows k ∙ ap (λ (s : Shard T). forget s.rows) (sym e)) i) (Flag ((is_held-forget old.rows k ∙ sym a) i))

    pub stands_top : (top : ℕ) (answer : Bool) → answer ≡ is_held old.rows k → new ≡ shard (promoted_past old.rows k top) old.cap → Stands old.cap (forget old.rows) (PromoteTopN k top) (Some (Flag answer)) (forget new.rows)
    stands_top top answer a e = λ i. step ((promoted-forget old.rows k top ∙ ap (λ (s : Shard T). forget s.rows) (sym e)) i) (Flag ((is_held-forget old.rows k ∙ sym a) i))

    pub stands_remove : (answer : Option (T × ℕ)) → answer ≡ option_map pair_of (row_of old.rows k) → new ≡ shard (without old.rows k) old.cap → Stands old.cap (forget old.rows) (Remove k) (Some (paired answer)) (forget new.rows)
    stands_remove answer a e = λ i. step ((without-forget old.rows k ∙ ap (λ (s : Shard T). forget s.rows) (sym e)) i) ((ap found (row_of-forget old.rows k) ∙ found_pair (row_of old.rows k) ∙ ap paired (sym a)) i)
      where
        found_pair : (o : Option (Row T)) → found (option_map plain o) ≡ paired (option_map pair_of o)
        found_pair None = refl
        found_pair (Some r) = refl

  pub stands_peek : (old : Shard T) (k : ℕ) (answer : Bool) → answer ≡ is_held old.rows k → Stands old.cap (forget old.rows) (Peek k) (Some (Flag answer)) (forget old.rows)
  stands_peek old k answer a = ap (λ x. step (forget old.rows) (Flag x)) (is_held-forget old.rows k ∙ sym a)

  pub stands_weight : (old : Shard T) (k : ℕ) (answer : Option ℕ) → answer ≡ option_map (λ (r : Row T). r.weight) (row_of old.rows k) → Stands old.cap (forget old.rows) (PeekWeight k) (Some (weighed answer)) (forget old.rows)
  stands_weight old k answer a = ap (step (forget old.rows)) (found_of old.rows k ∙ ap weighed (sym a))

  found_last : (o : Option (Row T)) → found (option_map plain o) ≡ paired (option_map pair_of o)
  found_last None = refl
  found_last (Some r) = refl

  pub stands_last : (old : Shard T) (answer : Option (T × ℕ)) → answer ≡ option_map pair_of (last_row old.rows) → Stands old.cap (forget old.rows) PeekLru (Some (paired answer)) (forget old.rows)
  stands_last old answer a = ap (step (forget old.rows)) (ap found (last_row-forget old.rows) ∙ found_last (last_row old.rows) ∙ ap paired (sym a))

  pub stands_evict : (old new : Shard T) (n s : ℕ) (call : Call) (answer : Option (T × ℕ)) → IsEviction n s call → answer ≡ option_map pair_of (last_row old.rows) → new ≡ shard (without_last old.rows) old.cap → Stands old.cap (forget old.rows) call (Some (paired answer)) (forget new.rows)
  stands_evict old new n s call answer is a e =
      evicts old.cap (forget old.rows) n s call is
      ∙ (λ i. step ((without_last-forget old.rows ∙ ap (λ (s : Shard T). forget s.rows) (sym e)) i) ((ap found (last_row-forget old.rows) ∙ found_last (last_row old.rows) ∙ ap paired (sym a)) i))

  -- a key that has a row: no list that its new row leads is longer
  shorter : (rows : List (Row T)) (k : ℕ) (x : Row T) → row_of rows k ≡ Some x → suc (length (without rows k)) ≤ length rows
  shorter [] k x e = absurd (cc)
  shorter (r ∷ rows) k x e =
      cond_both (eqb r.key k) (Some r) (row_of rows k) (λ o. o ≡ Some x → suc (length (without (r ∷ rows) k)) ≤ length (r ∷ rows))
      (λ here _. let n : length (without (r ∷ rows) k) ≡ length (without rows k) = ap (λ b. length (cond (not b) (r ∷ without rows k) (without rows k))) here in omega (arith, n, length-without-le k rows))
      (λ there h. let n : length (without (r ∷ rows) k) ≡ suc (length (without rows k)) = ap (λ b. length (cond (not b) (r ∷ without rows k) (without rows k))) there in omega (arith, n, shorter rows k x h)) e

  -- `update_or_admit`
  module _ (Changes : T → ℕ → ℕ → T → Type 0) (Makes : T × ℕ → Type 0) (old new : Shard T) (k : ℕ) where
    updated_row : (o : Option (Row T)) → row_of old.rows k ≡ o → (was : Option ℕ) (w : ℕ) → UpdatesRow Changes Makes old k o (Ok (was, w)) new → Stands old.cap (forget old.rows) (UpdateOrAdmit k w) (Some (weighed was)) (forget new.rows)
    updated_row (Some r) e was w h =
        put_first h.0 was w (subst (λ v. Accepts old new (with_first old.rows (row k h.0 v))) (sym h.1.1.1.0.1) h.1.1.1.1) (found_of old.rows k ∙ ap weighed (ap (option_map (λ (r : Row T). r.weight)) e ∙ sym h.1.1.1.0.0))
      where
        put_first : (d : T) (was : Option ℕ) (w : ℕ) → Accepts old new (with_first old.rows (row k d w)) → found (row_of (forget old.rows) k) ≡ weighed was → Stands old.cap (forget old.rows) (UpdateOrAdmit k w) (Some (weighed was)) (forget new.rows)
        put_first d was w a f = accepts old new (with_first old.rows (row k d w)) (with_first (forget old.rows) (row k tt w)) (found (row_of (forget old.rows) k)) (first-forget old.rows (row k d w)) a ∙ ap (step (forget new.rows)) f
    updated_row None e was w h =
        put_first h.0.0 was w (subst (λ v. Accepts old new (with_first old.rows (row k h.0.0 v))) (sym h.1.1.0.1) h.1.1.1) (found_of old.rows k ∙ ap weighed (ap (option_map (λ (r : Row T). r.weight)) e ∙ sym h.1.1.0.0))
      where
        put_first : (d : T) (was : Option ℕ) (w : ℕ) → Accepts old new (with_first old.rows (row k d w)) → found (row_of (forget old.rows) k) ≡ weighed was → Stands old.cap (forget old.rows) (UpdateOrAdmit k w) (Some (weighed was)) (forget new.rows)
        put_first d was w a f = accepts old new (with_first old.rows (row k d w)) (with_first (forget old.rows) (row k tt w)) (found (row_of (forget old.rows) k)) (first-forget old.rows (row k d w)) a ∙ ap (step (forget new.rows)) f

    pub stands_update : (was : Option ℕ) (w : ℕ) → UpdatesOrAdmits Changes Makes old k (Ok (was, w)) new → Stands old.cap (forget old.rows) (UpdateOrAdmit k w) (Some (weighed was)) (forget new.rows)
    stands_update was w h = updated_row (row_of old.rows k) refl was w h

    -- the weight that the called closure gave
    given_row : (o : Option (Row T)) (was : Option ℕ) (w : ℕ) → UpdatesRow Changes Makes old k o (Ok (was, w)) new → IsGiven Changes Makes was w
    given_row (Some r) was w h = subst (λ (x : Option ℕ). IsGiven Changes Makes x w) (sym h.1.1.1.0.0) (r.value, (h.0, (h.1.0, (h.1.1.0, h.1.1.1.0.1))))
    given_row None was w h = subst (λ (x : Option ℕ). IsGiven Changes Makes x w) (sym h.1.1.0.0) (h.0, (h.1.0, h.1.1.0.1))

    pub given_of : (was : Option ℕ) (w : ℕ) → UpdatesOrAdmits Changes Makes old k (Ok (was, w)) new → IsGiven Changes Makes was w
    given_of was w h = given_row (row_of old.rows k) was w h

    -- a refusal leaves the keys and the weights
    refused_row : (o : Option (Row T)) (r : RefusedUpdate T) → UpdatesRow Changes Makes old k o (Err r) new → forget new.rows ≡ forget old.rows
    refused_row (Some x) r h = ap (λ (s : Shard T). forget s.rows) h.1.1.1.1.1 ∙ forget-with_value old.rows k h.0
    refused_row None r h = ap (λ (s : Shard T). forget s.rows) h.1

    -- why a missing key is refused, and why a present one is, in the words of the plain list
    declined : (w : ℕ) (size : Size) (cause : Cause) → size_of (with_first (forget old.rows) (row k tt w)) ≡ size → MayRefuse old.cap (size_of old.rows) size cause → forget new.rows ≡ forget old.rows →
        Stands old.cap (forget old.rows) (UpdateOrAdmit k w) (refused cause) (forget new.rows)
    declined w size cause same may left = declines_by (UpdateOrAdmit k w) old new (with_first (forget old.rows) (row k tt w)) (found (row_of (forget old.rows) k)) size cause refl same may left

    declined_new : (cause : Cause) (w : ℕ) (held : Option (T × ℕ)) → row_of old.rows k ≡ None → RefusesNew Makes old cause w held → forget new.rows ≡ forget old.rows → Stands old.cap (forget old.rows) (UpdateOrAdmit k w) (refused cause) (forget new.rows)
    declined_new Memory w held none h left = left
    declined_new Length w held none h left =
        declined w (and_row (size_of old.rows) w) Length (size-new old.rows k w (row_of-forget old.rows k ∙ ap (option_map plain) none))
        (refusal_length old.cap (size_of old.rows) (and_row (size_of old.rows) w) (omega arith) (leb-true (most_rows old.cap) (length old.rows) h.0)) left
    declined_new Heavy w held none h left =
        declined w (and_row (size_of old.rows) w) Heavy (size-new old.rows k w (row_of-forget old.rows k ∙ ap (option_map plain) none))
        (ap (λ v. refusal old.cap (size_of old.rows) (and_row (size_of old.rows) v)) h.1.1.0.0 ∙ h.1.1.1) left

    declined_row : (o : Option (Row T)) (r : RefusedUpdate T) → row_of old.rows k ≡ o → UpdatesRow Changes Makes old k o (Err r) new → Stands old.cap (forget old.rows) (UpdateOrAdmit k r.weight) (refused r.cause) (forget new.rows)
    declined_row (Some x) r e h =
        let first = with_first old.rows (row k h.0 r.weight) in
        declined r.weight (size_of first) r.cause (ap size_of (first-forget old.rows (row k h.0 r.weight)) ∙ size-forget first)
        (subst (λ v. MayRefuse old.cap (size_of old.rows) (size_of (with_first old.rows (row k h.0 v))) r.cause) (sym h.1.1.1.1.0.0) h.1.1.1.0) (refused_row (Some x) r h)
    declined_row None r e h = declined_new r.cause r.weight r.held e h.0 (refused_row None r h)

    -- a refused `update_or_admit`, by the weight that it tells
    pub stands_refused : (r : RefusedUpdate T) → UpdatesOrAdmits Changes Makes old k (Err r) new → Stands old.cap (forget old.rows) (UpdateOrAdmit k r.weight) (refused r.cause) (forget new.rows)
    stands_refused r h = declined_row (row_of old.rows k) r refl h

    told_as : (cause : Cause) (w : ℕ) (held held' : Option (T × ℕ)) → held ≡ held' → IsMade Changes Makes cause held' w → IsMade Changes Makes cause held w
    told_as cause w held held' e m = subst (λ (x : Option (T × ℕ)). IsMade Changes Makes cause x w) (sym e) m

    made_new : (cause : Cause) (w : ℕ) (held : Option (T × ℕ)) → RefusesNew Makes old cause w held → IsMade Changes Makes cause held w
    made_new Memory w held h = h.1.1
    made_new Length w held h = (h.1.1, h.1.0)
    made_new Heavy w held h = told_as Heavy w held (Some h.0) h.1.1.0.1 (h.1.0, h.1.1.0.0)

    made_there : (cause : Cause) (w : ℕ) (held : Option (T × ℕ)) (x : Row T) (d : T) (v : ℕ) → row_of old.rows k ≡ Some x → held ≡ None → MayRefuse old.cap (size_of old.rows) (size_of (with_first old.rows (row k d v))) cause →
        ((was : ℕ) × IsUpdated Changes was w) → IsMade Changes Makes cause held w
    made_there Memory w held x d v some none may given = none
    made_there Length w held x d v some none may given = absurd (not_long old.cap (size_of old.rows) (size_of (with_first old.rows (row k d v))) (shorter old.rows k x some) may)
    made_there Heavy w held x d v some none may given = told_as Heavy w held None none given

    made_row : (o : Option (Row T)) (r : RefusedUpdate T) → row_of old.rows k ≡ o → UpdatesRow Changes Makes old k o (Err r) new → IsMade Changes Makes r.cause r.held r.weight
    made_row (Some x) r e h = made_there r.cause r.weight r.held x h.0 (max h.1.0 1) e h.1.1.1.1.0.1 h.1.1.1.0 (x.weight, (x.value, (h.0, (h.1.0, (h.1.1.0, h.1.1.1.1.0.0)))))
    made_row None r e h = made_new r.cause r.weight r.held h.0

    -- one for want of memory leaves everything
    new_same : (o : Option (Row T)) (r : RefusedUpdate T) → row_of old.rows k ≡ o → r.cause ≡ Memory → UpdatesRow Changes Makes old k o (Err r) new → new ≡ old
    new_same (Some x) r e memory h =
        let may = subst (MayRefuse old.cap (size_of old.rows) (size_of (with_first old.rows (row k h.0 (max h.1.0 1))))) memory h.1.1.1.0 in
        absurd (omega (arith, may.1, shorter old.rows k x e))
    new_same None r e memory h = h.1

    pub same_update : (r : RefusedUpdate T) → r.cause ≡ Memory → UpdatesOrAdmits Changes Makes old k (Err r) new → new ≡ old
    same_update r memory h = new_same (row_of old.rows k) r refl memory h

    -- what is handed back of it, and the weight that the called closure gave
    pub made_of : (r : RefusedUpdate T) (back : Handed (Option (T × ℕ))) → back.cause ≡ r.cause → back.held ≡ r.held → UpdatesOrAdmits Changes Makes old k (Err r) new → IsMade Changes Makes back.cause back.held r.weight
    made_of r back cause held h = subst (λ (x : Cause). IsMade Changes Makes x back.held r.weight) (sym cause) (told_as r.cause r.weight back.held r.held held (made_row (row_of old.rows k) r refl h))
