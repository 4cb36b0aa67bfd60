-- The list at the end of a shard's history has keys of that shard alone.
use Rattle.std.proofs.Common.{◌≡◌, ℕ, suc, ◌+◌, ◌%◌, ◌<◌, ◌-◌, max, not, cond, eqb, List, [], ◌∷◌, length, map, Option, Some, None, refl, sym, ap, ◌∙◌, arith, ◌⊎◌, inl, inr, subst}
use Rattle.std.specs.Option.{option_map_or}
use Rattle.std.proofs.lemmas.Bool.{cases_eq, cond_both, ne_eqb}
use Rattle.std.proofs.lemmas.List.Sums.{sum_by-take-le}
use Rattle.lru_shard.specs.declared.unit.Cause.{Cause}
use Rattle.lru_shard.specs.Row.{Row, row, row_of, is_held, times, with_first, with_last, without, without_last, with_weight}
use Rattle.lru_shard.specs.Shard.{size_of, refusal}
use Rattle.lru_shard.specs.Unit.{weight_at, grown, tailed, accessed, needs_promote}
use Rattle.lru_shard.proofs.Rows.{times-cons, times-append, times_no, times-without_other}
use Rattle.lru_shard.proofs.Edits.{times-with_weight, times-without-le}
use Rattle.lru_shard.proofs.Pulls.{row_key}
use Rattle.lru_shard.specs.Shards.{AreAtHome}
use Rattle.lru_shard.specs.ShardCalls.{promoted_past}
use Rattle.lru_recording.specs.declared.entry.Entry.{Entry}
use Rattle.lru_recording.specs.declared.entry.Call.{Call}
use Rattle.lru_recording.specs.declared.entry.Call.TheVariants.{Admit, InsertTail, IncrementWeight, IncrementWeightUpTo, UpdateOrAdmit, SetWeight, Promote, PromoteTopN, EvictShard, EvictToLimit, Remove, Peek, PeekWeight, PeekLru}
use Rattle.lru_recording.specs.declared.entry.Reply.{Reply}
use Rattle.lru_recording.specs.declared.entry.Reply.TheVariants.{Flag, Weight, Refused}
use Rattle.lru_recording.specs.Plain.{Plain, plain, forget, found, step, unless_refused, called}
use Rattle.lru_recording.specs.Histories.{home, left_by}

module _ (n s : ℕ) where
  home_first : (rows : List Plain) (r : Plain) → r.key % n ≡ s → AreAtHome n s rows → AreAtHome n s (with_first rows r)
  home_first rows r own all k h =
      elim (cases_eq k r.key) [
        | inl e ↦ ap (λ x. x % n) e ∙ own
        | inr ne ↦ all k (omega (arith, h, times_no k r (without rows r.key) (ne_eqb r.key k (λ e. ne (sym e))), times-without_other k r.key rows ne))
      ]

  home_last : (rows : List Plain) (r : Plain) → r.key % n ≡ s → AreAtHome n s rows → AreAtHome n s (with_last rows r)
  home_last rows r own all k h =
      elim (cases_eq k r.key) [
        | inl e ↦ ap (λ x. x % n) e ∙ own
        | inr ne ↦ all k (omega (arith, h, times-append k rows (r ∷ []), times_no k r [] (ne_eqb r.key k (λ e. ne (sym e)))))
      ]

  home_tailed : (rows : List Plain) (k w : ℕ) → k % n ≡ s → AreAtHome n s rows → AreAtHome n s (tailed rows k tt w)
  home_tailed rows k w own all = cond_both (is_held rows k) rows (with_last rows (row k tt w)) (AreAtHome n s) (λ _. all) (λ _. home_last rows (row k tt w) own all)

  home_row : (rows : List Plain) (k : ℕ) (o : Option Plain) → row_of rows k ≡ o → k % n ≡ s → AreAtHome n s rows → AreAtHome n s (option_map_or (λ (r : Plain). with_first rows r) o rows)
  home_row rows k None e own all = all
  home_row rows k (Some r) e own all = home_first rows r (ap (λ x. x % n) (row_key rows k r e) ∙ own) all

  home_accessed : (rows : List Plain) (k : ℕ) → k % n ≡ s → AreAtHome n s rows → AreAtHome n s (accessed rows k)
  home_accessed rows k own all = home_row rows k (row_of rows k) refl own all

  home_promoted : (rows : List Plain) (k top : ℕ) → k % n ≡ s → AreAtHome n s rows → AreAtHome n s (promoted_past rows k top)
  home_promoted rows k top own all = cond_both (needs_promote rows k top) (accessed rows k) rows (AreAtHome n s) (λ _. home_accessed rows k own all) (λ _. all)

  home_without : (rows : List Plain) (k : ℕ) → AreAtHome n s rows → AreAtHome n s (without rows k)
  home_without rows k all j h = all j (omega (arith, h, times-without-le j k rows))

  home_without_last : (rows : List Plain) → AreAtHome n s rows → AreAtHome n s (without_last rows)
  home_without_last rows all j h = all j (omega (arith, h, sum_by-take-le (λ (r : Plain). cond (eqb r.key j) 1 0) rows (length rows - 1)))

  home_weight : (rows : List Plain) (k w : ℕ) → AreAtHome n s rows → AreAtHome n s (with_weight rows k w)
  home_weight rows k w all j h = all j (omega (arith, h, times-with_weight rows k w j))

  home_unless : (cap : ℕ) (rows new : List Plain) (reply : Reply) → AreAtHome n s rows → AreAtHome n s new → AreAtHome n s (unless_refused cap rows new reply).rows
  home_unless cap rows new reply all then = by_refusal (refusal cap (size_of rows) (size_of new))
    where
      by_refusal : (o : Option Cause) → AreAtHome n s (option_map_or (λ cause. step rows (Refused cause)) o (step new reply)).rows
      by_refusal None = then
      by_refusal (Some cause) = all

  home_grown : (cap : ℕ) (rows : List Plain) (k w : ℕ) → k % n ≡ s → AreAtHome n s rows → AreAtHome n s (unless_refused cap rows (with_first rows (row k tt w)) (Weight w)).rows
  home_grown cap rows k w own all = home_unless cap rows (with_first rows (row k tt w)) (Weight w) all (home_first rows (row k tt w) own all)

  -- a call of this shard leaves keys of this shard
  home_called : (cap : ℕ) (rows : List Plain) (call : Call) → home n s call ≡ s → AreAtHome n s rows → AreAtHome n s (called cap rows call).rows
  home_called cap rows (Admit k w) own all = home_unless cap rows (with_first rows (row k tt (max w 1))) (Weight (weight_at rows k)) all (home_first rows (row k tt (max w 1)) own all)
  home_called cap rows (InsertTail k w) own all = home_unless cap rows (tailed rows k tt w) (Flag (not (is_held rows k))) all (home_tailed rows k w own all)
  home_called cap rows (IncrementWeight k delta) own all = home_grown cap rows k (grown delta None (row_of rows k)) own all
  home_called cap rows (IncrementWeightUpTo k delta most) own all = home_grown cap rows k (grown delta (Some most) (row_of rows k)) own all
  home_called cap rows (UpdateOrAdmit k w) own all = home_unless cap rows (with_first rows (row k tt w)) (found (row_of rows k)) all (home_first rows (row k tt w) own all)
  home_called cap rows (SetWeight k w) own all = home_unless cap rows (with_weight rows k (max w 1)) (found (row_of rows k)) all (home_weight rows k (max w 1) all)
  home_called cap rows (Promote k) own all = home_accessed rows k own all
  home_called cap rows (PromoteTopN k top) own all = home_promoted rows k top own all
  home_called cap rows (EvictShard x) own all = home_without_last rows all
  home_called cap rows EvictToLimit own all = home_without_last rows all
  home_called cap rows (Remove k) own all = home_without rows k all
  home_called cap rows (Peek k) own all = all
  home_called cap rows (PeekWeight k) own all = all
  home_called cap rows PeekLru own all = all

  head_same : (x y : ℕ) (xs ys : List ℕ) → x ∷ xs ≡ y ∷ ys → x ≡ y
  head_same x y xs ys e = cc

  tail_same : (x y : ℕ) (xs ys : List ℕ) → x ∷ xs ≡ y ∷ ys → xs ≡ ys
  tail_same x y xs ys e = cc

  home_left : (cap : ℕ) (rows : List Plain) (es : List Entry) → map (λ (e : Entry). home n s e.call) es ≡ map (λ (_ : Entry). s) es → AreAtHome n s rows → AreAtHome n s (left_by cap rows es)
  home_left cap rows [] homes all = all
  home_left cap rows (e ∷ es) homes all = home_left cap (called cap rows e.call).rows es (tail_same _ _ _ _ homes) (home_called cap rows e.call (head_same _ _ _ _ homes) all)

times-forget : {T : Type 0} (k : ℕ) (rows : List (Row T)) → times k (forget rows) ≡ times k rows
times-forget k [] = refl
times-forget k (r ∷ rows) = times-cons k (plain r) (forget rows) ∙ ap (λ m. cond (eqb r.key k) 1 0 + m) (times-forget k rows) ∙ sym (times-cons k r rows)

-- a shard whose keys and weights are those at the end of such a history
pub home_of : {T : Type 0} (n s cap : ℕ) (rows : List (Row T)) (es : List Entry) → forget rows ≡ left_by cap [] es → map (λ (e : Entry). home n s e.call) es ≡ map (λ (_ : Entry). s) es → AreAtHome n s rows
home_of n s cap rows es ends homes k h =
    home_left n s cap [] es homes (λ j none. absurd (omega (arith, none)))
    k (omega (arith, h, times-forget k rows, ap (times k) ends))
