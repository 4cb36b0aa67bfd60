-- What one turn more does to what all turns leave.
use Rattle.std.proofs.Common.{◌≡◌, ℕ, ◌+◌, ◌&&◌, not, cond, Bool, List, [], ◌∷◌, ◌++◌, sym, ap, ◌∙◌, arith, append_assoc, append-nil}
use Rattle.std.proofs.lemmas.List.Sums.{fold-append, sum_by-append}
use Rattle.lru_shard.specs.Row.{Row}
use Rattle.lru_actors.specs.declared.message.LruMsg.{LruMsg}
use Rattle.lru_actors.specs.Turns.{Turn, rows_after, rows_left, refusals, leaving, evictions, times_done, IsAllowed, AreAllowed, IsAnswered, AreAnswered}

module _ {K : Type 0} where
  pub rows_more : (rows : List (Row K)) (ts : List (Turn K)) (t : Turn K) → rows_left rows (ts ++ t ∷ []) ≡ rows_after (rows_left rows ts) t
  rows_more rows ts t = fold-append rows_after rows ts (t ∷ [])

  pub refusals_more : (ts : List (Turn K)) (t : Turn K) → refusals (ts ++ t ∷ []) ≡ refusals ts + cond t.effect.refused 1 0
  refusals_more ts t =
      let one : refusals (t ∷ []) ≡ cond t.effect.refused 1 0 = omega arith in
      sum_by-append (λ (x : Turn K). cond x.effect.refused 1 0) ts (t ∷ []) ∙ ap (λ n. refusals ts + n) one

  pub evictions_more : (rows : List (Row K)) (ts : List (Turn K)) (t : Turn K) → evictions rows (ts ++ t ∷ []) ≡ evictions rows ts ++ leaving (rows_left rows ts) t
  evictions_more rows [] t = append-nil (leaving rows t)
  evictions_more rows (u ∷ ts) t =
      ap (λ ps. leaving rows u ++ ps) (evictions_more (rows_after rows u) ts t)
      ∙ sym (append_assoc (leaving rows u) (evictions (rows_after rows u) ts) (leaving (rows_left rows (u ∷ ts)) t))

  -- whether a turn did this
  abbrev pub once : (List (Row K) → LruMsg K → Bool) → List (Row K) → Turn K → ℕ
  once does rows t = cond (not t.effect.refused && does rows t.msg) 1 0

  pub done_more : (does : List (Row K) → LruMsg K → Bool) (rows : List (Row K)) (ts : List (Turn K)) (t : Turn K) → times_done does rows (ts ++ t ∷ []) ≡ times_done does rows ts + once does (rows_left rows ts) t
  done_more does rows [] t = let e : once does rows t + 0 ≡ 0 + once does rows t = omega arith in e
  done_more does rows (u ∷ ts) t = let h = done_more does (rows_after rows u) ts t in ap (λ n. once does rows u + n) h ∙ (let e : once does rows u + (times_done does (rows_after rows u) ts + once does (rows_left (rows_after rows u) ts) t) ≡ once does rows u + times_done does (rows_after rows u) ts + once does (rows_left (rows_after rows u) ts) t = omega arith in e)

  pub allowed_more : (cap : ℕ) (rows : List (Row K)) (ts : List (Turn K)) (t : Turn K) → AreAllowed cap rows ts → IsAllowed cap (rows_left rows ts) t → AreAllowed cap rows (ts ++ t ∷ [])
  allowed_more cap rows [] t h a = (a, tt)
  allowed_more cap rows (u ∷ ts) t h a = (h.0, allowed_more cap (rows_after rows u) ts t h.1 a)

  module _ (IsClone : K → K → Type 0) where
    pub answered_more : (rows : List (Row K)) (ts : List (Turn K)) (t : Turn K) → AreAnswered IsClone rows ts → IsAnswered IsClone (rows_left rows ts) t → AreAnswered IsClone rows (ts ++ t ∷ [])
    answered_more rows [] t h a = (a, tt)
    answered_more rows (u ∷ ts) t h a = (h.0, answered_more (rows_after rows u) ts t h.1 a)
