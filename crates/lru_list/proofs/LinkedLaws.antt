-- What the callers of a list may conclude from what they know of it.
use Rattle.std.proofs.Common.{◌≡◌, ◌≢◌, ℕ, ◌+◌, ◌<◌, ◌≤◌, cond, eqb, List, [], ◌∷◌, ◌++◌, get_or, Some, refl, sym, ap, ◌∙◌, subst, arith, inl, inr, true}
use Rattle.std.specs.Prelude.{option_map, find, is_some}
use Rattle.std.proofs.lemmas.List.{map-append}
use Rattle.std.proofs.lemmas.Bool.{eq-eqb, ne_eqb, cases_eq, cases_lt, false≢true}
use Rattle.lru_list.specs.Linked.{Linked, times, indices_of, item_of, item_at, next_of, IsLive, IsNumbered, IsPlace, made, next_slot}
use Rattle.lru_list.proofs.Chains.{times-append, times_here, times_other}
use Rattle.lru_list.proofs.Splices.{in_range, once_in_le, once_past, ring_count}
use Rattle.lru_list.proofs.LinkedReads.{follower_absent}

module _ {K : Type 0} where
  -- ---- the item of an index, one pair on
  pub item_of_same : (p : ℕ × K) (ps : List (ℕ × K)) (i : ℕ) → p.0 ≡ i → item_of (p ∷ ps) i ≡ Some p.1
  item_of_same p ps i e = ap (λ b. option_map (λ (z : ℕ × K). z.1) (cond b (Some p) (find (λ z. eqb z.0 i) ps))) (eq-eqb p.0 i e)

  pub item_of_other : (p : ℕ × K) (ps : List (ℕ × K)) (i : ℕ) → p.0 ≢ i → item_of (p ∷ ps) i ≡ item_of ps i
  item_of_other p ps i ne = ap (λ b. option_map (λ (z : ℕ × K). z.1) (cond b (Some p) (find (λ z. eqb z.0 i) ps))) (ne_eqb p.0 i ne)

  -- an index has an item exactly where it stands among the indices
  pub stands_from_item : (xs : List (ℕ × K)) (i : ℕ) → is_some (item_of xs i) ≡ true → 1 ≤ times i (indices_of xs)
  stands_from_item [] i some = absurd (false≢true some)
  stands_from_item (p ∷ ps) i some =
      elim (cases_eq p.0 i) [
        | inl e ↦ subst (λ j. 1 ≤ times j (p.0 ∷ indices_of ps)) e (omega (arith, times_here p.0 (indices_of ps)))
        | inr ne ↦ omega (arith, stands_from_item ps i (ap is_some (sym (item_of_other p ps i ne)) ∙ some), times_other i p.0 (indices_of ps) ne)
      ]

  pub item_from_stands : (xs : List (ℕ × K)) (i : ℕ) → 1 ≤ times i (indices_of xs) → is_some (item_of xs i) ≡ true
  item_from_stands [] i there = absurd (omega (arith, there))
  item_from_stands (p ∷ ps) i there =
      elim (cases_eq p.0 i) [
        | inl e ↦ ap is_some (item_of_same p ps i e)
        | inr ne ↦ ap is_some (item_of_other p ps i ne) ∙ item_from_stands ps i (omega (arith, there, times_other i p.0 (indices_of ps) ne))
      ]

  -- what is found among some pairs is found with more behind them
  pub item_of-append : (xs ys : List (ℕ × K)) (i : ℕ) (x : K) → item_of xs i ≡ Some x → item_of (xs ++ ys) i ≡ Some x
  item_of-append [] ys i x e = absurd (false≢true (ap is_some e))
  item_of-append (p ∷ ps) ys i x e =
      elim (cases_eq p.0 i) [
        | inl here ↦ item_of_same p (ps ++ ys) i here ∙ sym (item_of_same p ps i here) ∙ e
        | inr ne ↦ item_of_other p (ps ++ ys) i ne ∙ item_of-append ps ys i x (sym (item_of_other p ps i ne) ∙ e)
      ]

  -- ---- a numbered list
  module _ (l : Linked K) (numbered : IsNumbered l) where
    -- `peek` finds a live item
    pub item_at_live : (i : ℕ) (x : K) → item_of l.live i ≡ Some x → item_at l i ≡ Some x
    item_at_live i x e = item_of-append l.live l.freed i x e

    all_once : (i : ℕ) → times i (indices_of l.live) + times i (indices_of l.freed) ≤ 1
    all_once i = omega (arith, numbered i, once_in_le (made l + 2) i, times-append i (indices_of l.live) (indices_of l.freed))

    pub live_once : (i : ℕ) → times i (indices_of l.live) ≤ 1
    live_once i = omega (arith, all_once i)

    pub stands_in : (i : ℕ) → 1 ≤ times i (indices_of l.live) + times i (indices_of l.freed) → (2 ≤ i) × (i < made l + 2)
    stands_in i there = in_range (made l + 2) i (omega (arith, there, numbered i, times-append i (indices_of l.live) (indices_of l.freed)))

    pub live_range : (i : ℕ) → IsLive l i → (2 ≤ i) × (i < made l + 2)
    live_range i live = stands_in i (omega (arith, stands_from_item l.live i live))

    all_indices : indices_of (l.live ++ l.freed) ≡ indices_of l.live ++ indices_of l.freed
    all_indices = map-append (λ (p : ℕ × K). p.0) l.live l.freed

    stands_at : (i : ℕ) → is_some (item_at l i) ≡ true → 1 ≤ times i (indices_of l.live) + times i (indices_of l.freed)
    stands_at i some =
        omega (arith, stands_from_item (l.live ++ l.freed) i some, ap (times i) all_indices, times-append i (indices_of l.live) (indices_of l.freed))

    -- what `peek` finds may be asked for its next and its previous index
    pub place_from_peek : (i : ℕ) → is_some (item_at l i) ≡ true → IsPlace l i
    place_from_peek i some = (stands_in i (stands_at i some)).1

    -- what `peek` finds, and has a next index, is live
    pub live_from_next : (i : ℕ) → is_some (item_at l i) ≡ true → next_of l i ≢ 4294967295 → IsLive l i
    live_from_next i some next =
        elim (cases_lt 0 (times i (indices_of l.live))) [
          | inl there ↦ item_from_stands l.live i (omega (arith, there))
          | inr none ↦
              let low = (stands_in i (stands_at i some)).0 in
              absurd (next (follower_absent (0 ∷ indices_of l.live ++ 1 ∷ []) i (ring_count i (indices_of l.live) low ∙ omega (arith, none))))
        ]

    -- the index that the next push takes is not live
    slot_absent : (freed : List (ℕ × K)) → l.freed ≡ freed → times (get_or (indices_of freed) 0 (made l + 2)) (indices_of l.live) ≡ 0
    slot_absent [] e =
        omega (arith, numbered (made l + 2), once_past (made l + 2) (made l + 2) (omega arith), times-append (made l + 2) (indices_of l.live) (indices_of l.freed))
    slot_absent (p ∷ ps) e = omega (arith, all_once p.0, ap (λ zs. times p.0 (indices_of zs)) e, times_here p.0 (indices_of ps))

    pub next_slot_absent : times (next_slot l) (indices_of l.live) ≡ 0
    next_slot_absent = slot_absent l.freed refl
