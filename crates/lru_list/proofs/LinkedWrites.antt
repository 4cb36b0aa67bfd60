-- A write to the item of a slot.
use Rattle.std.proofs.Common.{◌≡◌, ◌≢◌, ℕ, ◌<◌, ◌≤◌, cond, List, [], ◌∷◌, ◌++◌, length, get_or, set, Some, None, refl, sym, ap, ◌∙◌, subst, arith, inl, inr, true, false, ◌&&◌}
use Rattle.std.specs.Prelude.{slice_get, Option, is_some}
use Rattle.std.specs.Ordering.{nat_cmp, is_le, is_lt}
use Rattle.std.proofs.lemmas.Bool.Decides.{nat_tests}
use Rattle.std.proofs.lemmas.Bool.{cases_lt, cases_eq, eq-eqb, ne_eqb, false≢true}
use Rattle.lru_list.specs.declared.linked_list.Node.{Node}
use Rattle.lru_list.specs.Linked.{written, item_at}
use Rattle.lru_list.specs.Representation.Nodes.{pairs, nexts, prevs, items, order_of, stack_of, linked_of, with_item, IsLinked, IsStack, IsList}
use Rattle.lru_list.proofs.NodeFields.{written_field, kept_field}
use Rattle.lru_list.proofs.NodePairs.{pair_of, slice_get-set_other, slice_get-set_same, some_at}
use Rattle.lru_list.proofs.LinkedStates.{Shows, shown, reshown, length-items, length-order}
use Rattle.lru_list.proofs.LinkedReads.{item_there, item_below, item_past}

range_below : (i n : ℕ) → i < 2 → (is_le (nat_cmp 2 i) && is_lt (nat_cmp i n)) ≡ false
range_below i n low = grind (arith, nat_tests)

range_past : (i n : ℕ) → n ≤ i → (is_le (nat_cmp 2 i) && is_lt (nat_cmp i n)) ≡ false
range_past i n past = grind (arith, nat_tests)

range_within : (i n : ℕ) → 2 ≤ i → i < n → (is_le (nat_cmp 2 i) && is_lt (nat_cmp i n)) ≡ true
range_within i n low high = grind (arith, nat_tests)

module _ {K : Type 0} where
  written_other : (u i : ℕ) (w : K) (o : Option K) (rest : List (ℕ × K)) → u ≢ i → written (pair_of u o ++ rest) i w ≡ pair_of u o ++ written rest i w
  written_other u i w None rest ne = refl
  written_other u i w (Some x) rest ne = ap (λ b. (u, cond b w x) ∷ written rest i w) (ne_eqb u i ne)

  written_same : (i : ℕ) (w x : K) (rest : List (ℕ × K)) → written ((i, x) ∷ rest) i w ≡ (i, w) ∷ written rest i w
  written_same i w x rest = ap (λ b. (i, cond b w x) ∷ written rest i w) (eq-eqb i i refl)

  pairs-set : (xs : List K) (i : ℕ) (w : K) (places : List ℕ) → i < length xs → pairs (set xs i w) places ≡ written (pairs xs places) i w
  pairs-set xs i w [] within = refl
  pairs-set xs i w (u ∷ us) within =
      ap (λ zs. pair_of u (slice_get (set xs i w) u) ++ zs) (pairs-set xs i w us within)
      ∙ elim (cases_eq u i) [
        | inl e ↦
            let x = some_at xs i within in
            ap (λ o. pair_of u o ++ written (pairs xs us) i w) (ap (slice_get (set xs i w)) e ∙ slice_get-set_same xs i w within)
            ∙ ap (λ j. (j, w) ∷ written (pairs xs us) i w) e
            ∙ sym (ap (λ o. written (pair_of u o ++ pairs xs us) i w) (ap (slice_get xs) e ∙ x.1) ∙ ap (λ j. written ((j, x.0) ∷ pairs xs us) i w) e ∙ written_same i w x.0 (pairs xs us))
        | inr ne ↦
            ap (λ o. pair_of u o ++ written (pairs xs us) i w) (slice_get-set_other xs i u w ne)
            ∙ sym (written_other u i w (slice_get xs u) (pairs xs us) ne)
      ]

  module _ (ns : List (Node K)) (top len : ℕ) (h : IsList ns top len) where
    -- a slot with an item is no sentinel, and is a node's
    pub slot_range : (i : ℕ) → is_some (item_at (linked_of ns top len) i) ≡ true → (2 ≤ i) × (i < length ns)
    slot_range i some =
        elim (cases_lt i 2) [
          | inl low ↦ absurd (false≢true (sym (ap is_some (item_below ns top len h i low)) ∙ some))
          | inr two ↦ elim (cases_lt i (length ns)) [
            | inl within ↦ (two, within)
            | inr past ↦ absurd (false≢true (sym (ap is_some (item_past ns top len h i past)) ∙ some))
          ]
        ]

    pub slot_item : (i : ℕ) → 2 ≤ i → i < length ns → is_some (item_at (linked_of ns top len) i) ≡ true
    slot_item i low high =
        let x = some_at (items ns) i (omega (arith, high, length-items ns)) in
        ap is_some (item_there ns top len h i x.0 low high x.1)

    -- an index is a slot's exactly where it has an item
    pub slot_tells : (i : ℕ) → (is_le (nat_cmp 2 i) && is_lt (nat_cmp i (length ns))) ≡ is_some (item_at (linked_of ns top len) i)
    slot_tells i =
        elim (cases_lt i 2) [
          | inl low ↦ range_below i (length ns) low ∙ sym (ap is_some (item_below ns top len h i low))
          | inr two ↦ elim (cases_lt i (length ns)) [
            | inl within ↦ range_within i (length ns) two within ∙ sym (slot_item i two within)
            | inr past ↦ range_past i (length ns) past ∙ sym (ap is_some (item_past ns top len h i past))
          ]
        ]

    -- the list after a write
    pub written_shown : (i : ℕ) (n : Node K) (w : K) → i < length ns → n ≡ get_or ns i n →
        Shows (set ns i (with_item n w)) top len (written (linked_of ns top len).live i w) (written (linked_of ns top len).freed i w)
    written_shown i n w within read =
        let ns' = set ns i (with_item n w) in
        let order = order_of ns len in
        let free = stack_of ns top len in
        let ne : nexts ns' ≡ nexts ns = kept_field (λ (z : Node K). z.next) ns i (with_item n w) n within (ap (λ (z : Node K). z.next) read) in
        let pe : prevs ns' ≡ prevs ns = kept_field (λ (z : Node K). z.prev) ns i (with_item n w) n within (ap (λ (z : Node K). z.prev) read) in
        let ie : items ns' ≡ set (items ns) i w = written_field (λ (z : Node K). z.item) ns i (with_item n w) w refl in
        let l = subst (λ zs. IsLinked zs (prevs ns') free order) (sym ne) (subst (λ zs. IsLinked (nexts ns) zs free order) (sym pe) h.linked) in
        let s = subst (λ zs. IsStack zs top free) (sym pe) h.stack in
        let in_items : i < length (items ns) = omega (arith, within, length-items ns) in
        reshown ns' top len (pairs (items ns') order) (pairs (items ns') free) (written (linked_of ns top len).live i w) (written (linked_of ns top len).freed i w)
        (shown ns' top len free order l s (length-order ns top len h))
        (ap (λ zs. pairs zs order) ie ∙ pairs-set (items ns) i w order in_items)
        (ap (λ zs. pairs zs free) ie ∙ pairs-set (items ns) i w free in_items)
