-- Which nodes of a list are live, and when one is freed.
use Rattle.std.proofs.Common.{◌≡◌, ℕ, ◌<◌, ◌≤◌, eqb, not, List, length, Some, None, refl, sym, ap, ◌∙◌, arith, inl, inr, true, false}
use Rattle.std.specs.Prelude.{Option, Bool, is_some}
use Rattle.std.proofs.lemmas.Bool.{cases_eq, eq-eqb, ne_eqb, false≢true}
use Rattle.lru_list.specs.declared.linked_list.Node.{Node}
use Rattle.lru_list.specs.Linked.{item_of, item_at}
use Rattle.lru_list.specs.Representation.Nodes.{pairs, at, nexts, prevs, items, stack_of, linked_of, IsList}
use Rattle.lru_list.proofs.Chains.{stack_cons}
use Rattle.lru_list.proofs.LinkedLaws.{item_at_live, live_from_next}
use Rattle.lru_list.proofs.LinkedReads.{next_is}
use Rattle.lru_list.proofs.LinkedStates.{few, numbered, ranges, none_freed, length-freed}
use Rattle.lru_list.proofs.LinkedWrites.{slot_item}

module _ {K : Type 0} (ns : List (Node K)) (top len : ℕ) (h : IsList ns top len) where
  -- what is no slot has no live item
  pub dead : (i : ℕ) → is_some (item_at (linked_of ns top len) i) ≡ false → is_some (item_of (linked_of ns top len).live i) ≡ false
  dead i none = from (item_of (linked_of ns top len).live i) refl
    where
      from : (o : Option K) → item_of (linked_of ns top len).live i ≡ o → is_some (item_of (linked_of ns top len).live i) ≡ false
      from None e = ap is_some e
      from (Some x) e = absurd (false≢true (sym none ∙ ap is_some (item_at_live (linked_of ns top len) (numbered ns top len h) i x e)))

  -- a slot without a next link is not live
  loose_dead : (i : ℕ) → at (nexts ns) i ≡ 4294967295 → is_some (item_of (linked_of ns top len).live i) ≡ false
  loose_dead i null = from (is_some (item_of (linked_of ns top len).live i)) refl
    where
      from : (b : Bool) → is_some (item_of (linked_of ns top len).live i) ≡ b → is_some (item_of (linked_of ns top len).live i) ≡ false
      from false e = e
      from true live = absurd (omega (arith, (ranges ns top len h i live).next, few ns top len h, null))

  -- a slot is live exactly where its next link leads somewhere
  pub lives : (i : ℕ) → 2 ≤ i → i < length ns → not (eqb (at (nexts ns) i) 4294967295) ≡ is_some (item_of (linked_of ns top len).live i)
  lives i low high =
      elim (cases_eq (at (nexts ns) i) 4294967295) [
        | inl null ↦ ap (λ b. not b) (eq-eqb (at (nexts ns) i) 4294967295 null) ∙ sym (loose_dead i null)
        | inr leads ↦
            ap (λ b. not b) (ne_eqb (at (nexts ns) i) 4294967295 leads)
            ∙ sym (live_from_next (linked_of ns top len) (numbered ns top len h) i (slot_item ns top len h i low high) (λ e. leads (sym (next_is ns top len h i high) ∙ e)))
      ]

  -- a slot is freed exactly where the links of the freed slots begin somewhere
  pub has_freed : not (eqb top 4294967295) ≡ not (eqb (length (linked_of ns top len).freed) 0)
  has_freed =
      elim (cases_eq top 4294967295) [
        | inl null ↦
            ap (λ b. not b) (eq-eqb top 4294967295 null)
            ∙ sym (ap (λ places. not (eqb (length (pairs (items ns) places)) 0)) (none_freed ns top len h null))
        | inr leads ↦
            let s = stack_cons (prevs ns) top (stack_of ns top len) leads h.stack in
            ap (λ b. not b) (ne_eqb top 4294967295 leads)
            ∙ sym (ap (λ b. not b) (ne_eqb (length (linked_of ns top len).freed) 0 (λ none. omega (arith, none, length-freed ns top len h, ap length s.1))))
      ]
