-- What the nodes of a list tell of it: its ends, its items, and the place behind or before a place.
use Rattle.std.proofs.Common.{◌≡◌, ◌≢◌, ℕ, ◌-◌, ◌<◌, ◌≤◌, cond, List, [], ◌∷◌, ◌++◌, length, get_or, Some, None, refl, sym, ap, ◌∙◌, subst, arith, append_assoc, inl, inr}
use Rattle.std.specs.Prelude.{slice_get, reverse, ◌⊎◌}
use Rattle.std.proofs.lemmas.List.{length_push, get_or_push, reverse-append, same_from_push}
use Rattle.std.proofs.lemmas.Bool.{cases_lt, eq-eqb, ne_eqb}
use Rattle.std.proofs.lemmas.Option.{slice_get-get_or}
use Rattle.lru_list.specs.declared.linked_list.Node.{Node}
use Rattle.lru_list.specs.Linked.{times, follower, item_of, item_at, head_of, tail_of, next_of, prev_of, ring, indices_of}
use Rattle.lru_list.specs.Representation.Nodes.{pairs, at, nexts, prevs, items, order_of, stack_of, linked_of, Chain, IsLinked, IsList}
use Rattle.lru_list.proofs.Chains.{times-cons, times-append, times_here, times-reverse, absent_head, absent_tail, found, chain_split}
use Rattle.lru_list.proofs.Splices.{live_range, ring_once, ring_range, ring_count, last_split, once_within, once_below, once_past}
use Rattle.lru_list.proofs.NodePairs.{pairs-append, item_absent, item_found}
use Rattle.lru_list.proofs.LinkedStates.{length-nexts, live_indices, length-live, length-order}

-- ---- the number behind another
pub follower_absent : (xs : List ℕ) (i : ℕ) → times i xs ≡ 0 → follower xs i ≡ 4294967295
follower_absent [] i none = refl
follower_absent (x ∷ xs) i none =
    ap (λ b. cond b (get_or xs 0 4294967295) (follower xs i)) (ne_eqb x i (absent_head i x xs none)) ∙ follower_absent xs i (absent_tail i x xs none)

pub follower_split : (us : List ℕ) (i : ℕ) (vs : List ℕ) → times i us ≡ 0 → follower (us ++ i ∷ vs) i ≡ get_or vs 0 4294967295
follower_split [] i vs none = ap (λ b. cond b (get_or vs 0 4294967295) (follower vs i)) (eq-eqb i i refl)
follower_split (u ∷ us) i vs none =
    ap (λ b. cond b (get_or (us ++ i ∷ vs) 0 4294967295) (follower (us ++ i ∷ vs) i)) (ne_eqb u i (absent_head i u us none))
    ∙ follower_split us i vs (absent_tail i u us none)

-- the number at the end of a list
pub last_is : (xs : List ℕ) (i : ℕ) → slice_get (xs ++ i ∷ []) (length (xs ++ i ∷ []) - 1) ≡ Some i
last_is xs i =
    slice_get-get_or (xs ++ i ∷ []) (length (xs ++ i ∷ []) - 1) i (omega (arith, length_push xs i))
    ∙ ap (λ x. Some x) (get_or_push xs i i (length (xs ++ i ∷ []) - 1) (omega (arith, length_push xs i)))

reverse_split : (us : List ℕ) (i : ℕ) (vs : List ℕ) → reverse (us ++ i ∷ vs) ≡ reverse vs ++ i ∷ reverse us
reverse_split us i vs =
    reverse-append us (i ∷ vs) ∙ ap (λ zs. zs ++ reverse us) (reverse-append (i ∷ []) vs) ∙ append_assoc (reverse vs) (i ∷ []) (reverse us)

module _ (ns ps free order : List ℕ) (h : IsLinked ns ps free order) where
  -- ---- the ends
  first_link : (os : List ℕ) → order ≡ os → ((at ns 0 ≡ 1) × (os ≡ [])) ⊎ ((2 ≤ at ns 0) × (slice_get os 0 ≡ Some (at ns 0)))
  first_link [] e = inl ((subst (λ zs. Chain ns ps (0 ∷ zs ++ 1 ∷ [])) e h.chain).0, refl)
  first_link (o ∷ os) e =
      let to = (subst (λ zs. Chain ns ps (0 ∷ zs ++ 1 ∷ [])) e h.chain).0 in
      let low = (live_range ns ps free order h o (omega (arith, ap (times o) e, times_here o os))).0 in
      inr (omega (arith, low, to), ap (λ z. Some z) (sym to))

  last_link : (os : List ℕ) → order ≡ os → ((at ps 1 ≡ 0) × (os ≡ [])) ⊎ ((2 ≤ at ps 1) × (slice_get os (length os - 1) ≡ Some (at ps 1)))
  last_link [] e = inl ((subst (λ zs. Chain ns ps (0 ∷ zs ++ 1 ∷ [])) e h.chain).1, refl)
  last_link (o ∷ os) e =
      let s = last_split o os in
      let whole : 0 ∷ order ++ 1 ∷ [] ≡ (0 ∷ s.0) ++ s.1 ∷ 1 ∷ [] = ap (λ zs. 0 ∷ zs ++ 1 ∷ []) (e ∙ s.2) ∙ ap (λ zs. 0 ∷ zs) (append_assoc s.0 (s.1 ∷ []) (1 ∷ [])) in
      let two = chain_split ns ps (0 ∷ s.0) s.1 (1 ∷ []) (subst (Chain ns ps) whole h.chain) in
      let low = (live_range ns ps free order h s.1 (omega (arith, ap (times s.1) (e ∙ s.2), times-append s.1 s.0 (s.1 ∷ []), times_here s.1 []))).0 in
      inr (omega (arith, low, two.1.1), ap (λ zs. slice_get zs (length zs - 1)) s.2 ∙ last_is s.0 s.1 ∙ ap (λ z. Some z) (sym two.1.1))

  pub ends_first : ((at ns 0 ≡ 1) × (order ≡ [])) ⊎ ((2 ≤ at ns 0) × (slice_get order 0 ≡ Some (at ns 0)))
  ends_first = first_link order refl

  pub ends_last : ((at ps 1 ≡ 0) × (order ≡ [])) ⊎ ((2 ≤ at ps 1) × (slice_get order (length order - 1) ≡ Some (at ps 1)))
  ends_last = last_link order refl

  -- ---- the places behind and before
  out_of_ring : (i : ℕ) → times i (0 ∷ order ++ 1 ∷ []) ≡ 0 → i < length ns → at ns i ≡ 4294967295
  out_of_ring i none within =
      let not_head : 0 ≢ i = absent_head i 0 (order ++ 1 ∷ []) none in
      let not_tail : 1 ≢ i = absent_head i 1 [] (omega (arith, none, times-cons i 0 (order ++ 1 ∷ []), times-append i order (1 ∷ []))) in
      h.loose i (omega (arith, h.once i, once_within (length ns) i (omega arith) within, times-append i order free, ring_count i order (omega arith)))

  next_in_ring : (front : List ℕ) (i : ℕ) (back : List ℕ) → 0 ∷ order ++ 1 ∷ [] ≡ front ++ i ∷ back → at ns i ≡ get_or back 0 4294967295
  next_in_ring front i [] e =
      let is_tail = same_from_push (0 ∷ order) front 1 i e in
      ap (at ns) (sym is_tail.1) ∙ h.ends.1
  next_in_ring front i (b ∷ bs) e = (chain_split ns ps front i (b ∷ bs) (subst (Chain ns ps) e h.chain)).1.0

  pub next_place : (i : ℕ) → i < length ns → follower (0 ∷ order ++ 1 ∷ []) i ≡ at ns i
  next_place i within =
      elim (cases_lt 0 (times i (0 ∷ order ++ 1 ∷ []))) [
        | inl some ↦
            let f = found i (0 ∷ order ++ 1 ∷ []) (omega (arith, some)) in
            ap (λ zs. follower zs i) f.is ∙ follower_split f.front i f.back f.first ∙ sym (next_in_ring f.front i f.back f.is)
        | inr none ↦ follower_absent (0 ∷ order ++ 1 ∷ []) i (omega (arith, none)) ∙ sym (out_of_ring i (omega (arith, none)) within)
      ]

  -- a place in the ring is joined to the next
  joined : (front : List ℕ) (i : ℕ) (back : List ℕ) → 0 ∷ order ++ 1 ∷ [] ≡ front ++ i ∷ back → at ns i ≡ 4294967295 → i ≡ 1
  joined front i [] e null = sym (same_from_push (0 ∷ order) front 1 i e).1
  joined front i (b ∷ bs) e null =
      let to = next_in_ring front i (b ∷ bs) e in
      let b_in = ring_range ns ps free order h b (omega (arith, ap (times b) e, times-append b front (i ∷ b ∷ bs), times-cons b i (b ∷ bs), times_here b bs)) in
      absurd (omega (arith, to, null, b_in, h.few))

  -- what leads nowhere, and is not the tail, has no place before it
  pub prev_free : (i : ℕ) → at ns i ≡ 4294967295 → i ≢ 1 → follower (reverse (0 ∷ order ++ 1 ∷ [])) i ≡ 4294967295
  prev_free i null not_tail =
      elim (cases_lt 0 (times i (0 ∷ order ++ 1 ∷ []))) [
        | inl some ↦
            let f = found i (0 ∷ order ++ 1 ∷ []) (omega (arith, some)) in
            absurd (not_tail (joined f.front i f.back f.is null))
        | inr none ↦ follower_absent (reverse (0 ∷ order ++ 1 ∷ [])) i (times-reverse i (0 ∷ order ++ 1 ∷ []) ∙ omega (arith, none))
      ]

  prev_in_ring : (front : List ℕ) (i : ℕ) (back : List ℕ) → 0 ∷ order ++ 1 ∷ [] ≡ front ++ i ∷ back → at ps i ≡ get_or (reverse front) 0 4294967295
  prev_in_ring [] i back e = ap (at ps) (sym (ap (λ zs. get_or zs 0 0) e)) ∙ h.ends.0
  prev_in_ring (f ∷ fs) i back e =
      let s = last_split f fs in
      let whole : 0 ∷ order ++ 1 ∷ [] ≡ s.0 ++ s.1 ∷ i ∷ back = e ∙ ap (λ zs. zs ++ i ∷ back) s.2 ∙ append_assoc s.0 (s.1 ∷ []) (i ∷ back) in
      let two = chain_split ns ps s.0 s.1 (i ∷ back) (subst (Chain ns ps) whole h.chain) in
      two.1.1 ∙ sym (ap (λ zs. get_or (reverse zs) 0 4294967295) s.2 ∙ ap (λ zs. get_or zs 0 4294967295) (reverse_split s.0 s.1 []))

  -- what leads somewhere, or is the tail, has its prev link's place before it
  pub prev_place : (i : ℕ) → i < length ns → (at ns i ≢ 4294967295) ⊎ (i ≡ 1) → follower (reverse (0 ∷ order ++ 1 ∷ [])) i ≡ at ps i
  prev_place i within joined_to =
      elim (cases_lt 0 (times i (0 ∷ order ++ 1 ∷ []))) [
        | inl some ↦
            let f = found i (0 ∷ order ++ 1 ∷ []) (omega (arith, some)) in
            let once = ring_once ns ps free order h i in
            let behind : times i (reverse f.back) ≡ 0 = times-reverse i f.back ∙ omega (arith, once, ap (times i) f.is, times-append i f.front (i ∷ f.back), times_here i f.back) in
            ap (λ zs. follower (reverse zs) i) f.is ∙ ap (λ zs. follower zs i) (reverse_split f.front i f.back)
            ∙ follower_split (reverse f.back) i (reverse f.front) behind ∙ sym (prev_in_ring f.front i f.back f.is)
        | inr none ↦
            let gone : times i (0 ∷ order ++ 1 ∷ []) ≡ 0 = omega (arith, none) in
            elim joined_to [
              | inl ne ↦ absurd (ne (out_of_ring i gone within))
              | inr tail ↦ absurd (absent_head i 1 [] (omega (arith, gone, times-cons i 0 (order ++ 1 ∷ []), times-append i order (1 ∷ []))) (sym tail))
            ]
      ]

module _ {K : Type 0} (ns : List (Node K)) (top len : ℕ) (h : IsList ns top len) where
  ring_is : ring (linked_of ns top len) ≡ 0 ∷ order_of ns len ++ 1 ∷ []
  ring_is = ap (λ zs. 0 ∷ zs ++ 1 ∷ []) (live_indices ns top len h)

  pub next_is : (i : ℕ) → i < length ns → next_of (linked_of ns top len) i ≡ at (nexts ns) i
  next_is i within =
      ap (λ zs. follower zs i) ring_is ∙ next_place (nexts ns) (prevs ns) (stack_of ns top len) (order_of ns len) h.linked i (omega (arith, within, length-nexts ns))

  pub prev_none : (i : ℕ) → at (nexts ns) i ≡ 4294967295 → i ≢ 1 → prev_of (linked_of ns top len) i ≡ 4294967295
  prev_none i null not_tail =
      ap (λ zs. follower (reverse zs) i) ring_is ∙ prev_free (nexts ns) (prevs ns) (stack_of ns top len) (order_of ns len) h.linked i null not_tail

  pub prev_is : (i : ℕ) → i < length ns → (at (nexts ns) i ≢ 4294967295) ⊎ (i ≡ 1) → prev_of (linked_of ns top len) i ≡ at (prevs ns) i
  prev_is i within joined_to =
      ap (λ zs. follower (reverse zs) i) ring_is
      ∙ prev_place (nexts ns) (prevs ns) (stack_of ns top len) (order_of ns len) h.linked i (omega (arith, within, length-nexts ns)) joined_to

  pub head_is : ((at (nexts ns) 0 ≡ 1) × (head_of (linked_of ns top len) ≡ None)) ⊎ ((2 ≤ at (nexts ns) 0) × (head_of (linked_of ns top len) ≡ Some (at (nexts ns) 0)))
  head_is =
      elim (ends_first (nexts ns) (prevs ns) (stack_of ns top len) (order_of ns len) h.linked) [
        | inl e ↦ inl (e.0, ap (λ zs. slice_get zs 0) (live_indices ns top len h ∙ e.1))
        | inr e ↦ inr (e.0, ap (λ zs. slice_get zs 0) (live_indices ns top len h) ∙ e.1)
      ]

  same_length : length (linked_of ns top len).live ≡ length (order_of ns len)
  same_length = length-live ns top len h ∙ sym (length-order ns top len h)

  pub tail_is : ((at (prevs ns) 1 ≡ 0) × (tail_of (linked_of ns top len) ≡ None)) ⊎ ((2 ≤ at (prevs ns) 1) × (tail_of (linked_of ns top len) ≡ Some (at (prevs ns) 1)))
  tail_is =
      let at_last = ap (λ n. slice_get (indices_of (linked_of ns top len).live) (n - 1)) same_length ∙ ap (λ zs. slice_get zs (length (order_of ns len) - 1)) (live_indices ns top len h) in
      elim (ends_last (nexts ns) (prevs ns) (stack_of ns top len) (order_of ns len) h.linked) [
        | inl e ↦ inl (e.0, at_last ∙ ap (λ zs. slice_get zs (length (order_of ns len) - 1)) e.1)
        | inr e ↦ inr (e.0, at_last ∙ e.1)
      ]

  -- ---- items
  all_pairs : (i : ℕ) → item_at (linked_of ns top len) i ≡ item_of (pairs (items ns) (order_of ns len ++ stack_of ns top len)) i
  all_pairs i = ap (λ zs. item_of zs i) (sym (pairs-append (items ns) (order_of ns len) (stack_of ns top len)))

  pub item_there : (i : ℕ) (x : K) → 2 ≤ i → i < length ns → slice_get (items ns) i ≡ Some x → item_at (linked_of ns top len) i ≡ Some x
  item_there i x low high e =
      let places = order_of ns len ++ stack_of ns top len in
      all_pairs i ∙ item_found (items ns) i places (found i places (omega (arith, h.linked.once i, once_within (length (nexts ns)) i low (omega (arith, high, length-nexts ns))))) x e

  pub item_below : (i : ℕ) → i < 2 → item_at (linked_of ns top len) i ≡ None
  item_below i low = all_pairs i ∙ item_absent (items ns) i (order_of ns len ++ stack_of ns top len) (h.linked.once i ∙ once_below (length (nexts ns)) i low)

  pub item_past : (i : ℕ) → length ns ≤ i → item_at (linked_of ns top len) i ≡ None
  item_past i high =
      all_pairs i ∙ item_absent (items ns) i (order_of ns len ++ stack_of ns top len) (h.linked.once i ∙ once_past (length (nexts ns)) i (omega (arith, high, length-nexts ns)))
