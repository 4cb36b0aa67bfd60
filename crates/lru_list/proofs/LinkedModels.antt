-- Laws of a list as it is seen.
use Rattle.std.proofs.Common.{◌≡◌, ℕ, ◌+◌, ◌-◌, cond, not, eqb, List, [], ◌∷◌, ◌++◌, length, Some, None, refl, sym, ap, ◌∙◌, arith}
use Rattle.std.specs.Prelude.{slice_get, option_map, find, is_some}
use Rattle.std.proofs.lemmas.List.{map-append, length-map}
use Rattle.std.proofs.lemmas.Bool.{eq-eqb, ne_eqb}
use Rattle.std.proofs.lemmas.Option.{none-some, same_Some}
use Rattle.lru_list.specs.Linked.{Linked, linked, times, indices_of, item_of, without, tail_of, IsLive, IsNumbered, made, Removes, PopsTail}
use Rattle.lru_list.proofs.Chains.{times-append, times_here, absent_head, absent_tail}
use Rattle.lru_list.proofs.Splices.{once_in_le}
use Rattle.lru_list.proofs.LinkedReads.{last_is}

module _ {K : Type 0} where
  pair_split : (p : ℕ × K) (ps : List (ℕ × K)) → (front : List (ℕ × K)) × (q : ℕ × K) × (p ∷ ps ≡ front ++ q ∷ [])
  pair_split p [] = ([], p, refl)
  pair_split p (q ∷ ps) = let r = pair_split q ps in (p ∷ r.0, r.1, ap (λ zs. p ∷ zs) r.2)

  item_last : (front : List (ℕ × K)) (q : ℕ × K) → times q.0 (indices_of front) ≡ 0 → item_of (front ++ q ∷ []) q.0 ≡ Some q.1
  item_last [] q none = ap (λ b. option_map (λ (p : ℕ × K). p.1) (cond b (Some q) None)) (eq-eqb q.0 q.0 refl)
  item_last (p ∷ ps) q none =
      ap (λ b. option_map (λ (z : ℕ × K). z.1) (cond b (Some p) (find (λ z. eqb z.0 q.0) (ps ++ q ∷ [])))) (ne_eqb p.0 q.0 (absent_head q.0 p.0 (indices_of ps) none))
      ∙ item_last ps q (absent_tail q.0 p.0 (indices_of ps) none)

  without_last : (front : List (ℕ × K)) (q : ℕ × K) → times q.0 (indices_of front) ≡ 0 → without (front ++ q ∷ []) q.0 ≡ front
  without_last [] q none = ap (λ b. cond (not b) (q ∷ []) []) (eq-eqb q.0 q.0 refl)
  without_last (p ∷ ps) q none =
      ap (λ b. cond (not b) (p ∷ without (ps ++ q ∷ []) q.0) (without (ps ++ q ∷ []) q.0)) (ne_eqb p.0 q.0 (absent_head q.0 p.0 (indices_of ps) none))
      ∙ ap (λ zs. p ∷ zs) (without_last ps q (absent_tail q.0 p.0 (indices_of ps) none))

  -- the last item of a list that has a tail
  pub record Last (l : Linked K) (i : ℕ) : Type 0 where
    pub rest : List (ℕ × K)
    pub item : K
    pub live_is : l.live ≡ rest ++ (i, item) ∷ []
    pub item_is : item_of l.live i ≡ Some item
    pub rest_is : without l.live i ≡ rest

  pub last_item : (l : Linked K) (i : ℕ) → IsNumbered l → tail_of l ≡ Some i → Last l i
  last_item l i numbered tail = at_end l.live refl
    where
      at_end : (ps : List (ℕ × K)) → l.live ≡ ps → Last l i
      at_end [] e = absurd (none-some i (sym (ap (λ zs. slice_get (indices_of zs) (length zs - 1)) e) ∙ tail))
      at_end (p ∷ ps) e =
          let s = pair_split p ps in
          let whole : l.live ≡ s.0 ++ s.1 ∷ [] = e ∙ s.2 in
          let indices : indices_of l.live ≡ indices_of s.0 ++ s.1.0 ∷ [] = ap indices_of whole ∙ map-append (λ (z : ℕ × K). z.0) s.0 (s.1 ∷ []) in
          let same : length l.live ≡ length (indices_of s.0 ++ s.1.0 ∷ []) = sym (length-map l.live (λ (z : ℕ × K). z.0)) ∙ ap length indices in
          let is_last : tail_of l ≡ Some s.1.0 = ap (λ zs. slice_get zs (length l.live - 1)) indices ∙ ap (λ n. slice_get (indices_of s.0 ++ s.1.0 ∷ []) (n - 1)) same ∙ last_is (indices_of s.0) s.1.0 in
          let here : s.1.0 ≡ i = same_Some s.1.0 i (sym is_last ∙ tail) in
          let none : times s.1.0 (indices_of s.0) ≡ 0 = omega (
            arith,
            numbered s.1.0,
            once_in_le (made l + 2) s.1.0,
            times-append s.1.0 (indices_of l.live) (indices_of l.freed),
            ap (times s.1.0) indices,
            times-append s.1.0 (indices_of s.0) (s.1.0 ∷ []),
            times_here s.1.0 [],
          ) in
          record {
            rest = s.0;
            item = s.1.1;
            live_is = whole ∙ ap (λ j. s.0 ++ (j, s.1.1) ∷ []) here;
            item_is = ap (λ zs. item_of zs i) whole ∙ ap (item_of (s.0 ++ s.1 ∷ [])) (sym here) ∙ item_last s.0 s.1 none;
            rest_is = ap (λ zs. without zs i) whole ∙ ap (without (s.0 ++ s.1 ∷ [])) (sym here) ∙ without_last s.0 s.1 none;
          }

  pub tail_live : (l : Linked K) (i : ℕ) → IsNumbered l → tail_of l ≡ Some i → IsLive l i
  tail_live l i numbered tail = ap is_some (last_item l i numbered tail).item_is

  -- the removal of the tail
  pub popped : (IsBlank : K → Type 0) (l : Linked K) (i : ℕ) (x : K) (new : Linked K) → IsNumbered l → tail_of l ≡ Some i → Removes IsBlank l i x new → PopsTail IsBlank l (Some x) new
  popped IsBlank l i x new numbered tail r =
      let e = last_item l i numbered tail in
      let same : e.item ≡ x = same_Some e.item x (sym e.item_is ∙ r.0) in
      let b = r.1 in
      (e.rest, i, e.live_is ∙ ap (λ z. e.rest ++ (i, z) ∷ []) same, (b.0, b.1, b.2 ∙ ap (λ zs. linked zs ((i, b.0) ∷ l.freed)) e.rest_is))

  -- a list without a tail is empty
  pub no_tail : (l : Linked K) → tail_of l ≡ None → l.live ≡ []
  no_tail l tail = at_end l.live refl
    where
      at_end : (ps : List (ℕ × K)) → l.live ≡ ps → l.live ≡ []
      at_end [] e = e
      at_end (p ∷ ps) e =
          let s = pair_split p ps in
          let indices : indices_of l.live ≡ indices_of s.0 ++ s.1.0 ∷ [] = ap indices_of (e ∙ s.2) ∙ map-append (λ (z : ℕ × K). z.0) s.0 (s.1 ∷ []) in
          let same : length l.live ≡ length (indices_of s.0 ++ s.1.0 ∷ []) = sym (length-map l.live (λ (z : ℕ × K). z.0)) ∙ ap length indices in
          let is_last : tail_of l ≡ Some s.1.0 = ap (λ zs. slice_get zs (length l.live - 1)) indices ∙ ap (λ n. slice_get (indices_of s.0 ++ s.1.0 ∷ []) (n - 1)) same ∙ last_is (indices_of s.0) s.1.0 in
          absurd (none-some s.1.0 (sym tail ∙ is_last))
