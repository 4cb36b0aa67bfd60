-- Laws of places with their items.
use Rattle.std.proofs.Common.{◌≡◌, ◌≢◌, ℕ, ◌<◌, ◌≤◌, cond, not, eqb, List, [], ◌∷◌, ◌++◌, length, set, suc, zero, Some, None, refl, sym, ap, ◌∙◌, arith, append_assoc}
use Rattle.std.specs.Prelude.{Option, slice_get, option_map, option_to_list, find}
use Rattle.std.proofs.lemmas.Bool.{eq-eqb, ne_eqb}
use Rattle.lru_list.specs.Linked.{times, without, indices_of, item_of}
use Rattle.lru_list.specs.Representation.Nodes.{pairs}
use Rattle.lru_list.proofs.Chains.{times-cons, times_here, absent_head, absent_tail, Found}

module _ {K : Type 0} where
  -- a place with its item, if there is one
  abbrev pub pair_of : ℕ → Option K → List (ℕ × K)
  pair_of i o = option_to_list (option_map (λ x. (i, x)) o)

  pub pairs-append : (xs : List K) (us vs : List ℕ) → pairs xs (us ++ vs) ≡ pairs xs us ++ pairs xs vs
  pairs-append xs [] vs = refl
  pairs-append xs (u ∷ us) vs =
      ap (λ zs. pair_of u (slice_get xs u) ++ zs) (pairs-append xs us vs) ∙ sym (append_assoc (pair_of u (slice_get xs u)) (pairs xs us) (pairs xs vs))

  pub slice_get-set_other : (xs : List K) (i j : ℕ) (x : K) → j ≢ i → slice_get (set xs i x) j ≡ slice_get xs j
  slice_get-set_other [] i j x ne = refl
  slice_get-set_other (y ∷ xs) zero zero x ne = absurd (ne refl)
  slice_get-set_other (y ∷ xs) zero (suc j) x ne = refl
  slice_get-set_other (y ∷ xs) (suc i) zero x ne = refl
  slice_get-set_other (y ∷ xs) (suc i) (suc j) x ne = slice_get-set_other xs i j x (λ e. ne (ap suc e))

  pub slice_get-set_same : (xs : List K) (i : ℕ) (x : K) → i < length xs → slice_get (set xs i x) i ≡ Some x
  slice_get-set_same [] i x within = absurd (omega (arith, within))
  slice_get-set_same (y ∷ xs) zero x within = refl
  slice_get-set_same (y ∷ xs) (suc i) x within = slice_get-set_same xs i x (omega (arith, within))

  pub slice_get_push : (xs : List K) (x : K) → slice_get (xs ++ x ∷ []) (length xs) ≡ Some x
  slice_get_push [] x = refl
  slice_get_push (y ∷ xs) x = slice_get_push xs x

  pub slice_get-append_left : (xs ys : List K) (i : ℕ) → i < length xs → slice_get (xs ++ ys) i ≡ slice_get xs i
  slice_get-append_left [] ys i within = absurd (omega (arith, within))
  slice_get-append_left (y ∷ xs) ys zero within = refl
  slice_get-append_left (y ∷ xs) ys (suc i) within = slice_get-append_left xs ys i (omega (arith, within))

  pub some_at : (xs : List K) (i : ℕ) → i < length xs → (x : K) × (slice_get xs i ≡ Some x)
  some_at [] i within = absurd (omega (arith, within))
  some_at (x ∷ xs) zero within = (x, refl)
  some_at (x ∷ xs) (suc i) within = some_at xs i (omega (arith, within))

  -- items that are read alike make the same pairs
  pub pairs_same : (xs ys : List K) (places : List ℕ) → ((j : ℕ) → 1 ≤ times j places → slice_get ys j ≡ slice_get xs j) → pairs ys places ≡ pairs xs places
  pairs_same xs ys [] h = refl
  pairs_same xs ys (u ∷ us) h =
      ap (λ o. pair_of u o ++ pairs ys us) (h u (omega (arith, times_here u us)))
      ∙ ap (λ zs. pair_of u (slice_get xs u) ++ zs) (pairs_same xs ys us (λ j l. h j (omega (arith, l, times-cons j u us))))

  pub pairs_elsewhere : (xs : List K) (i : ℕ) (x : K) (places : List ℕ) → times i places ≡ 0 → pairs (set xs i x) places ≡ pairs xs places
  pairs_elsewhere xs i x [] none = refl
  pairs_elsewhere xs i x (u ∷ us) none =
      ap (λ o. pair_of u o ++ pairs (set xs i x) us) (slice_get-set_other xs i u x (absent_head i u us none))
      ∙ ap (λ zs. pair_of u (slice_get xs u) ++ zs) (pairs_elsewhere xs i x us (absent_tail i u us none))

  pub pairs_first : (xs : List K) (i : ℕ) (x : K) (us : List ℕ) → slice_get xs i ≡ Some x → pairs xs (i ∷ us) ≡ (i, x) ∷ pairs xs us
  pairs_first xs i x us e = ap (λ o. pair_of i o ++ pairs xs us) e

  -- ---- the pairs of other indices
  without_other : (u i : ℕ) (o : Option K) (rest : List (ℕ × K)) → u ≢ i → without (pair_of u o ++ rest) i ≡ pair_of u o ++ without rest i
  without_other u i None rest ne = refl
  without_other u i (Some x) rest ne = ap (λ b. cond (not b) ((u, x) ∷ without rest i) (without rest i)) (ne_eqb u i ne)

  without_same : (i : ℕ) (o : Option K) (rest : List (ℕ × K)) → without (pair_of i o ++ rest) i ≡ without rest i
  without_same i None rest = refl
  without_same i (Some x) rest = ap (λ b. cond (not b) ((i, x) ∷ without rest i) (without rest i)) (eq-eqb i i refl)

  without_absent : (xs : List K) (i : ℕ) (places : List ℕ) → times i places ≡ 0 → without (pairs xs places) i ≡ pairs xs places
  without_absent xs i [] none = refl
  without_absent xs i (u ∷ us) none =
      without_other u i (slice_get xs u) (pairs xs us) (absent_head i u us none)
      ∙ ap (λ zs. pair_of u (slice_get xs u) ++ zs) (without_absent xs i us (absent_tail i u us none))

  pub without_pairs : (xs : List K) (i : ℕ) (us vs : List ℕ) → times i us ≡ 0 → times i vs ≡ 0 → without (pairs xs (us ++ i ∷ vs)) i ≡ pairs xs (us ++ vs)
  without_pairs xs i [] vs none none' = without_same i (slice_get xs i) (pairs xs vs) ∙ without_absent xs i vs none'
  without_pairs xs i (u ∷ us) vs none none' =
      without_other u i (slice_get xs u) (pairs xs (us ++ i ∷ vs)) (absent_head i u us none)
      ∙ ap (λ zs. pair_of u (slice_get xs u) ++ zs) (without_pairs xs i us vs (absent_tail i u us none) none')

  -- ---- the item of an index
  item_other : (u i : ℕ) (o : Option K) (rest : List (ℕ × K)) → u ≢ i → item_of (pair_of u o ++ rest) i ≡ item_of rest i
  item_other u i None rest ne = refl
  item_other u i (Some x) rest ne = ap (λ b. option_map (λ (p : ℕ × K). p.1) (cond b (Some (u, x)) (find (λ p. eqb p.0 i) rest))) (ne_eqb u i ne)

  item_same : (i : ℕ) (x : K) (rest : List (ℕ × K)) → item_of ((i, x) ∷ rest) i ≡ Some x
  item_same i x rest = ap (λ b. option_map (λ (p : ℕ × K). p.1) (cond b (Some (i, x)) (find (λ p. eqb p.0 i) rest))) (eq-eqb i i refl)

  pub item_absent : (xs : List K) (i : ℕ) (places : List ℕ) → times i places ≡ 0 → item_of (pairs xs places) i ≡ None
  item_absent xs i [] none = refl
  item_absent xs i (u ∷ us) none = item_other u i (slice_get xs u) (pairs xs us) (absent_head i u us none) ∙ item_absent xs i us (absent_tail i u us none)

  item_split : (xs : List K) (i : ℕ) (us vs : List ℕ) (x : K) → times i us ≡ 0 → slice_get xs i ≡ Some x → item_of (pairs xs (us ++ i ∷ vs)) i ≡ Some x
  item_split xs i [] vs x none e = ap (λ o. item_of (pair_of i o ++ pairs xs vs) i) e ∙ item_same i x (pairs xs vs)
  item_split xs i (u ∷ us) vs x none e =
      item_other u i (slice_get xs u) (pairs xs (us ++ i ∷ vs)) (absent_head i u us none) ∙ item_split xs i us vs x (absent_tail i u us none) e

  pub item_found : (xs : List K) (i : ℕ) (places : List ℕ) (f : Found i places) (x : K) → slice_get xs i ≡ Some x → item_of (pairs xs places) i ≡ Some x
  item_found xs i places f x e = ap (λ ps. item_of (pairs xs ps) i) f.is ∙ item_split xs i f.front f.back x f.first e

  -- places in range are the indices of their pairs
  pub indices-pairs : (xs : List K) (places : List ℕ) → ((j : ℕ) → 1 ≤ times j places → j < length xs) → indices_of (pairs xs places) ≡ places
  indices-pairs xs [] h = refl
  indices-pairs xs (u ∷ us) h =
      let s = some_at xs u (h u (omega (arith, times_here u us))) in
      ap indices_of (pairs_first xs u s.0 us s.1) ∙ ap (λ zs. u ∷ zs) (indices-pairs xs us (λ j l. h j (omega (arith, l, times-cons j u us))))
