-- Laws of the rows that an order and its columns stand for.
use Rattle.std.proofs.Common.{◌≡◌, ◌≢◌, ℕ, ◌<◌, ◌≤◌, cond, not, eqb, List, [], ◌∷◌, ◌++◌, length, map, get_or, set, Some, None, refl, sym, ap, ◌∙◌, subst, inl, inr, arith}
use Rattle.std.specs.Prelude.{Option}
use Rattle.std.specs.Option.{option_map, option_map_or}
use Rattle.std.specs.List.{cons_option}
use Rattle.std.proofs.lemmas.Bool.{cond_both, cases_eq, eq-eqb, ne_eqb, eqb-true, eqb-false, not-true, not-false}
use Rattle.std.proofs.lemmas.List.{get_or-set_same, get_or-set_other}
use Rattle.std.proofs.lemmas.List.Elements.{filter_map-append}
use Rattle.lru_list.specs.Linked.{item_of, indices_of, times, without as list_without}
use Rattle.lru_list.proofs.Chains.{times_here, times_other}
use Rattle.lru_list.proofs.LinkedLaws.{item_of_same, item_of_other}
use Rattle.lru_rows.specs.Rows.{Placed, placed, row_at, without, promoted, demoted, with_weight, with_value}
use Rattle.lru_rows.specs.Representation.Columns.{value_at, row_in, rows_in}
use Rattle.lru_rows.proofs.Orders.{by_place}

pub some_of : {A : Type 0} (a b : A) → Some a ≡ Some b → a ≡ b
some_of a b e = cc

-- what stands in a list stands in a longer one
pub stands_behind : (x : ℕ) (xs : List ℕ) (q : ℕ) → 1 ≤ times q xs → 1 ≤ times q (x ∷ xs)
stands_behind x xs q h =
    elim (cases_eq x q) [
      | inl e ↦ subst (λ z. 1 ≤ times z (x ∷ xs)) e (omega (arith, times_here x xs))
      | inr ne ↦ omega (arith, h, times_other q x xs ne)
    ]

-- by whether a place has data
pub by_value : {T P : Type 0} (values : List (Option T)) (p : ℕ) → (value_at values p ≡ None → P) → ((d : T) → value_at values p ≡ Some d → P) → P
by_value {T} {P} values p none some = from (value_at values p) refl
  where
    from : (o : Option T) → value_at values p ≡ o → P
    from None e = none e
    from (Some d) e = some d e

module _ {K T : Type 0} where
  -- the rows without a place's, by the two cases of the first
  pub by_row : (i : ℕ) (r : Placed K T) (rs : List (Placed K T)) (P : List (Placed K T) → Type 0) → (r.place ≡ i → P (without rs i)) → (r.place ≢ i → P (r ∷ without rs i)) → P (without (r ∷ rs) i)
  by_row i r rs P here other =
      cond_both (not (eqb r.place i)) (r ∷ without rs i) (without rs i) P (λ e. other (eqb-false _ _ (not-true _ e))) (λ e. here (eqb-true _ _ (not-false _ e)))

  pub without_here : (i : ℕ) (r : Placed K T) (rs : List (Placed K T)) → r.place ≡ i → without (r ∷ rs) i ≡ without rs i
  without_here i r rs e = by_row i r rs (λ xs. xs ≡ without rs i) (λ f. refl) (λ ne. absurd (ne e))

  pub without_other : (i : ℕ) (r : Placed K T) (rs : List (Placed K T)) → r.place ≢ i → without (r ∷ rs) i ≡ r ∷ without rs i
  without_other i r rs ne = by_row i r rs (λ xs. xs ≡ r ∷ without rs i) (λ f. absurd (ne f)) (λ _. refl)

  pub row_at_here : (r : Placed K T) (rs : List (Placed K T)) (p : ℕ) → r.place ≡ p → row_at (r ∷ rs) p ≡ Some r
  row_at_here r rs p e = ap (λ b. cond b (Some r) (row_at rs p)) (eq-eqb r.place p e)

  pub row_at_other : (r : Placed K T) (rs : List (Placed K T)) (p : ℕ) → r.place ≢ p → row_at (r ∷ rs) p ≡ row_at rs p
  row_at_other r rs p ne = ap (λ b. cond b (Some r) (row_at rs p)) (ne_eqb r.place p ne)

  module _ (weights : List ℕ) (values : List (Option T)) where
    -- each place of these pairs has its data
    abbrev pub Held : List (ℕ × K) → Type 0
    Held live = (p : ℕ) → 1 ≤ times p (indices_of live) → (d : T) × (value_at values p ≡ Some d)

    pub held_tail : (p : ℕ × K) (ps : List (ℕ × K)) → Held (p ∷ ps) → Held ps
    held_tail p ps h q there = h q (stands_behind p.0 (indices_of ps) q there)

    pub held_head : (p : ℕ × K) (ps : List (ℕ × K)) → Held (p ∷ ps) → (d : T) × (value_at values p.0 ≡ Some d)
    held_head p ps h = h p.0 (omega (arith, times_here p.0 (indices_of ps)))

    pub rows-cons : (p : ℕ × K) (ps : List (ℕ × K)) (d : T) → value_at values p.0 ≡ Some d → rows_in weights values (p ∷ ps) ≡ placed p.0 p.1 d (get_or weights p.0 0) ∷ rows_in weights values ps
    rows-cons p ps d e = ap (λ o. cons_option (option_map (λ x. placed p.0 p.1 x (get_or weights p.0 0)) o) (rows_in weights values ps)) e

    pub rows-skip : (p : ℕ × K) (ps : List (ℕ × K)) → value_at values p.0 ≡ None → rows_in weights values (p ∷ ps) ≡ rows_in weights values ps
    rows-skip p ps e = ap (λ o. cons_option (option_map (λ x. placed p.0 p.1 x (get_or weights p.0 0)) o) (rows_in weights values ps)) e

    pub rows-append : (ps qs : List (ℕ × K)) → rows_in weights values (ps ++ qs) ≡ rows_in weights values ps ++ rows_in weights values qs
    rows-append ps qs = filter_map-append (row_in weights values) ps qs

    -- the pairs without a place's are the rows without it
    pub rows-without : (live : List (ℕ × K)) (i : ℕ) → rows_in weights values (list_without live i) ≡ without (rows_in weights values live) i
    rows-without [] i = refl
    rows-without (p ∷ ps) i =
        by_value values p.0
        (λ none. by_place i p ps (λ rest. rows_in weights values rest ≡ without (rows_in weights values (p ∷ ps)) i)
        (λ e. rows-without ps i ∙ ap (λ rs. without rs i) (sym (rows-skip p ps none)))
        (λ ne. rows-skip p (list_without ps i) none ∙ rows-without ps i ∙ ap (λ rs. without rs i) (sym (rows-skip p ps none))))
        (λ d some. by_place i p ps (λ rest. rows_in weights values rest ≡ without (rows_in weights values (p ∷ ps)) i)
        (λ e. rows-without ps i ∙ sym (without_here i (placed p.0 p.1 d (get_or weights p.0 0)) (rows_in weights values ps) e) ∙ ap (λ rs. without rs i) (sym (rows-cons p ps d some)))
        (λ ne. rows-cons p (list_without ps i) d some ∙ ap (λ rs. placed p.0 p.1 d (get_or weights p.0 0) ∷ rs) (rows-without ps i)
        ∙ sym (without_other i (placed p.0 p.1 d (get_or weights p.0 0)) (rows_in weights values ps) ne) ∙ ap (λ rs. without rs i) (sym (rows-cons p ps d some))))

    -- the row of a place is that of its key
    pub row_found : (live : List (ℕ × K)) (i : ℕ) (k : K) (d : T) → item_of live i ≡ Some k → value_at values i ≡ Some d → Held live → row_at (rows_in weights values live) i ≡ Some (placed i k d (get_or weights i 0))
    row_found [] i k d found value held = absurd (is_none k found)
      where
        is_none : (x : K) → None ≡ Some x → ⊥
        is_none x e = cc
    row_found (p ∷ ps) i k d found value held =
        let v = held_head p ps held in
        ap (λ rs. row_at rs i) (rows-cons p ps v.0 v.1)
        ∙ elim (cases_eq p.0 i) [
          | inl e ↦
              let key : p.1 ≡ k = some_of p.1 k (sym (item_of_same p ps i e) ∙ found) in
              let val : v.0 ≡ d = some_of v.0 d (sym v.1 ∙ ap (value_at values) e ∙ value) in
              row_at_here (placed p.0 p.1 v.0 (get_or weights p.0 0)) (rows_in weights values ps) i e
              ∙ ap (λ q. Some (placed q p.1 v.0 (get_or weights q 0))) e ∙ ap (λ x. Some (placed i x v.0 (get_or weights i 0))) key ∙ ap (λ x. Some (placed i k x (get_or weights i 0))) val
          | inr ne ↦
              row_at_other (placed p.0 p.1 v.0 (get_or weights p.0 0)) (rows_in weights values ps) i ne
              ∙ row_found ps i k d (sym (item_of_other p ps i ne) ∙ found) value (held_tail p ps held)
        ]

    -- a place without a key has no row
    pub row_missing : (live : List (ℕ × K)) (i : ℕ) → item_of live i ≡ None → row_at (rows_in weights values live) i ≡ None
    row_missing [] i none = refl
    row_missing (p ∷ ps) i none =
        elim (cases_eq p.0 i) [
          | inl e ↦ absurd (is_none p.1 (sym none ∙ item_of_same p ps i e))
          | inr ne ↦
              let rest = row_missing ps i (sym (item_of_other p ps i ne) ∙ none) in
              by_value values p.0 (λ skip. ap (λ rs. row_at rs i) (rows-skip p ps skip) ∙ rest)
              (λ d some. ap (λ rs. row_at rs i) (rows-cons p ps d some) ∙ row_at_other (placed p.0 p.1 d (get_or weights p.0 0)) (rows_in weights values ps) i ne ∙ rest)
        ]
      where
        is_none : (x : K) → None ≡ Some x → ⊥
        is_none x e = cc

    -- the rows' places are the order's
    pub places-rows : (live : List (ℕ × K)) → Held live → map (λ (r : Placed K T). r.place) (rows_in weights values live) ≡ indices_of live
    places-rows [] held = refl
    places-rows (p ∷ ps) held =
        let v = held_head p ps held in
        ap (map (λ (r : Placed K T). r.place)) (rows-cons p ps v.0 v.1) ∙ ap (λ is. p.0 ∷ is) (places-rows ps (held_tail p ps held))

    pub length-rows : (live : List (ℕ × K)) → Held live → length (rows_in weights values live) ≡ length live
    length-rows [] held = refl
    length-rows (p ∷ ps) held =
        let v = held_head p ps held in
        ap length (rows-cons p ps v.0 v.1) ∙ omega (arith, length-rows ps (held_tail p ps held))

    -- the row at a place goes first where its pair does
    pub rows-first : (live : List (ℕ × K)) (i : ℕ) (k : K) (d : T) → item_of live i ≡ Some k → value_at values i ≡ Some d → Held live → rows_in weights values ((i, k) ∷ list_without live i) ≡ promoted (rows_in weights values live) i
    rows-first live i k d found value held =
        rows-cons (i, k) (list_without live i) d value
        ∙ ap (λ rs. placed i k d (get_or weights i 0) ∷ rs) (rows-without live i)
        ∙ ap (λ o. option_map_or (λ r. r ∷ without (rows_in weights values live) i) o (rows_in weights values live)) (sym (row_found live i k d found value held))

    -- and last where that does
    pub rows-last : (live : List (ℕ × K)) (i : ℕ) (k : K) (d : T) → item_of live i ≡ Some k → value_at values i ≡ Some d → Held live → rows_in weights values (list_without live i ++ (i, k) ∷ []) ≡ demoted (rows_in weights values live) i
    rows-last live i k d found value held =
        rows-append (list_without live i) ((i, k) ∷ [])
        ∙ ap (λ rs. rs ++ rows_in weights values ((i, k) ∷ [])) (rows-without live i)
        ∙ ap (λ rs. without (rows_in weights values live) i ++ rs) (rows-cons (i, k) [] d value)
        ∙ ap (λ o. option_map_or (λ r. without (rows_in weights values live) i ++ r ∷ []) o (rows_in weights values live)) (sym (row_found live i k d found value held))

  -- columns that agree on the places of an order stand for the same rows
  pub rows-same : (weights weights' : List ℕ) (values values' : List (Option T)) (live : List (ℕ × K)) →
      ((p : ℕ) → 1 ≤ times p (indices_of live) → get_or weights' p 0 ≡ get_or weights p 0) → ((p : ℕ) → 1 ≤ times p (indices_of live) → value_at values' p ≡ value_at values p) →
      rows_in weights' values' live ≡ rows_in weights values live
  rows-same weights weights' values values' [] same_w same_v = refl
  rows-same weights weights' values values' (p ∷ ps) same_w same_v =
      let there : 1 ≤ times p.0 (p.0 ∷ indices_of ps) = omega (arith, times_here p.0 (indices_of ps)) in
      let row : row_in weights' values' p ≡ row_in weights values p =
      ap (λ w. option_map (λ d. placed p.0 p.1 d w) (value_at values' p.0)) (same_w p.0 there)
      ∙ ap (λ o. option_map (λ d. placed p.0 p.1 d (get_or weights p.0 0)) o) (same_v p.0 there) in
      let more : (q : ℕ) → 1 ≤ times q (indices_of ps) → 1 ≤ times q (p.0 ∷ indices_of ps) = λ q h. stands_behind p.0 (indices_of ps) q h in
      ap (λ o. cons_option o (rows_in weights' values' ps)) row
      ∙ ap (cons_option (row_in weights values p)) (rows-same weights weights' values values' ps (λ q h. same_w q (more q h)) (λ q h. same_v q (more q h)))

  -- a weight is written
  pub rows-weight : (weights : List ℕ) (values : List (Option T)) (i w : ℕ) → i < length weights → (live : List (ℕ × K)) →
      rows_in (set weights i w) values live ≡ with_weight (rows_in weights values live) i w
  rows-weight weights values i w within [] = refl
  rows-weight weights values i w within (p ∷ ps) =
      let rest = rows-weight weights values i w within ps in
      by_value values p.0
      (λ none. rows-skip (set weights i w) values p ps none ∙ rest ∙ ap (λ rs. with_weight rs i w) (sym (rows-skip weights values p ps none)))
      (λ d some. rows-cons (set weights i w) values p ps d some
      ∙ ap (λ rs. placed p.0 p.1 d (get_or (set weights i w) p.0 0) ∷ rs) rest
      ∙ ap (λ r. r ∷ with_weight (rows_in weights values ps) i w) (written d)
      ∙ ap (λ rs. with_weight rs i w) (sym (rows-cons weights values p ps d some)))
    where
      written : (d : T) → placed p.0 p.1 d (get_or (set weights i w) p.0 0) ≡ cond (eqb p.0 i) (placed p.0 p.1 d w) (placed p.0 p.1 d (get_or weights p.0 0))
      written d =
          elim (cases_eq p.0 i) [
            | inl e ↦
                ap (λ n. placed p.0 p.1 d n) (ap (λ z. get_or (set weights i w) z 0) e ∙ get_or-set_same weights i w 0 within)
                ∙ sym (ap (λ b. cond b (placed p.0 p.1 d w) (placed p.0 p.1 d (get_or weights p.0 0))) (eq-eqb p.0 i e))
            | inr ne ↦
                ap (λ n. placed p.0 p.1 d n) (get_or-set_other weights i p.0 w 0 ne)
                ∙ sym (ap (λ b. cond b (placed p.0 p.1 d w) (placed p.0 p.1 d (get_or weights p.0 0))) (ne_eqb p.0 i ne))
          ]

  -- data are written
  pub rows-value : (weights : List ℕ) (values : List (Option T)) (i : ℕ) (was d : T) → value_at values i ≡ Some was → i < length values → (live : List (ℕ × K)) →
      rows_in weights (set values i (Some d)) live ≡ with_value (rows_in weights values live) i d
  rows-value weights values i was d there within [] = refl
  rows-value weights values i was d there within (p ∷ ps) =
      let rest = rows-value weights values i was d there within ps in
      elim (cases_eq p.0 i) [
        | inl e ↦
            let here : value_at (set values i (Some d)) p.0 ≡ Some d = ap (value_at (set values i (Some d))) e ∙ get_or-set_same values i (Some d) None within in
            let had : value_at values p.0 ≡ Some was = ap (value_at values) e ∙ there in
            rows-cons weights (set values i (Some d)) p ps d here ∙ ap (λ rs. placed p.0 p.1 d (get_or weights p.0 0) ∷ rs) rest
            ∙ ap (λ r. r ∷ with_value (rows_in weights values ps) i d) (sym (ap (λ b. cond b (placed p.0 p.1 d (get_or weights p.0 0)) (placed p.0 p.1 was (get_or weights p.0 0))) (eq-eqb p.0 i e)))
            ∙ ap (λ rs. with_value rs i d) (sym (rows-cons weights values p ps was had))
        | inr ne ↦
            let same : value_at (set values i (Some d)) p.0 ≡ value_at values p.0 = get_or-set_other values i p.0 (Some d) None ne in
            by_value values p.0
            (λ none. rows-skip weights (set values i (Some d)) p ps (same ∙ none) ∙ rest ∙ ap (λ rs. with_value rs i d) (sym (rows-skip weights values p ps none)))
            (λ x some. rows-cons weights (set values i (Some d)) p ps x (same ∙ some) ∙ ap (λ rs. placed p.0 p.1 x (get_or weights p.0 0) ∷ rs) rest
            ∙ ap (λ r. r ∷ with_value (rows_in weights values ps) i d) (sym (ap (λ b. cond b (placed p.0 p.1 d (get_or weights p.0 0)) (placed p.0 p.1 x (get_or weights p.0 0))) (ne_eqb p.0 i ne)))
            ∙ ap (λ rs. with_value rs i d) (sym (rows-cons weights values p ps x some)))
      ]
