-- Laws of the rows that a list of pairs and its column stand for.
use Rattle.std.proofs.Common.{◌≡◌, ◌≢◌, ℕ, ◌+◌, ◌<◌, ◌≤◌, true, false, cond, eqb, List, [], ◌∷◌, ◌++◌, length, map, get_or, set, Some, None, refl, sym, ap, ◌∙◌, subst, inl, inr, arith}
use Rattle.std.specs.Prelude.{Option, Bool, is_some, IsSome, count_by, ◌==◌, ◌&&◌, nat_le, nat_lt}
use Rattle.std.specs.Option.{option_map, option_map_or}
use Rattle.std.specs.List.{cons_option}
use Rattle.std.proofs.lemmas.Bool.{cases_eq, eq-eqb, ne_eqb, false≢true}
use Rattle.std.proofs.lemmas.List.{get_or-set_same, get_or-set_other}
use Rattle.std.proofs.lemmas.List.Elements.{filter_map-append}
use Rattle.std.proofs.lemmas.List.Sums.{sum_by-cons}
use Rattle.lru_list.specs.Linked.{Linked, item_of, item_at, indices_of, times, without as list_without, written, with_item, made, IsNumbered}
use Rattle.lru_list.proofs.Chains.{times_here, times-cons}
use Rattle.lru_list.proofs.LinkedLaws.{item_of_same, item_of_other, item_of-append}
use Rattle.lru_rows.specs.Rows.{Placed, placed, row_at, IsAt, without, promoted, demoted, with_weight, with_value}
use Rattle.lru_rows.proofs.Orders.{by_place}
use Rattle.lru_rows.proofs.Listed.{some_of, stands_behind, without_here, without_other, row_at_here, row_at_other}
use Rattle.lru_pairs.specs.Pairs.{with_entry}
use Rattle.lru_pairs.specs.Representation.Nodes.{row_in, rows_in, AreHeld, keys_at}

pub some_is : {A : Type 0} (o : Option A) → IsSome o → (a : A) × (o ≡ Some a)
some_is None h = absurd (false≢true h)
some_is (Some a) h = (a, refl)

module _ {K V : Type 0} where
  -- the pairs of nodes that stand together, or apart
  pub held_without : (ps : List (ℕ × Option (K × V))) (i : ℕ) → AreHeld ps → AreHeld (list_without ps i)
  held_without [] i h = tt
  held_without (p ∷ ps) i h = by_place i p ps (λ rest. AreHeld rest) (λ e. held_without ps i h.1) (λ ne. (h.0, held_without ps i h.1))

  pub held_append : (ps qs : List (ℕ × Option (K × V))) → AreHeld ps → AreHeld qs → AreHeld (ps ++ qs)
  held_append [] qs h g = g
  held_append (p ∷ ps) qs h g = (h.0, held_append ps qs h.1 g)

  pub held_written : (ps : List (ℕ × Option (K × V))) (i : ℕ) (e : K × V) → AreHeld ps → AreHeld (written ps i (Some e))
  held_written [] i e h = tt
  held_written (p ∷ ps) i e h = (either (eqb p.0 i), held_written ps i e h.1)
    where
      either : (b : Bool) → IsSome (cond b (Some e) p.1)
      either true = refl
      either false = h.0

  pub item_held : (ps : List (ℕ × Option (K × V))) (i : ℕ) (o : Option (K × V)) → AreHeld ps → item_of ps i ≡ Some o → IsSome o
  item_held [] i o h e = absurd (false≢true (ap is_some e))
  item_held (p ∷ ps) i o h e =
      elim (cases_eq p.0 i) [
        | inl same ↦ subst (λ x. IsSome x) (some_of p.1 o (sym (item_of_same p ps i same) ∙ e)) h.0
        | inr ne ↦ item_held ps i o h.1 (sym (item_of_other p ps i ne) ∙ e)
      ]

  module _ (weights : List ℕ) where
    pub rows-cons : (p : ℕ × Option (K × V)) (ps : List (ℕ × Option (K × V))) (e : K × V) → p.1 ≡ Some e → rows_in weights (p ∷ ps) ≡ placed p.0 e.0 e.1 (get_or weights p.0 0) ∷ rows_in weights ps
    rows-cons p ps e is = ap (λ o. cons_option (option_map (λ (x : K × V). placed p.0 x.0 x.1 (get_or weights p.0 0)) o) (rows_in weights ps)) is

    pub rows-append : (ps qs : List (ℕ × Option (K × V))) → rows_in weights (ps ++ qs) ≡ rows_in weights ps ++ rows_in weights qs
    rows-append ps qs = filter_map-append (row_in weights) ps qs

    -- the nodes without a place's are the rows without it
    pub rows-without : (ps : List (ℕ × Option (K × V))) (i : ℕ) → AreHeld ps → rows_in weights (list_without ps i) ≡ without (rows_in weights ps) i
    rows-without [] i h = refl
    rows-without (p ∷ ps) i h =
        let e = some_is p.1 h.0 in
        let r : Placed K V = placed p.0 e.0.0 e.0.1 (get_or weights p.0 0) in
        by_place i p ps (λ rest. rows_in weights rest ≡ without (rows_in weights (p ∷ ps)) i)
        (λ same. rows-without ps i h.1 ∙ sym (without_here i r (rows_in weights ps) same) ∙ ap (λ rs. without rs i) (sym (rows-cons p ps e.0 e.1)))
        (λ ne. rows-cons p (list_without ps i) e.0 e.1 ∙ ap (λ rs. r ∷ rs) (rows-without ps i h.1)
        ∙ sym (without_other i r (rows_in weights ps) ne) ∙ ap (λ rs. without rs i) (sym (rows-cons p ps e.0 e.1)))

    -- the row of a place is that of its node
    pub row_found : (ps : List (ℕ × Option (K × V))) (i : ℕ) (e : K × V) → item_of ps i ≡ Some (Some e) → AreHeld ps → row_at (rows_in weights ps) i ≡ Some (placed i e.0 e.1 (get_or weights i 0))
    row_found [] i e found h = absurd (false≢true (ap is_some found))
    row_found (p ∷ ps) i e found h =
        let v = some_is p.1 h.0 in
        let r : Placed K V = placed p.0 v.0.0 v.0.1 (get_or weights p.0 0) in
        ap (λ rs. row_at rs i) (rows-cons p ps v.0 v.1)
        ∙ elim (cases_eq p.0 i) [
          | inl same ↦
              let pair : v.0 ≡ e = some_of v.0 e (sym v.1 ∙ some_of p.1 (Some e) (sym (item_of_same p ps i same) ∙ found)) in
              row_at_here r (rows_in weights ps) i same
              ∙ ap (λ q. Some (placed q v.0.0 v.0.1 (get_or weights q 0))) same ∙ ap (λ (x : K × V). Some (placed i x.0 x.1 (get_or weights i 0))) pair
          | inr ne ↦ row_at_other r (rows_in weights ps) i ne ∙ row_found ps i e (sym (item_of_other p ps i ne) ∙ found) h.1
        ]

    -- a place without a node has no row
    pub row_missing : (ps : List (ℕ × Option (K × V))) (i : ℕ) → item_of ps i ≡ None → AreHeld ps → row_at (rows_in weights ps) i ≡ None
    row_missing [] i none h = refl
    row_missing (p ∷ ps) i none h =
        let v = some_is p.1 h.0 in
        let r : Placed K V = placed p.0 v.0.0 v.0.1 (get_or weights p.0 0) in
        ap (λ rs. row_at rs i) (rows-cons p ps v.0 v.1)
        ∙ elim (cases_eq p.0 i) [
          | inl same ↦ absurd (false≢true (sym (ap is_some none) ∙ ap is_some (item_of_same p ps i same)))
          | inr ne ↦ row_at_other r (rows_in weights ps) i ne ∙ row_missing ps i (sym (item_of_other p ps i ne) ∙ none) h.1
        ]

    -- what stands at a place that has a row
    pub record Stands (ps : List (ℕ × Option (K × V))) (i : ℕ) : Type 0 where
      pub pair : K × V
      pub found : item_of ps i ≡ Some (Some pair)
      pub row : row_at (rows_in weights ps) i ≡ Some (placed i pair.0 pair.1 (get_or weights i 0))

    pub stands : (ps : List (ℕ × Option (K × V))) (i : ℕ) → AreHeld ps → IsAt (rows_in weights ps) i → Stands ps i
    stands ps i h at = from (item_of ps i) refl
      where
        with_pair : (o : Option (K × V)) → IsSome o → item_of ps i ≡ Some o → Stands ps i
        with_pair None s e = absurd (false≢true s)
        with_pair (Some x) s e = record { pair = x; found = e; row = row_found ps i x e h }

        from : (o : Option (Option (K × V))) → item_of ps i ≡ o → Stands ps i
        from None e = absurd (false≢true (sym (ap is_some (row_missing ps i e h)) ∙ at))
        from (Some x) e = with_pair x (item_held ps i x h e) e

    pub keys_some : (ps : List (ℕ × Option (K × V))) (i : ℕ) → AreHeld ps → is_some (item_of ps i) ≡ is_some (keys_at (rows_in weights ps) i)
    keys_some ps i h = from (item_of ps i) refl
      where
        with_pair : (o : Option (K × V)) → IsSome o → item_of ps i ≡ Some o → is_some (item_of ps i) ≡ is_some (keys_at (rows_in weights ps) i)
        with_pair None s e = absurd (false≢true s)
        with_pair (Some x) s e = ap is_some e ∙ sym (ap (λ o. is_some (option_map (λ (r : Placed K V). r.key) o)) (row_found ps i x e h))

        from : (o : Option (Option (K × V))) → item_of ps i ≡ o → is_some (item_of ps i) ≡ is_some (keys_at (rows_in weights ps) i)
        from None e = ap is_some e ∙ sym (ap (λ o. is_some (option_map (λ (r : Placed K V). r.key) o)) (row_missing ps i e h))
        from (Some x) e = with_pair x (item_held ps i x h e) e

    -- the rows' places are the list's
    pub places-rows : (ps : List (ℕ × Option (K × V))) → AreHeld ps → map (λ (r : Placed K V). r.place) (rows_in weights ps) ≡ indices_of ps
    places-rows [] h = refl
    places-rows (p ∷ ps) h =
        let v = some_is p.1 h.0 in
        ap (map (λ (r : Placed K V). r.place)) (rows-cons p ps v.0 v.1) ∙ ap (λ is. p.0 ∷ is) (places-rows ps h.1)

    pub length-rows : (ps : List (ℕ × Option (K × V))) → AreHeld ps → length (rows_in weights ps) ≡ length ps
    length-rows [] h = refl
    length-rows (p ∷ ps) h =
        let v = some_is p.1 h.0 in
        ap length (rows-cons p ps v.0 v.1) ∙ omega (arith, length-rows ps h.1)

    -- no place has two rows where it has no two nodes
    pub places_times : (q : ℕ) (ps : List (ℕ × Option (K × V))) → AreHeld ps → count_by (λ (r : Placed K V). r.place == q) (rows_in weights ps) ≤ times q (indices_of ps)
    places_times q [] h = omega arith
    places_times q (p ∷ ps) h =
        let v = some_is p.1 h.0 in
        let r : Placed K V = placed p.0 v.0.0 v.0.1 (get_or weights p.0 0) in
        omega (
          arith,
          ap (count_by (λ (x : Placed K V). x.place == q)) (rows-cons p ps v.0 v.1) ∙ sum_by-cons (λ (x : Placed K V). cond (eqb x.place q) 1 0) r (rows_in weights ps),
          places_times q ps h.1,
          times-cons q p.0 (indices_of ps),
        )

    -- the row of a place goes first where its node does, and last
    pub rows-first : (ps : List (ℕ × Option (K × V))) (i : ℕ) (s : Stands ps i) → AreHeld ps → rows_in weights ((i, Some s.pair) ∷ list_without ps i) ≡ promoted (rows_in weights ps) i
    rows-first ps i s h =
        rows-cons (i, Some s.pair) (list_without ps i) s.pair refl
        ∙ ap (λ rs. placed i s.pair.0 s.pair.1 (get_or weights i 0) ∷ rs) (rows-without ps i h)
        ∙ ap (λ o. option_map_or (λ r. r ∷ without (rows_in weights ps) i) o (rows_in weights ps)) (sym s.row)

    pub rows-last : (ps : List (ℕ × Option (K × V))) (i : ℕ) (s : Stands ps i) → AreHeld ps → rows_in weights (list_without ps i ++ (i, Some s.pair) ∷ []) ≡ demoted (rows_in weights ps) i
    rows-last ps i s h =
        rows-append (list_without ps i) ((i, Some s.pair) ∷ [])
        ∙ ap (λ rs. rs ++ rows_in weights ((i, Some s.pair) ∷ [])) (rows-without ps i h)
        ∙ ap (λ rs. without (rows_in weights ps) i ++ rs) (rows-cons (i, Some s.pair) [] s.pair refl)
        ∙ ap (λ o. option_map_or (λ r. without (rows_in weights ps) i ++ r ∷ []) o (rows_in weights ps)) (sym s.row)

  -- columns that agree on the places of a list stand for the same rows
  pub rows-same : (weights weights' : List ℕ) (ps : List (ℕ × Option (K × V))) → ((p : ℕ) → 1 ≤ times p (indices_of ps) → get_or weights' p 0 ≡ get_or weights p 0) → rows_in weights' ps ≡ rows_in weights ps
  rows-same weights weights' [] same = refl
  rows-same weights weights' (p ∷ ps) same =
      ap (λ w. cons_option (option_map (λ (x : K × V). placed p.0 x.0 x.1 w) p.1) (rows_in weights' ps)) (same p.0 (omega (arith, times_here p.0 (indices_of ps))))
      ∙ ap (cons_option (row_in weights p)) (rows-same weights weights' ps (λ q there. same q (stands_behind p.0 (indices_of ps) q there)))

  -- a weight is written
  pub rows-weight : (weights : List ℕ) (i w : ℕ) → i < length weights → (ps : List (ℕ × Option (K × V))) → AreHeld ps → rows_in (set weights i w) ps ≡ with_weight (rows_in weights ps) i w
  rows-weight weights i w within [] h = refl
  rows-weight weights i w within (p ∷ ps) h =
      let v = some_is p.1 h.0 in
      rows-cons (set weights i w) p ps v.0 v.1
      ∙ ap (λ rs. placed p.0 v.0.0 v.0.1 (get_or (set weights i w) p.0 0) ∷ rs) (rows-weight weights i w within ps h.1)
      ∙ ap (λ r. r ∷ with_weight (rows_in weights ps) i w) (weighed v.0)
      ∙ ap (λ rs. with_weight rs i w) (sym (rows-cons weights p ps v.0 v.1))
    where
      weighed : (e : K × V) → placed p.0 e.0 e.1 (get_or (set weights i w) p.0 0) ≡ cond (eqb p.0 i) (placed p.0 e.0 e.1 w) (placed p.0 e.0 e.1 (get_or weights p.0 0))
      weighed e =
          elim (cases_eq p.0 i) [
            | inl same ↦
                ap (λ n. placed p.0 e.0 e.1 n) (ap (λ z. get_or (set weights i w) z 0) same ∙ get_or-set_same weights i w 0 within)
                ∙ sym (ap (λ b. cond b (placed p.0 e.0 e.1 w) (placed p.0 e.0 e.1 (get_or weights p.0 0))) (eq-eqb p.0 i same))
            | inr ne ↦
                ap (λ n. placed p.0 e.0 e.1 n) (get_or-set_other weights i p.0 w 0 ne)
                ∙ sym (ap (λ b. cond b (placed p.0 e.0 e.1 w) (placed p.0 e.0 e.1 (get_or weights p.0 0))) (ne_eqb p.0 i ne))
          ]

  -- a pair is written, and a weight
  pub rows-written : (weights weights' : List ℕ) (i : ℕ) (k : K) (v : V) (w : ℕ) → get_or weights' i 0 ≡ w → ((q : ℕ) → q ≢ i → get_or weights' q 0 ≡ get_or weights q 0) →
      (ps : List (ℕ × Option (K × V))) → AreHeld ps → rows_in weights' (written ps i (Some (k, v))) ≡ with_entry (rows_in weights ps) i k v w
  rows-written weights weights' i k v w here others [] h = refl
  rows-written weights weights' i k v w here others (p ∷ ps) h =
      let e = some_is p.1 h.0 in
      ap (λ rs. cons_option (row_in weights' (p.0, cond (eqb p.0 i) (Some (k, v)) p.1)) rs) (rows-written weights weights' i k v w here others ps h.1)
      ∙ elim (cases_eq p.0 i) [
        | inl same ↦
            ap (λ b. cons_option (row_in weights' (p.0, cond b (Some (k, v)) p.1)) (with_entry (rows_in weights ps) i k v w)) (eq-eqb p.0 i same)
            ∙ ap (λ q. placed q k v (get_or weights' q 0) ∷ with_entry (rows_in weights ps) i k v w) same
            ∙ ap (λ n. placed i k v n ∷ with_entry (rows_in weights ps) i k v w) here
            ∙ ap (λ r. r ∷ with_entry (rows_in weights ps) i k v w) (sym (ap (λ b. cond b (placed i k v w) (placed p.0 e.0.0 e.0.1 (get_or weights p.0 0))) (eq-eqb p.0 i same)))
            ∙ ap (λ rs. with_entry rs i k v w) (sym (rows-cons weights p ps e.0 e.1))
        | inr ne ↦
            ap (λ b. cons_option (row_in weights' (p.0, cond b (Some (k, v)) p.1)) (with_entry (rows_in weights ps) i k v w)) (ne_eqb p.0 i ne)
            ∙ ap (λ n. cons_option (option_map (λ (x : K × V). placed p.0 x.0 x.1 n) p.1) (with_entry (rows_in weights ps) i k v w)) (others p.0 ne)
            ∙ ap (λ o. cons_option (option_map (λ (x : K × V). placed p.0 x.0 x.1 (get_or weights p.0 0)) o) (with_entry (rows_in weights ps) i k v w)) e.1
            ∙ ap (λ r. r ∷ with_entry (rows_in weights ps) i k v w) (sym (ap (λ b. cond b (placed i k v w) (placed p.0 e.0.0 e.0.1 (get_or weights p.0 0))) (ne_eqb p.0 i ne)))
            ∙ ap (λ rs. with_entry rs i k v w) (sym (rows-cons weights p ps e.0 e.1))
      ]

  -- the places stay where items are written
  pub indices-written : (ps : List (ℕ × Option (K × V))) (i : ℕ) (x : Option (K × V)) → indices_of (written ps i x) ≡ indices_of ps
  indices-written [] i x = refl
  indices-written (p ∷ ps) i x = ap (λ is. p.0 ∷ is) (indices-written ps i x)

  pub length-written : (ps : List (ℕ × Option (K × V))) (i : ℕ) (x : Option (K × V)) → length (written ps i x) ≡ length ps
  length-written [] i x = refl
  length-written (p ∷ ps) i x = omega (arith, length-written ps i x)

  pub numbered_written : (l : Linked (Option (K × V))) (i : ℕ) (x : Option (K × V)) → IsNumbered l → IsNumbered (with_item l i x)
  numbered_written l i x numbered j =
      let many : made l ≡ made (with_item l i x) = omega (arith, length-written l.live i x, length-written l.freed i x) in
      ap (λ is. times j (is ++ indices_of (written l.freed i x))) (indices-written l.live i x)
      ∙ ap (λ is. times j (indices_of l.live ++ is)) (indices-written l.freed i x)
      ∙ numbered j ∙ ap {B = ℕ} (λ n. cond (nat_le 2 j && nat_lt j (n + 2)) 1 0) many

  -- the row of a place has the same key and the same weight still
  abbrev AgreeAt : ℕ → K → ℕ → List (Placed K V) → Type 0
  AgreeAt i k w [] = Unit {0}
  AgreeAt i k w (r ∷ rs) = (r.place ≡ i → (r.key ≡ k) × (r.weight ≡ w)) × AgreeAt i k w rs

  none_agree : (i : ℕ) (k : K) (w : ℕ) (rs : List (Placed K V)) → count_by (λ (r : Placed K V). r.place == i) rs ≡ 0 → AgreeAt i k w rs
  none_agree i k w [] none = tt
  none_agree i k w (r ∷ rs) none =
      let sum = sum_by-cons (λ (x : Placed K V). cond (eqb x.place i) 1 0) r rs in (
        λ e. absurd (omega (arith, none, sum, ap {B = ℕ} (λ b. cond b 1 0) (eq-eqb r.place i e))),
        none_agree i k w rs (omega (arith, none, sum)),
      )

  agree_at : (i : ℕ) (k : K) (v : V) (w : ℕ) (rs : List (Placed K V)) → count_by (λ (r : Placed K V). r.place == i) rs ≤ 1 → row_at rs i ≡ Some (placed i k v w) → AgreeAt i k w rs
  agree_at i k v w [] once found = tt
  agree_at i k v w (r ∷ rs) once found =
      let sum = sum_by-cons (λ (x : Placed K V). cond (eqb x.place i) 1 0) r rs in
      elim (cases_eq r.place i) [
        | inl e ↦
            let is : r ≡ placed i k v w = some_of r (placed i k v w) (sym (row_at_here r rs i e) ∙ found) in
            (λ _. (ap (λ (x : Placed K V). x.key) is, ap (λ (x : Placed K V). x.weight) is), none_agree i k w rs (omega (arith, once, sum, ap {B = ℕ} (λ b. cond b 1 0) (eq-eqb r.place i e))))
        | inr ne ↦ (λ e. absurd (ne e), agree_at i k v w rs (omega (arith, once, sum)) (sym (row_at_other r rs i ne) ∙ found))
      ]

  entry_value : (i : ℕ) (k : K) (d : V) (w : ℕ) (rs : List (Placed K V)) → AgreeAt i k w rs → with_entry rs i k d w ≡ with_value rs i d
  entry_value i k d w [] agree = refl
  entry_value i k d w (r ∷ rs) agree =
      ap (λ xs. cond (eqb r.place i) (placed i k d w) r ∷ xs) (entry_value i k d w rs agree.1)
      ∙ ap (λ x. x ∷ with_value rs i d)
      (elim (cases_eq r.place i) [
        | inl e ↦
            ap (λ b. cond b (placed i k d w) r) (eq-eqb r.place i e)
            ∙ ap (λ p. placed p k d w) (sym e) ∙ ap (λ x. placed r.place x d w) (sym (agree.0 e).0) ∙ ap (λ n. placed r.place r.key d n) (sym (agree.0 e).1)
            ∙ sym (ap (λ b. cond b (placed r.place r.key d r.weight) r) (eq-eqb r.place i e))
        | inr ne ↦ ap (λ b. cond b (placed i k d w) r) (ne_eqb r.place i ne) ∙ sym (ap (λ b. cond b (placed r.place r.key d r.weight) r) (ne_eqb r.place i ne))
      ])

  -- where the key and the weight are those that stood there, only the value is another
  pub only_value : (i : ℕ) (k : K) (v d : V) (w : ℕ) (rs : List (Placed K V)) → count_by (λ (r : Placed K V). r.place == i) rs ≤ 1 → row_at rs i ≡ Some (placed i k v w) → with_entry rs i k d w ≡ with_value rs i d
  only_value i k v d w rs once found = entry_value i k d w rs (agree_at i k v w rs once found)

  -- what is read of a live node
  pub node_there : (l : Linked (Option (K × V))) (i : ℕ) (e : K × V) (node : Option (K × V)) → item_of l.live i ≡ Some (Some e) → item_at l i ≡ Some node → node ≡ Some e
  node_there l i e node found seen = some_of node (Some e) (sym seen ∙ item_of-append l.live l.freed i (Some e) found)

  -- so there is a slot
  pub slot_there : (l : Linked (Option (K × V))) (i : ℕ) (e : K × V) → item_of l.live i ≡ Some (Some e) → IsSome (item_at l i)
  slot_there l i e found = ap is_some (item_of-append l.live l.freed i (Some e) found)
