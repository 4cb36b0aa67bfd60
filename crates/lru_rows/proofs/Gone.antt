-- Rows that are taken out, by key or as the last.
use Rattle.std.proofs.Common.{◌≡◌, ℕ, ◌+◌, ◌-◌, List, [], ◌∷◌, ◌++◌, length, get_or, set, Some, None, refl, sym, ap, ◌∙◌, subst, arith, true, suc}
use Rattle.std.specs.Prelude.{Option, Bool, is_some, slice_get, IsTrue}
use Rattle.std.specs.Cmp.{IsEquivalence}
use Rattle.std.proofs.lemmas.Bool.{false≢true}
use Rattle.std.proofs.lemmas.List.{map-append, get_or-set_other}
use Rattle.lru_index.specs.Index.{Index, Indexes, gone_at, room_of, Finds as index_Finds}
use Rattle.lru_list.specs.Linked.{Linked, item_of, indices_of, times, head_of, tail_of, IsNumbered, Removes as list_Removes, without as list_without}
use Rattle.lru_list.proofs.Chains.{times_here, times-append}
use Rattle.lru_list.proofs.LinkedLaws.{item_of_same}
use Rattle.lru_rows.specs.declared.rows.Taken.{Taken}
use Rattle.lru_rows.specs.Rows.{placed, Recency, recency, row_at, row_of, without, taken, Removes, PopsLast, PopsFirst}
use Rattle.lru_rows.specs.Representation.Columns.{value_at, rows_in, IsKept}
use Rattle.lru_rows.proofs.Orders.{item_end, taken_back}
use Rattle.lru_rows.proofs.Listed.{some_of, rows-append, rows-cons, rows-same}
use Rattle.lru_rows.proofs.Kept.{Stands, stands_by_key, once_all}
use Rattle.lru_rows.proofs.Moves.{kept_removed, rows_removed, free_removed, kept_as, without_end, not_there}
use Rattle.lru_rows.proofs.Viewed.{rows_are, free_is, seen_finds, seen_finds_by}

-- the last pair, by its place
pub record Last {K : Type 0} (live : List (ℕ × K)) (p : ℕ) : Type 0 where
  pub front : List (ℕ × K)
  pub key : K
  pub whole : live ≡ front ++ (p, key) ∷ []

pub last_pair : {K : Type 0} (live : List (ℕ × K)) (p : ℕ) → Some p ≡ slice_get (indices_of live) (length live - 1) → Last live p
last_pair [] p is = absurd (false≢true (ap is_some (sym is)))
last_pair (q ∷ []) p is = record { front = []; key = q.1; whole = ap (λ i. (i, q.1) ∷ []) (sym (some_of p q.0 is)) }
last_pair (q ∷ x ∷ xs) p is =
    let step : length (q ∷ x ∷ xs) - 1 ≡ suc (length (x ∷ xs) - 1) = omega arith in
    let rest = last_pair (x ∷ xs) p (is ∙ ap (λ n. slice_get (q.0 ∷ indices_of (x ∷ xs)) n) step) in
    record { front = q ∷ rest.front; key = rest.key; whole = ap (λ ps. q ∷ ps) rest.whole }

-- the key of the last place
pub last_key : {K S T : Type 0} (eq : K → K → Bool) (hash : S → K → ℕ) (order : Linked K) (index : Index S) (weights : List ℕ) (values : List (Option T)) (kept : IsKept eq hash order index weights values)
    (p : ℕ) (k : K) → item_of order.live p ≡ Some k → (l : Last order.live p) → order.live ≡ l.front ++ (p, k) ∷ []
last_key {K = K} eq hash order index weights values kept p k found l =
    let none : times p (indices_of l.front) ≡ 0 =
    omega (
      arith,
      once_all eq hash order index weights values kept p,
      ap (λ ps. times p (indices_of ps)) l.whole,
      ap (times p) (map-append (λ (q : ℕ × K). q.0) l.front ((p, l.key) ∷ [])),
      times-append p (indices_of l.front) (p ∷ []),
      times_here p [],
    ) in
    let key_is : l.key ≡ k = some_of l.key k (sym (item_end l.front p l.key none) ∙ ap (λ ps. item_of ps p) (sym l.whole) ∙ found) in
    l.whole ∙ ap (λ x. l.front ++ (p, x) ∷ []) key_is

-- the first pair, by its place and its key
pub first_pair : {K : Type 0} (live : List (ℕ × K)) (p : ℕ) (k : K) → Some p ≡ slice_get (indices_of live) 0 → item_of live p ≡ Some k → (rest : List (ℕ × K)) × (live ≡ (p, k) ∷ rest)
first_pair [] p k is found = absurd (false≢true (ap is_some (sym is)))
first_pair (q ∷ qs) p k is found =
    let place_is : q.0 ≡ p = sym (some_of p q.0 is) in
    (qs, ap (λ i. (i, q.1) ∷ qs) place_is ∙ ap (λ x. (p, x) ∷ qs) (some_of q.1 k (sym (item_of_same q qs p place_is) ∙ found)))

module _ {K S T : Type 0} (eq : K → K → Bool) (hash : S → K → ℕ) (order : Linked K) (index : Index S) (weights : List ℕ) (values : List (Option T)) (kept : IsKept eq hash order index weights values)
    (r : Recency K T) (view : recency (rows_in weights values order.live) (length order.freed) ≡ r) where
  module _ (IsBlank : K → Type 0) (p : ℕ) (k : K) (found : item_of order.live p ≡ Some k) (order' : Linked K) (key : K) (removes : list_Removes IsBlank order p key order') (numbered : IsNumbered order')
      (index' : Index S) (indexed : Indexes eq hash index' (gone_at (item_of order.live) (Some p))) (room : room_of index' ≡ room_of index)
      (index'' : Index S) (weights' : List ℕ) (values' : List (Option T)) (same_index : index'' ≡ index') (same_weights : weights' ≡ weights) (values_is : values' ≡ set values p None)
      (d : T) (w : ℕ) (value_is : value_at values p ≡ Some d) (weight_is : w ≡ get_or weights p 0) where
    abbrev s : Stands eq hash order index weights values kept p
    s = stands_by_key eq hash order index weights values kept p k found

    pub kept_out : IsKept eq hash order' index'' weights' values'
    kept_out =
        kept_as eq hash order' index' index'' weights weights' values' same_index same_weights
        (kept_removed eq hash order index weights values kept p s removes.1.0 order' removes.1.2 numbered index' indexed room values' values_is)

    rows_out : rows_in weights' values' order'.live ≡ without r.rows p
    rows_out =
        ap (λ ws. rows_in ws values' order'.live) same_weights
        ∙ rows_removed eq hash order index weights values kept p s removes.1.0 order' removes.1.2 numbered index' indexed room values' values_is
        ∙ ap (λ rs. without rs p) (rows_are eq hash order index weights values kept r view)

    pub view_out : recency (rows_in weights' values' order'.live) (length order'.freed) ≡ recency (without r.rows p) (r.free + 1)
    view_out =
        ap (λ rs. recency rs (length order'.freed)) rows_out
        ∙ ap (recency (without r.rows p))
        (free_removed eq hash order index weights values kept p s removes.1.0 order' removes.1.2 numbered index' indexed room values' values_is
        ∙ ap (λ n. n + 1) (free_is eq hash order index weights values kept r view))

    -- what is handed out is the row's
    abbrev out : Taken K T
    out = record { key = key; value = d; weight = w }

    pub out_is : out ≡ taken (placed p k d (get_or weights p 0))
    out_is =
        ap (λ x. record { key = x; value = d; weight = w }) (some_of key k (sym removes.0 ∙ found))
        ∙ ap (λ n. record { key = k; value = d; weight = n }) weight_is

    row_here : row_at r.rows p ≡ Some (placed p k d (get_or weights p 0))
    row_here =
        ap (λ rs. row_at rs p) (sym (rows_are eq hash order index weights values kept r view)) ∙ s.row
        ∙ ap (λ x. Some (placed p x s.value (get_or weights p 0))) (some_of s.key k (sym s.found ∙ found))
        ∙ ap (λ x. Some (placed p k x (get_or weights p 0))) (some_of s.value d (sym s.holds ∙ value_is))

    -- of the key that was asked for
    pub removes_row : IsEquivalence eq → (asked : K) → index_Finds eq (item_of order.live) asked (Some p) → Removes eq r asked (Some (record { key = key; value = d; weight = w })) (recency (rows_in weights' values' order'.live) (length order'.freed))
    removes_row laws asked finds =
        let at = seen_finds eq hash order index weights values kept r view laws asked (Some p) finds in (
          placed p k d (get_or weights p 0),
          at.1 ∙ sym at.2 ∙ row_here,
          out_is,
          view_out,
        )

    -- of the key that a query stands for
    pub removes_row_by : {Q : Type 0} (stands : K → Q → Bool) (query : Q) → ((x y : K) → IsTrue (stands x query) → IsTrue (stands y query) → IsTrue (eq x y)) → index_Finds stands (item_of order.live) query (Some p) →
        Removes stands r query (Some (record { key = key; value = d; weight = w })) (recency (rows_in weights' values' order'.live) (length order'.freed))
    removes_row_by stands query agree finds =
        let at = seen_finds_by eq hash order index weights values kept r view stands query agree (Some p) finds in (
          placed p k d (get_or weights p 0),
          at.1 ∙ sym at.2 ∙ row_here,
          out_is,
          view_out,
        )

    -- of the last
    pub pops_row : (front : List (ℕ × K)) → order.live ≡ front ++ (p, k) ∷ [] → PopsLast r (Some (record { key = key; value = d; weight = w })) (recency (rows_in weights' values' order'.live) (length order'.freed))
    pops_row front whole = (
      placed p k d (get_or weights p 0),
      rows_in weights values front,
      sym (rows_are eq hash order index weights values kept r view) ∙ ap (rows_in weights values) whole ∙ rows-append weights values front ((p, k) ∷ [])
          ∙ ap (λ rs. rows_in weights values front ++ rs) (rows-cons weights values (p, k) [] d value_is),
      out_is,
      view_out ∙ ap (λ rs. recency rs (r.free + 1)) front_rows,
    )
      where
        none_before : times p (indices_of front) ≡ 0
        none_before =
            omega (
              arith,
              once_all eq hash order index weights values kept p,
              ap (λ ps. times p (indices_of ps)) whole,
              ap (times p) (map-append (λ (q : ℕ × K). q.0) front ((p, k) ∷ [])),
              times-append p (indices_of front) (p ∷ []),
              times_here p [],
            )

        front_rows : without r.rows p ≡ rows_in weights values front
        front_rows =
            sym rows_out ∙ ap (λ ws. rows_in ws values' order'.live) same_weights
            ∙ ap (λ (l : Linked K). rows_in weights values' l.live) removes.1.2
            ∙ ap (λ ps. rows_in weights values' (list_without ps p)) whole
            ∙ ap (rows_in weights values') (without_end front p k none_before)
            ∙ rows-same weights weights values values' front (λ q h. refl) (λ q h. ap (λ vs. value_at vs q) values_is ∙ get_or-set_other values p q None None (not_there p q (indices_of front) none_before h))

    -- of the first
    pub pops_first_row : (rest : List (ℕ × K)) → order.live ≡ (p, k) ∷ rest → PopsFirst r (Some (record { key = key; value = d; weight = w })) (recency (rows_in weights' values' order'.live) (length order'.freed))
    pops_first_row rest whole = (
      placed p k d (get_or weights p 0),
      rows_in weights values rest,
      sym (rows_are eq hash order index weights values kept r view) ∙ ap (rows_in weights values) whole ∙ rows-cons weights values (p, k) rest d value_is,
      out_is,
      view_out ∙ ap (λ rs. recency rs (r.free + 1)) rest_rows,
    )
      where
        none_behind : times p (indices_of rest) ≡ 0
        none_behind = omega (arith, once_all eq hash order index weights values kept p, ap (λ ps. times p (indices_of ps)) whole, times_here p (indices_of rest))

        rest_rows : without r.rows p ≡ rows_in weights values rest
        rest_rows =
            sym rows_out ∙ ap (λ ws. rows_in ws values' order'.live) same_weights
            ∙ ap (λ (l : Linked K). rows_in weights values' l.live) removes.1.2
            ∙ ap (λ ps. rows_in weights values' (list_without ps p)) whole
            ∙ ap (rows_in weights values') (taken_back rest p k none_behind)
            ∙ rows-same weights weights values values' rest (λ q h. refl) (λ q h. ap (λ vs. value_at vs q) values_is ∙ get_or-set_other values p q None None (not_there p q (indices_of rest) none_behind h))

  pub nothing_found : IsEquivalence eq → (asked : K) → index_Finds eq (item_of order.live) asked None → row_of eq r.rows asked ≡ None
  nothing_found laws asked absent = seen_finds eq hash order index weights values kept r view laws asked None absent

  pub removes_none : IsEquivalence eq → (asked : K) → index_Finds eq (item_of order.live) asked None → (o : Option (Taken K T)) → o ≡ None → Removes eq r asked o (recency (rows_in weights values order.live) (length order.freed))
  removes_none laws asked absent o is =
      subst (λ x. Removes eq r asked x (recency (rows_in weights values order.live) (length order.freed))) (sym is) (nothing_found laws asked absent, view)

  pub removes_none_by : {Q : Type 0} (stands : K → Q → Bool) (query : Q) → ((x y : K) → IsTrue (stands x query) → IsTrue (stands y query) → IsTrue (eq x y)) → index_Finds stands (item_of order.live) query None → (o : Option (Taken K T)) → o ≡ None →
      Removes stands r query o (recency (rows_in weights values order.live) (length order.freed))
  removes_none_by stands query agree absent o is =
      subst (λ x. Removes stands r query x (recency (rows_in weights values order.live) (length order.freed))) (sym is)
      (seen_finds_by eq hash order index weights values kept r view stands query agree None absent, view)

  -- an order with no tail has no rows
  no_tail : (live : List (ℕ × K)) → None ≡ slice_get (indices_of live) (length live - 1) → live ≡ []
  no_tail [] is = refl
  no_tail (q ∷ qs) is = absurd (false≢true (ap is_some is ∙ last_some q qs))
    where
      last_some : (q : ℕ × K) (qs : List (ℕ × K)) → is_some (slice_get (indices_of (q ∷ qs)) (length (q ∷ qs) - 1)) ≡ true
      last_some q [] = refl
      last_some q (x ∷ xs) =
          let step : length (q ∷ x ∷ xs) - 1 ≡ suc (length (x ∷ xs) - 1) = omega arith in
          ap (λ n. is_some (slice_get (q.0 ∷ indices_of (x ∷ xs)) n)) step ∙ last_some x xs

  pub pops_none : None ≡ tail_of order → (o : Option (Taken K T)) → o ≡ None → PopsLast r o r
  pops_none is o none =
      subst (λ x. PopsLast r x r) (sym none)
      (sym (rows_are eq hash order index weights values kept r view) ∙ ap (rows_in weights values) (no_tail order.live is), refl)

  -- nor has one with no head
  no_head : (live : List (ℕ × K)) → None ≡ slice_get (indices_of live) 0 → live ≡ []
  no_head [] is = refl
  no_head (q ∷ qs) is = absurd (false≢true (ap is_some is))

  pub pops_first_none : None ≡ head_of order → (o : Option (Taken K T)) → o ≡ None → PopsFirst r o r
  pops_first_none is o none =
      subst (λ x. PopsFirst r x r) (sym none)
      (sym (rows_are eq hash order index weights values kept r view) ∙ ap (rows_in weights values) (no_head order.live is), refl)
