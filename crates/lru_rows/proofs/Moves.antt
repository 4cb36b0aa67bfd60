-- What is kept of rows stays kept where a row moves, changes, comes or goes, and which rows stand there then.
use Rattle.std.proofs.Common.{◌≡◌, ◌≢◌, ℕ, ◌+◌, ◌<◌, ◌≤◌, List, [], ◌∷◌, ◌++◌, length, get_or, set, Some, None, refl, sym, ap, ◌∙◌, subst, inl, inr, arith, zero, suc}
use Rattle.std.specs.Prelude.{Option, Bool, is_some, IsSome, drop, slice_index_or}
use Rattle.std.specs.Cmp.{IsEquivalence}
use Rattle.std.proofs.lemmas.Bool.{cases_eq, false≢true}
use Rattle.std.proofs.lemmas.List.{get_or-set_same, get_or-set_other, length-set, length-drop, length-append}
use Rattle.lru_index.specs.Index.{Index, Indexes, Inserts, IsEmpty, IsFree, put, gone, gone_at, room_of}
use Rattle.lru_index.proofs.ForCallers.{of_none, same_keys, is_free}
use Rattle.lru_index.proofs.Tables.{gone_here, gone_other, put_other}
use Rattle.lru_list.specs.Linked.{Linked, linked, item_of, indices_of, times, IsNumbered, IsLive, next_slot, promoted as list_promoted, demoted as list_demoted, pushed_head, pushed_tail, removed, without as list_without}
use Rattle.lru_list.proofs.Chains.{times_here, times_other, absent_head, absent_tail}
use Rattle.lru_list.proofs.LinkedLaws.{next_slot_absent, stands_from_item, stands_in}
use Rattle.lru_rows.specs.Rows.{placed, row_at, row_of, promoted, demoted, without, with_weight, with_value}
use Rattle.lru_rows.specs.Representation.Columns.{value_at, rows_in, IsKept, Lengthens}
use Rattle.lru_rows.proofs.Orders.{by_place, item_absent, item_end, item_before_end, item_kept, put_first, put_last, gone_without, promoted_is, demoted_is, same_promoted}
use Rattle.lru_rows.proofs.Listed.{row_missing, rows-same, rows-first, rows-last, rows-weight, rows-value, rows-without, rows-cons, rows-append}
use Rattle.lru_rows.proofs.Kept.{is_some_of, Stands, held_all, once_all, within, absent_key}

-- what is read of a place that holds data, with any default
pub value_read : {T : Type 0} (values : List (Option T)) (i : ℕ) (x : Option T) (d : T) → value_at values i ≡ Some d → x ≡ get_or values i x → x ≡ Some d
value_read [] i x d e r = absurd (false≢true (ap is_some e))
value_read (y ∷ ys) zero x d e r = r ∙ e
value_read (y ∷ ys) (suc i) x d e r = value_read ys i x d e r

-- what is kept, where the index and the weights are the same by another name
pub kept_as : {K S T : Type 0} (eq : K → K → Bool) (hash : S → K → ℕ) (order : Linked K) (index index' : Index S) (weights weights' : List ℕ) (values : List (Option T)) →
    index' ≡ index → weights' ≡ weights → IsKept eq hash order index weights values → IsKept eq hash order index' weights' values
kept_as eq hash order index index' weights weights' values same_index same_weights kept =
    subst (λ i. IsKept eq hash order i weights' values) (sym same_index) (subst (λ ws. IsKept eq hash order index ws values) (sym same_weights) kept)

-- what is kept where there are no rows
pub kept_none : {K S T : Type 0} (eq : K → K → Bool) (hash : S → K → ℕ) (order : Linked K) (index : Index S) (weights : List ℕ) (values : List (Option T)) →
    order ≡ linked [] [] → IsNumbered order → IsEmpty index → 2 ≤ room_of index → weights ≡ 0 ∷ 0 ∷ [] → values ≡ None ∷ None ∷ [] → IsKept eq hash order index weights values
kept_none {K = K} eq hash order index weights values none numbered empty room weights_are is =
    let live : order.live ≡ [] = ap (λ (l : Linked K). l.live) none in
    let freed : order.freed ≡ [] = ap (λ (l : Linked K). l.freed) none in
    let long = ap length is in
    record {
      numbered = numbered;
      held = λ p there. absurd (false≢true (sym (ap (λ ps. is_some (item_of ps p)) live) ∙ there));
      indexed = subst (λ ps. Indexes eq hash index (item_of ps)) (sym live) (of_none eq hash index empty);
      wide = omega (arith, long, ap length live, ap length freed);
      weighed = omega (arith, long, ap length weights_are);
      indexable = omega (arith, ap length weights_are, room);
      few = omega (arith, long);
    }

-- how many pairs are left without a place's
pub without_length : {K : Type 0} (ps : List (ℕ × K)) (i : ℕ) → times i (indices_of ps) + length (list_without ps i) ≡ length ps
without_length [] i = refl
without_length (p ∷ ps) i =
    by_place i p ps (λ rest. times i (p.0 ∷ indices_of ps) + length rest ≡ length (p ∷ ps))
    (λ e. omega (arith, without_length ps i, subst (λ z. times z (p.0 ∷ indices_of ps) ≡ 1 + times z (indices_of ps)) e (times_here p.0 (indices_of ps))))
    (λ ne. omega (arith, without_length ps i, times_other i p.0 (indices_of ps) ne))

without_times : {K : Type 0} (ps : List (ℕ × K)) (i : ℕ) → times i (indices_of (list_without ps i)) ≡ 0
without_times [] i = refl
without_times (p ∷ ps) i =
    by_place i p ps (λ rest. times i (indices_of rest) ≡ 0) (λ e. without_times ps i) (λ ne. times_other i p.0 (indices_of (list_without ps i)) ne ∙ without_times ps i)

-- a pair at the end goes
pub without_end : {K : Type 0} (front : List (ℕ × K)) (i : ℕ) (k : K) → times i (indices_of front) ≡ 0 → list_without (front ++ (i, k) ∷ []) i ≡ front
without_end [] i k none = by_place i (i, k) [] (λ rest. rest ≡ []) (λ e. refl) (λ ne. absurd (ne refl))
without_end (p ∷ ps) i k none =
    by_place i p (ps ++ (i, k) ∷ []) (λ rest. rest ≡ p ∷ ps) (λ e. absurd (absent_head i p.0 (indices_of ps) none e))
    (λ ne. ap (λ rest. p ∷ rest) (without_end ps i k (absent_tail i p.0 (indices_of ps) none)))

-- a place that stands elsewhere
pub not_there : (i q : ℕ) (xs : List ℕ) → times i xs ≡ 0 → 1 ≤ times q xs → q ≢ i
not_there i q xs none there e = absurd (omega (arith, none, subst (λ z. 1 ≤ times z xs) e there))

module _ {K S T : Type 0} (eq : K → K → Bool) (hash : S → K → ℕ) (order : Linked K) (index : Index S) (weights : List ℕ) (values : List (Option T)) (kept : IsKept eq hash order index weights values) where
  -- columns that are longer at most
  pub kept_longer : (index' : Index S) (weights' : List ℕ) (values' : List (Option T)) → Lengthens weights values weights' values' →
      Indexes eq hash index' (item_of order.live) → length values ≤ length values' → length values' ≤ length weights' → length weights' ≤ room_of index' → length values' ≤ 4294967295 → IsKept eq hash order index' weights' values'
  kept_longer index' weights' values' same indexed longer weighed indexable few = record {
    numbered = kept.numbered;
    held = λ p live. subst IsSome (sym (same.values_same p)) (kept.held p live);
    indexed = indexed;
    wide = omega (arith, kept.wide, longer);
    weighed = weighed;
    indexable = indexable;
    few = few;
  }

  pub rows_longer : (weights' : List ℕ) (values' : List (Option T)) → Lengthens weights values weights' values' → (live : List (ℕ × K)) → rows_in weights' values' live ≡ rows_in weights values live
  rows_longer weights' values' same live = rows-same weights weights' values values' live (λ p h. same.weights_same p) (λ p h. same.values_same p)

  module _ (i : ℕ) (s : Stands eq hash order index weights values kept i) where
    pub there_once : times i (indices_of order.live) ≡ 1
    there_once = omega (arith, once_all eq hash order index weights values kept i, stands_from_item order.live i (ap is_some s.found))

    pub within_values : i < length values
    within_values = omega (arith, kept.wide, within eq hash order index weights values kept i s.key s.found)

    pub within_weights : i < length weights
    within_weights = omega (arith, within_values, kept.weighed)

    -- a row goes first
    module _ (order' : Linked K) (is : order' ≡ list_promoted order i) (numbered : IsNumbered order') where
      live_is : order'.live ≡ (i, s.key) ∷ list_without order.live i
      live_is = ap (λ (l : Linked K). l.live) is ∙ promoted_is order i s.key s.found

      freed_is : order'.freed ≡ order.freed
      freed_is = ap (λ (l : Linked K). l.freed) is

      same_items : (q : ℕ) → item_of order.live q ≡ item_of order'.live q
      same_items q = same_promoted order i s.key s.found q ∙ ap (λ (l : Linked K). item_of l.live q) (sym is)

      pub kept_promoted : IsKept eq hash order' index weights values
      kept_promoted = record {
        numbered = numbered;
        held = λ p live. kept.held p (subst IsSome (sym (same_items p)) live);
        indexed = same_keys eq hash index (item_of order.live) (item_of order'.live) same_items kept.indexed;
        wide = omega (arith, kept.wide, ap length live_is, ap length freed_is, without_length order.live i, there_once);
        weighed = kept.weighed;
        indexable = kept.indexable;
        few = kept.few;
      }

      pub rows_promoted : rows_in weights values order'.live ≡ promoted (rows_in weights values order.live) i
      rows_promoted = ap (rows_in weights values) live_is ∙ rows-first weights values order.live i s.key s.value s.found s.holds (held_all eq hash order index weights values kept)

      pub free_promoted : length order'.freed ≡ length order.freed
      free_promoted = ap length freed_is

    -- a row goes last
    module _ (order' : Linked K) (is : order' ≡ list_demoted order i) (numbered : IsNumbered order') where
      last_live_is : order'.live ≡ list_without order.live i ++ (i, s.key) ∷ []
      last_live_is = ap (λ (l : Linked K). l.live) is ∙ demoted_is order i s.key s.found

      last_freed_is : order'.freed ≡ order.freed
      last_freed_is = ap (λ (l : Linked K). l.freed) is

      last_items : (q : ℕ) → item_of order.live q ≡ item_of order'.live q
      last_items q =
          elim (cases_eq i q) [
            | inl e ↦ subst (λ z. item_of order.live z ≡ item_of (list_without order.live i ++ (i, s.key) ∷ []) z) e (s.found ∙ sym (item_end (list_without order.live i) i s.key (without_times order.live i)))
            | inr ne ↦ sym (item_before_end (list_without order.live i) i s.key q ne ∙ item_kept order.live i q ne)
          ]
          ∙ ap (λ ps. item_of ps q) (sym last_live_is)

      pub kept_demoted : IsKept eq hash order' index weights values
      kept_demoted = record {
        numbered = numbered;
        held = λ p live. kept.held p (subst IsSome (sym (last_items p)) live);
        indexed = same_keys eq hash index (item_of order.live) (item_of order'.live) last_items kept.indexed;
        wide = omega (arith, kept.wide, ap length last_live_is, length-append (list_without order.live i) ((i, s.key) ∷ []), ap length last_freed_is, without_length order.live i, there_once);
        weighed = kept.weighed;
        indexable = kept.indexable;
        few = kept.few;
      }

      pub rows_demoted : rows_in weights values order'.live ≡ demoted (rows_in weights values order.live) i
      rows_demoted = ap (rows_in weights values) last_live_is ∙ rows-last weights values order.live i s.key s.value s.found s.holds (held_all eq hash order index weights values kept)

      pub free_demoted : length order'.freed ≡ length order.freed
      free_demoted = ap length last_freed_is

    -- a row gets another weight
    module _ (w : ℕ) (weights' : List ℕ) (is : weights' ≡ set weights i w) where
      pub kept_weight : IsKept eq hash order index weights' values
      kept_weight = record {
        numbered = kept.numbered;
        held = kept.held;
        indexed = kept.indexed;
        wide = kept.wide;
        weighed = omega (arith, kept.weighed, ap length is, length-set weights i w);
        indexable = omega (arith, kept.indexable, ap length is, length-set weights i w);
        few = kept.few;
      }

      pub rows_weight : rows_in weights' values order.live ≡ with_weight (rows_in weights values order.live) i w
      rows_weight = ap (λ ws. rows_in ws values order.live) is ∙ rows-weight weights values i w within_weights order.live

    -- a row gets other data
    module _ (d : T) (values' : List (Option T)) (is : values' ≡ set values i (Some d)) where
      held_written : (p : ℕ) → IsLive order p → IsSome (value_at values' p)
      held_written p live =
          elim (cases_eq p i) [
            | inl e ↦ is_some_of (value_at values' p) d (ap (λ vs. value_at vs p) is ∙ ap (value_at (set values i (Some d))) e ∙ get_or-set_same values i (Some d) None within_values)
            | inr ne ↦ subst IsSome (sym (ap (λ vs. value_at vs p) is ∙ get_or-set_other values i p (Some d) None ne)) (kept.held p live)
          ]

      pub kept_value : IsKept eq hash order index weights values'
      kept_value = record {
        numbered = kept.numbered;
        held = held_written;
        indexed = kept.indexed;
        wide = omega (arith, kept.wide, ap length is, length-set values i (Some d));
        weighed = omega (arith, kept.weighed, ap length is, length-set values i (Some d));
        indexable = kept.indexable;
        few = omega (arith, kept.few, ap length is, length-set values i (Some d));
      }

      pub rows_value : rows_in weights values' order.live ≡ with_value (rows_in weights values order.live) i d
      rows_value = ap (λ vs. rows_in weights vs order.live) is ∙ rows-value weights values i s.value d s.holds within_values order.live

    -- a row is taken out
    module _ (blank : K) (order' : Linked K) (is : order' ≡ removed order i blank) (numbered : IsNumbered order')
        (index' : Index S) (indexed : Indexes eq hash index' (gone_at (item_of order.live) (Some i))) (room : room_of index' ≡ room_of index)
        (values' : List (Option T)) (values_is : values' ≡ set values i None) where
      out_live : order'.live ≡ list_without order.live i
      out_live = ap (λ (l : Linked K). l.live) is

      pub free_removed : length order'.freed ≡ length order.freed + 1
      free_removed = omega (arith, ap (λ (l : Linked K). length l.freed) is)

      out_items : (q : ℕ) → gone (item_of order.live) i q ≡ item_of order'.live q
      out_items q = gone_without order.live i q ∙ ap (λ ps. item_of ps q) (sym out_live)

      still_held : (p : ℕ) → IsLive order' p → IsSome (value_at values' p)
      still_held p live =
          elim (cases_eq p i) [
            | inl e ↦ absurd (false≢true (sym (ap is_some (sym (out_items p) ∙ ap (gone (item_of order.live) i) e ∙ gone_here (item_of order.live) i)) ∙ live))
            | inr ne ↦
                subst IsSome (sym (ap (λ vs. value_at vs p) values_is ∙ get_or-set_other values i p None None ne))
                (kept.held p (subst IsSome (sym (out_items p) ∙ gone_other (item_of order.live) i p (λ e. ne (sym e))) live))
          ]

      pub kept_removed : IsKept eq hash order' index' weights values'
      kept_removed = record {
        numbered = numbered;
        held = still_held;
        indexed = same_keys eq hash index' (gone (item_of order.live) i) (item_of order'.live) out_items indexed;
        wide = omega (arith, kept.wide, ap length out_live, free_removed, without_length order.live i, there_once, ap length values_is, length-set values i None);
        weighed = omega (arith, kept.weighed, ap length values_is, length-set values i None);
        indexable = omega (arith, kept.indexable, room);
        few = omega (arith, kept.few, ap length values_is, length-set values i None);
      }

      pub rows_removed : rows_in weights values' order'.live ≡ without (rows_in weights values order.live) i
      rows_removed =
          ap (rows_in weights values') out_live
          ∙ rows-same weights weights values values' (list_without order.live i) (λ p h. refl)
          (λ p h. ap (λ vs. value_at vs p) values_is ∙ get_or-set_other values i p None None (not_there i p (indices_of (list_without order.live i)) none_left h))
          ∙ rows-without weights values order.live i
        where
          none_left : times i (indices_of (list_without order.live i)) ≡ 0
          none_left = without_times order.live i

  none_next : times (next_slot order) (indices_of order.live) ≡ 0
  none_next = next_slot_absent order kept.numbered

  pub slot_free : IsFree index (next_slot order)
  slot_free = is_free eq hash index (item_of order.live) kept.indexed (next_slot order) (item_absent order.live (next_slot order) none_next)

  pub slot_empty : row_at (rows_in weights values order.live) (next_slot order) ≡ None
  slot_empty = row_missing weights values order.live (next_slot order) (item_absent order.live (next_slot order) none_next)

  module _ (room : length order.live + 2 < length values) where
    pub slot_in : next_slot order < length values
    slot_in = from order.freed refl
      where
        from : (freed : List (ℕ × K)) → order.freed ≡ freed → next_slot order < length values
        from [] e = omega (arith, room, ap (λ fs. slice_index_or (indices_of fs) 0 (length order.live + length fs + 2)) e, ap length e)
        from (p ∷ ps) e =
            omega (
              arith,
              kept.wide,
              ap (λ fs. slice_index_or (indices_of fs) 0 (length order.live + length fs + 2)) e,
              (stands_in order kept.numbered p.0 (omega (arith, ap (λ fs. times p.0 (indices_of fs)) e, times_here p.0 (indices_of ps)))).1,
            )

  -- a row comes in, first or last, at the place that the order gives it
  module _ (k : K) (d : T) (w : ℕ) (room : length order.live + 2 < length values) (order' : Linked K) (numbered : IsNumbered order') (weights' : List ℕ) (values' : List (Option T))
      (weights_is : weights' ≡ set weights (next_slot order) w) (values_is : values' ≡ set values (next_slot order) (Some d)) where
    slot_within : next_slot order < length values
    slot_within = slot_in room

    weighed_slot : next_slot order < length weights
    weighed_slot = omega (arith, slot_within, kept.weighed)

    none_there : times (next_slot order) (indices_of order.live) ≡ 0
    none_there = next_slot_absent order kept.numbered

    value_here : value_at values' (next_slot order) ≡ Some d
    value_here = ap (λ vs. value_at vs (next_slot order)) values_is ∙ get_or-set_same values (next_slot order) (Some d) None slot_within

    weight_here : get_or weights' (next_slot order) 0 ≡ w
    weight_here = ap (λ ws. get_or ws (next_slot order) 0) weights_is ∙ get_or-set_same weights (next_slot order) w 0 weighed_slot

    rows_before : rows_in weights' values' order.live ≡ rows_in weights values order.live
    rows_before =
        rows-same weights weights' values values' order.live
        (λ p h. ap (λ ws. get_or ws p 0) weights_is ∙ get_or-set_other weights (next_slot order) p w 0 (not_there (next_slot order) p (indices_of order.live) none_there h))
        (λ p h. ap (λ vs. value_at vs p) values_is ∙ get_or-set_other values (next_slot order) p (Some d) None (not_there (next_slot order) p (indices_of order.live) none_there h))

    module _ (index' : Index S) (inserts : Inserts eq hash index k (next_slot order) index') (laws : IsEquivalence eq) (absent : row_of eq (rows_in weights values order.live) k ≡ None)
        (room_same : room_of index' ≡ room_of index) where
      indexed_in : (items : ℕ → Option K) → ((q : ℕ) → put (item_of order.live) (next_slot order) k q ≡ items q) → Indexes eq hash index' items
      indexed_in items same =
          same_keys eq hash index' (put (item_of order.live) (next_slot order) k) items same
          (inserts (item_of order.live) (λ p j e. absent_key eq hash order index weights values kept laws k absent p j e) kept.indexed)

      -- each place of the new order has its data
      still_there : (items : ℕ → Option K) → ((q : ℕ) → put (item_of order.live) (next_slot order) k q ≡ items q) → (p : ℕ) → IsSome (items p) → IsSome (value_at values' p)
      still_there items same p live =
          elim (cases_eq p (next_slot order)) [
            | inl e ↦ is_some_of (value_at values' p) d (ap (value_at values') e ∙ value_here)
            | inr ne ↦
                subst IsSome (sym (ap (λ vs. value_at vs p) values_is ∙ get_or-set_other values (next_slot order) p (Some d) None ne))
                (kept.held p (subst IsSome (sym (same p) ∙ put_other (item_of order.live) (next_slot order) k p (λ e. ne (sym e))) live))
          ]

      kept_in : length order'.live ≡ length order.live + 1 → order'.freed ≡ drop 1 order.freed → ((q : ℕ) → put (item_of order.live) (next_slot order) k q ≡ item_of order'.live q) → IsKept eq hash order' index' weights' values'
      kept_in one_more freed_is same = record {
        numbered = numbered;
        held = still_there (item_of order'.live) same;
        indexed = indexed_in (item_of order'.live) same;
        wide = omega (arith, kept.wide, room, one_more, ap length freed_is, length-drop 1 order.freed, ap length values_is, length-set values (next_slot order) (Some d));
        weighed = omega (arith, kept.weighed, ap length weights_is, length-set weights (next_slot order) w, ap length values_is, length-set values (next_slot order) (Some d));
        indexable = omega (arith, kept.indexable, room_same, ap length weights_is, length-set weights (next_slot order) w);
        few = omega (arith, kept.few, ap length values_is, length-set values (next_slot order) (Some d));
      }

      module _ (first : order' ≡ pushed_head order k) where
        pub kept_first : IsKept eq hash order' index' weights' values'
        kept_first =
            kept_in (ap (λ (l : Linked K). length l.live) first ∙ omega arith) (ap (λ (l : Linked K). l.freed) first)
            (λ q. put_first order.live (next_slot order) k q ∙ ap (λ (l : Linked K). item_of l.live q) (sym first))

        pub rows_first : rows_in weights' values' order'.live ≡ placed (next_slot order) k d w ∷ rows_in weights values order.live
        rows_first =
            ap (λ (l : Linked K). rows_in weights' values' l.live) first
            ∙ rows-cons weights' values' (next_slot order, k) order.live d value_here
            ∙ ap (λ n. placed (next_slot order) k d n ∷ rows_in weights' values' order.live) weight_here
            ∙ ap (λ rs. placed (next_slot order) k d w ∷ rs) rows_before

      module _ (last : order' ≡ pushed_tail order k) where
        pub kept_last : IsKept eq hash order' index' weights' values'
        kept_last =
            kept_in (ap (λ (l : Linked K). length l.live) last ∙ length-append order.live ((next_slot order, k) ∷ [])) (ap (λ (l : Linked K). l.freed) last)
            (λ q. put_last order.live (next_slot order) k none_there q ∙ ap (λ (l : Linked K). item_of l.live q) (sym last))

        pub rows_last : rows_in weights' values' order'.live ≡ rows_in weights values order.live ++ placed (next_slot order) k d w ∷ []
        rows_last =
            ap (λ (l : Linked K). rows_in weights' values' l.live) last
            ∙ rows-append weights' values' order.live ((next_slot order, k) ∷ [])
            ∙ ap (λ rs. rs ++ rows_in weights' values' ((next_slot order, k) ∷ [])) rows_before
            ∙ ap (λ rs. rows_in weights values order.live ++ rs)
            (rows-cons weights' values' (next_slot order, k) [] d value_here ∙ ap (λ n. placed (next_slot order) k d n ∷ []) weight_here)
