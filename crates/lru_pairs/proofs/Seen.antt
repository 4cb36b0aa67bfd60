-- The rows that a caller sees of a list of pairs and its column, and what calls make of them.
use Rattle.std.proofs.Common.{◌≡◌, ◌≢◌, ℕ, ◌+◌, ◌-◌, ◌<◌, ◌≤◌, true, false, List, [], ◌∷◌, ◌++◌, length, get_or, set, Some, None, Err, refl, sym, ap, ◌∙◌, subst, arith}
use Rattle.std.specs.Prelude.{Option, Bool, is_some, slice_get, slice_index_or, map, drop, max}
use Rattle.std.specs.Option.{option_map}
use Rattle.std.proofs.lemmas.Option.{slice_get-map}
use Rattle.std.proofs.lemmas.List.{length-set, length-append, length-drop, get_or-set_same, get_or-set_other}
use Rattle.lru_list.specs.Linked.{Linked, item_of, indices_of, times, IsNumbered, IsLive, head_of, tail_of, next_slot, pushed_head, with_item, promoted as list_promoted, demoted as list_demoted, without as list_without, Removes as list_Removes, Pushes as list_Pushes}
use Rattle.lru_list.proofs.Chains.{times_here}
use Rattle.lru_list.proofs.LinkedLaws.{live_range, live_once, stands_from_item, stands_in, next_slot_absent}
use Rattle.lru_rows.specs.Rows.{Placed, placed, recency, row_at, IsAt, first_row, last_row, promoted, demoted, with_weight, with_value, without, taken, most_rows}
use Rattle.lru_rows.proofs.Orders.{promoted_is, demoted_is, item_absent, taken_back}
use Rattle.lru_rows.proofs.Listed.{some_of}
use Rattle.lru_rows.proofs.Moves.{without_length, not_there}
use Rattle.lru_rows.proofs.Pushed.{added, pushed}
use Rattle.lru_list.specs.declared.linked_list.PushError.{PushError}
use Rattle.lru_list.specs.declared.linked_list.PushError.TheVariants.{Memory as ListMemory, Full as ListFull}
use Rattle.lru_rows.proofs.Viewed.{get_stands}
use Rattle.lru_pairs.specs.Representation.Nodes.{Laid, laid, with_rows, rows_in, laid_in, AreHeld, IsHeld, IsLaid, keys_at}
use Rattle.lru_pairs.specs.Pairs.{with_entry}
use Rattle.lru_pairs.proofs.Laid.{Stands, stands, keys_some, places-rows, length-rows, places_times, rows-cons, rows-append, rows-same, rows-without, rows-first, rows-last, rows-weight, rows-written, row_missing, length-written, numbered_written, only_value, held_without, held_append, held_written}

-- a push that was refused
pub refused_full : {K : Type 0} (old pushed : Linked K) (x : K) (e : PushError K) (y : K) (new : Linked K) → e ≡ ListFull y → list_Pushes old pushed x (Err e) new → (length old.live ≡ most_rows) × (y ≡ x) × (new ≡ old)
refused_full old pushed x (ListFull z) y new is refused = (refused.0, sym (same_full z y is) ∙ refused.1, refused.2)
  where
    same_full : {K : Type 0} (a b : K) → ListFull a ≡ ListFull b → a ≡ b
    same_full a b e = cc
refused_full old pushed x (ListMemory z) y new is refused = absurd (not_memory z y is)
  where
    not_memory : {K : Type 0} (a b : K) → ListMemory a ≡ ListFull b → ⊥
    not_memory a b e = cc

-- the key and the value of a pair
pub same_pair : {K V : Type 0} (k k' : K) (v v' : V) (y : Option (K × V)) → y ≡ Some (k, v) → y ≡ Some (k', v') → (k ≡ k') × (v ≡ v')
same_pair k k' v v' y a b = let e : (k, v) ≡ (k', v') = some_of (k, v) (k', v') (sym a ∙ b) in (ap (λ x. x.0) e, ap (λ x. x.1) e)

module _ {K V : Type 0} (weights : List ℕ) (list : Linked (Option (K × V))) (is : IsHeld weights list) where
  -- what is kept is what a caller may know
  pub laid_well : IsLaid (laid_in weights list)
  laid_well = record {
    once = λ p. omega (arith, places_times weights p list.live is.held, live_once list is.numbered p);
    within = λ p at. let s = stands weights list.live p is.held at in let range = live_range list is.numbered p (ap is_some s.found) in (range.0, omega (arith, range.1, is.wide));
    wide = omega (arith, length-rows weights list.live is.held, is.wide);
    few = is.few;
  }

  -- the same list by another name
  pub laid_as : (list' : Linked (Option (K × V))) → list' ≡ list → IsLaid (laid_in weights list')
  laid_as list' same = subst (λ x. IsLaid (laid_in weights x)) (sym same) laid_well

  module _ (l : Laid K V) (view : laid_in weights list ≡ l) where
    pub rows_are : rows_in weights list.live ≡ l.held.rows
    rows_are = ap (λ (x : Laid K V). x.held.rows) view

    pub free_is : length list.freed ≡ l.held.free
    free_is = ap (λ (x : Laid K V). x.held.free) view

    pub room_is : length weights ≡ l.room
    room_is = ap (λ (x : Laid K V). x.room) view

    pub valid : IsLaid l
    valid = subst IsLaid view laid_well

    pub len_is : (n : ℕ) → n ≡ length list.live → n ≡ length l.held.rows
    len_is n e = e ∙ sym (length-rows weights list.live is.held) ∙ ap length rows_are

    pub keys_is : (p : ℕ) → is_some (item_of list.live p) ≡ is_some (keys_at l.held.rows p)
    keys_is p = keys_some weights list.live p is.held ∙ ap (λ rs. is_some (keys_at rs p)) rows_are

    -- the first place, and the last
    pub first_is : (o : Option ℕ) → o ≡ head_of list → o ≡ option_map (λ (x : Placed K V). x.place) (first_row l.held.rows)
    first_is o e =
        e ∙ ap (λ ps. slice_get ps 0) (sym (places-rows weights list.live is.held))
        ∙ slice_get-map (λ (x : Placed K V). x.place) (rows_in weights list.live) 0
        ∙ ap (λ rs. option_map (λ (x : Placed K V). x.place) (first_row rs)) rows_are

    pub last_is : (o : Option ℕ) → o ≡ tail_of list → o ≡ option_map (λ (x : Placed K V). x.place) (last_row l.held.rows)
    last_is o e =
        e ∙ ap (λ ps. slice_get ps (length list.live - 1)) (sym (places-rows weights list.live is.held))
        ∙ ap (λ n. slice_get (map (λ (x : Placed K V). x.place) (rows_in weights list.live)) (n - 1)) (sym (length-rows weights list.live is.held))
        ∙ slice_get-map (λ (x : Placed K V). x.place) (rows_in weights list.live) (length (rows_in weights list.live) - 1)
        ∙ ap (λ rs. option_map (λ (x : Placed K V). x.place) (last_row rs)) rows_are

    fits : (p : ℕ) → 1 ≤ times p (indices_of list.live) → p < 4294967296
    fits p there = omega (arith, is.wide, is.few, (stands_in list is.numbered p (omega (arith, there))).1)

    pub first_fits : (p : ℕ) → Some p ≡ head_of list → p < 4294967296
    first_fits p e = fits p (get_stands (indices_of list.live) 0 p (sym e))

    pub last_fits : (p : ℕ) → Some p ≡ tail_of list → p < 4294967296
    last_fits p e = fits p (get_stands (indices_of list.live) (length list.live - 1) p (sym e))

    module _ (p : ℕ) (at : IsAt l.held.rows p) where
      pub node : Stands weights list.live p
      node = stands weights list.live p is.held (subst (λ rs. IsAt rs p) (sym rows_are) at)

      pub live : IsLive list p
      live = ap is_some node.found

      pub weighed : p < length weights
      weighed = omega (arith, is.wide, (live_range list is.numbered p live).1)

      pub row : row_at l.held.rows p ≡ Some (placed p node.pair.0 node.pair.1 (get_or weights p 0))
      row = ap (λ rs. row_at rs p) (sym rows_are) ∙ node.row

      there_once : times p (indices_of list.live) ≡ 1
      there_once = omega (arith, live_once list is.numbered p, stands_from_item list.live p live)

      -- a pair goes first
      module _ (list' : Linked (Option (K × V))) (moves : list' ≡ list_promoted list p) (numbered : IsNumbered list') where
        first_live : list'.live ≡ (p, Some node.pair) ∷ list_without list.live p
        first_live = ap (λ (x : Linked (Option (K × V))). x.live) moves ∙ promoted_is list p (Some node.pair) node.found

        pub held_promoted : IsHeld weights list'
        held_promoted = record {
          numbered = numbered;
          held = subst AreHeld (sym first_live) (refl, held_without list.live p is.held);
          wide = omega (arith, is.wide, ap length first_live, ap (λ (x : Linked (Option (K × V))). length x.freed) moves, without_length list.live p, there_once);
          few = is.few;
        }

        pub view_promoted : laid_in weights list' ≡ with_rows l (promoted l.held.rows p)
        view_promoted =
            ap (λ ps. laid (recency (rows_in weights ps) (length list'.freed)) (length weights)) first_live
            ∙ ap (λ rs. laid (recency rs (length list'.freed)) (length weights)) (rows-first weights list.live p node is.held ∙ ap (λ rs. promoted rs p) rows_are)
            ∙ ap (λ n. laid (recency (promoted l.held.rows p) n) (length weights)) (ap (λ (x : Linked (Option (K × V))). length x.freed) moves ∙ free_is)
            ∙ ap (laid (recency (promoted l.held.rows p) l.held.free)) room_is

      -- a pair goes last
      module _ (list' : Linked (Option (K × V))) (moves : list' ≡ list_demoted list p) (numbered : IsNumbered list') where
        last_live : list'.live ≡ list_without list.live p ++ (p, Some node.pair) ∷ []
        last_live = ap (λ (x : Linked (Option (K × V))). x.live) moves ∙ demoted_is list p (Some node.pair) node.found

        pub held_demoted : IsHeld weights list'
        held_demoted = record {
          numbered = numbered;
          held = subst AreHeld (sym last_live) (held_append (list_without list.live p) ((p, Some node.pair) ∷ []) (held_without list.live p is.held) (refl, tt));
          wide = omega (arith, is.wide, ap length last_live, length-append (list_without list.live p) ((p, Some node.pair) ∷ []), ap (λ (x : Linked (Option (K × V))). length x.freed) moves, without_length list.live p, there_once);
          few = is.few;
        }

        pub view_demoted : laid_in weights list' ≡ with_rows l (demoted l.held.rows p)
        view_demoted =
            ap (λ ps. laid (recency (rows_in weights ps) (length list'.freed)) (length weights)) last_live
            ∙ ap (λ rs. laid (recency rs (length list'.freed)) (length weights)) (rows-last weights list.live p node is.held ∙ ap (λ rs. demoted rs p) rows_are)
            ∙ ap (λ n. laid (recency (demoted l.held.rows p) n) (length weights)) (ap (λ (x : Linked (Option (K × V))). length x.freed) moves ∙ free_is)
            ∙ ap (laid (recency (demoted l.held.rows p) l.held.free)) room_is

      -- a pair gets another weight
      module _ (w : ℕ) (weights' : List ℕ) (set_is : weights' ≡ set weights p w) where
        pub held_weight : IsHeld weights' list
        held_weight = record {
          numbered = is.numbered;
          held = is.held;
          wide = omega (arith, is.wide, ap length set_is, length-set weights p w);
          few = omega (arith, is.few, ap length set_is, length-set weights p w);
        }

        pub view_weight : laid_in weights' list ≡ with_rows l (with_weight l.held.rows p w)
        view_weight =
            ap (λ ws. laid_in ws list) set_is
            ∙ ap (λ rs. laid (recency rs (length list.freed)) (length (set weights p w))) (rows-weight weights p w weighed list.live is.held ∙ ap (λ rs. with_weight rs p w) rows_are)
            ∙ ap (λ n. laid (recency (with_weight l.held.rows p w) n) (length (set weights p w))) free_is
            ∙ ap (laid (recency (with_weight l.held.rows p w) l.held.free)) (length-set weights p w ∙ room_is)

      -- another pair is written, with a weight
      module _ (k : K) (v : V) (w : ℕ) (list' : Linked (Option (K × V))) (writes : list' ≡ with_item list p (Some (k, v))) (weights' : List ℕ) (long : length weights' ≡ length weights) (here : get_or weights' p 0 ≡ w)
          (others : (q : ℕ) → q ≢ p → get_or weights' q 0 ≡ get_or weights q 0) where
        live_long : length list'.live ≡ length list.live
        live_long = ap (λ (x : Linked (Option (K × V))). length x.live) writes ∙ length-written list.live p (Some (k, v))

        freed_long : length list'.freed ≡ length list.freed
        freed_long = ap (λ (x : Linked (Option (K × V))). length x.freed) writes ∙ length-written list.freed p (Some (k, v))

        pub held_entry : IsHeld weights' list'
        held_entry = record {
          numbered = subst IsNumbered (sym writes) (numbered_written list p (Some (k, v)) is.numbered);
          held = subst (λ (x : Linked (Option (K × V))). AreHeld x.live) (sym writes) (held_written list.live p (k, v) is.held);
          wide = omega (arith, is.wide, live_long, freed_long, long);
          few = omega (arith, is.few, long);
        }

        pub view_entry : laid_in weights' list' ≡ with_rows l (with_entry l.held.rows p k v w)
        view_entry =
            ap (λ (x : Linked (Option (K × V))). laid (recency (rows_in weights' x.live) (length list'.freed)) (length weights')) writes
            ∙ ap (λ rs. laid (recency rs (length list'.freed)) (length weights')) (rows-written weights weights' p k v w here others list.live is.held ∙ ap (λ rs. with_entry rs p k v w) rows_are)
            ∙ ap (λ n. laid (recency (with_entry l.held.rows p k v w) n) (length weights')) (freed_long ∙ free_is)
            ∙ ap (laid (recency (with_entry l.held.rows p k v w) l.held.free)) (long ∙ room_is)

      -- what is handed out is the row's
      pub taken_is : (e : K × V) → Some node.pair ≡ Some e → (w : ℕ) → w ≡ get_or weights p 0 → option_map taken (row_at l.held.rows p) ≡ Some (record { key = e.0; value = e.1; weight = w })
      taken_is e same w weight_is =
          ap (option_map taken) row
          ∙ ap (λ (x : K × V). Some (taken (placed p x.0 x.1 (get_or weights p 0)))) (some_of node.pair e same)
          ∙ ap (λ n. Some (taken (placed p e.0 e.1 n))) (sym weight_is)

      -- only the value is another
      pub view_value : (d : V) (list' : Linked (Option (K × V))) → list' ≡ with_item list p (Some (node.pair.0, d)) → laid_in weights list' ≡ with_rows l (with_value l.held.rows p d)
      view_value d list' writes =
          view_entry node.pair.0 d (get_or weights p 0) list' writes weights refl refl (λ q ne. refl)
          ∙ ap (with_rows l) (only_value p node.pair.0 node.pair.1 d (get_or weights p 0) l.held.rows (valid.once p) row)

      -- a pair goes
      module _ (IsBlank : Option (K × V) → Type 0) (x : Option (K × V)) (list' : Linked (Option (K × V))) (removes : list_Removes IsBlank list p x list') (numbered : IsNumbered list') where
        pub node_is : x ≡ Some node.pair
        node_is = some_of x (Some node.pair) (sym removes.0 ∙ node.found)

        out_live : list'.live ≡ list_without list.live p
        out_live = ap (λ (y : Linked (Option (K × V))). y.live) removes.1.2

        out_freed : length list'.freed ≡ length list.freed + 1
        out_freed = omega (arith, ap (λ (y : Linked (Option (K × V))). length y.freed) removes.1.2)

        pub held_out : IsHeld weights list'
        held_out = record {
          numbered = numbered;
          held = subst AreHeld (sym out_live) (held_without list.live p is.held);
          wide = omega (arith, is.wide, ap length out_live, out_freed, without_length list.live p, there_once);
          few = is.few;
        }

        pub view_out : laid_in weights list' ≡ laid (recency (without l.held.rows p) (l.held.free + 1)) l.room
        view_out =
            ap (λ ps. laid (recency (rows_in weights ps) (length list'.freed)) (length weights)) out_live
            ∙ ap (λ rs. laid (recency rs (length list'.freed)) (length weights)) (rows-without weights list.live p is.held ∙ ap (λ rs. without rs p) rows_are)
            ∙ ap (λ n. laid (recency (without l.held.rows p) n) (length weights)) (out_freed ∙ ap (λ n. n + 1) free_is)
            ∙ ap (laid (recency (without l.held.rows p) (l.held.free + 1))) room_is

    -- a pair more, where the column has room for it
    module _ (room : length l.held.rows + 2 < l.room) where
      rows_live : length l.held.rows ≡ length list.live
      rows_live = ap length (sym rows_are) ∙ length-rows weights list.live is.held

      slot_in : next_slot list < length weights
      slot_in = from list.freed refl
        where
          from : (freed : List (ℕ × Option (K × V))) → list.freed ≡ freed → next_slot list < length weights
          from [] e = omega (arith, room, room_is, rows_live, ap (λ (fs : List (ℕ × Option (K × V))). slice_index_or (indices_of fs) 0 (length list.live + length fs + 2)) e, ap length e)
          from (q ∷ qs) e =
              omega (
                arith,
                is.wide,
                ap (λ (fs : List (ℕ × Option (K × V))). slice_index_or (indices_of fs) 0 (length list.live + length fs + 2)) e,
                (stands_in list is.numbered q.0 (omega (arith, ap (λ (fs : List (ℕ × Option (K × V))). times q.0 (indices_of fs)) e, times_here q.0 (indices_of qs)))).1,
              )

      pub short : length list.live < most_rows → length l.held.rows < most_rows
      short few = omega (arith, few, rows_live)

      pub full : length list.live ≡ most_rows → length l.held.rows ≡ most_rows
      full most = omega (arith, most, rows_live)

      pub none_free : list.freed ≡ [] → l.held.free ≡ 0
      none_free e = sym free_is ∙ ap length e

      module _ (p : ℕ) (p_is : p ≡ next_slot list) where
        pub place_in : p < length weights
        place_in = subst (λ n. n < length weights) (sym p_is) slot_in

        pub place_fits : p < 4294967296
        place_fits = omega (arith, place_in, is.few)

        absent : times p (indices_of list.live) ≡ 0
        absent = ap (λ n. times n (indices_of list.live)) p_is ∙ next_slot_absent list is.numbered

        pub no_row : row_at l.held.rows p ≡ None
        no_row = ap (λ rs. row_at rs p) (sym rows_are) ∙ row_missing weights list.live p (item_absent list.live p absent) is.held

        module _ (last : Bool) (k : K) (v : V) (list' : Linked (Option (K × V))) (list_is : list' ≡ pushed last list (Some (k, v))) (numbered : IsNumbered list') (w : ℕ) (weights' : List ℕ) (weights_is : weights' ≡ set weights p w) where
          weight_here : get_or weights' p 0 ≡ w
          weight_here = ap (λ ws. get_or ws p 0) weights_is ∙ get_or-set_same weights p w 0 place_in

          before : rows_in weights' list.live ≡ rows_in weights list.live
          before = rows-same weights weights' list.live (λ q there. ap (λ ws. get_or ws q 0) weights_is ∙ get_or-set_other weights p q w 0 (not_there p q (indices_of list.live) absent there))

          new_row : placed (next_slot list) k v (get_or weights' (next_slot list) 0) ≡ placed p k v w
          new_row = ap (λ q. placed q k v (get_or weights' q 0)) (sym p_is) ∙ ap (λ n. placed p k v n) weight_here

          held_by : (b : Bool) → list' ≡ pushed b list (Some (k, v)) → AreHeld list'.live
          held_by true e = subst (λ (x : Linked (Option (K × V))). AreHeld x.live) (sym e) (held_append list.live ((next_slot list, Some (k, v)) ∷ []) is.held (refl, tt))
          held_by false e = subst (λ (x : Linked (Option (K × V))). AreHeld x.live) (sym e) (refl, is.held)

          length_by : (b : Bool) → list' ≡ pushed b list (Some (k, v)) → length list'.live ≡ length list.live + 1
          length_by true e = ap (λ (x : Linked (Option (K × V))). length x.live) e ∙ length-append list.live ((next_slot list, Some (k, v)) ∷ [])
          length_by false e = ap (λ (x : Linked (Option (K × V))). length x.live) e ∙ omega arith

          freed_by : (b : Bool) → (pushed b list (Some (k, v))).freed ≡ drop 1 list.freed
          freed_by true = refl
          freed_by false = refl

          freed_left : length list'.freed ≡ length list.freed - 1
          freed_left = ap (λ (x : Linked (Option (K × V))). length x.freed) list_is ∙ ap length (freed_by last) ∙ length-drop 1 list.freed

          rows_by : (b : Bool) → list' ≡ pushed b list (Some (k, v)) → rows_in weights' list'.live ≡ added b (rows_in weights list.live) (placed p k v w)
          rows_by true e =
              ap (λ (x : Linked (Option (K × V))). rows_in weights' x.live) e ∙ rows-append weights' list.live ((next_slot list, Some (k, v)) ∷ [])
              ∙ ap (λ rs. rs ++ rows_in weights' ((next_slot list, Some (k, v)) ∷ [])) before
              ∙ ap (λ rs. rows_in weights list.live ++ rs) (rows-cons weights' (next_slot list, Some (k, v)) [] (k, v) refl ∙ ap (λ r. r ∷ []) new_row)
          rows_by false e =
              ap (λ (x : Linked (Option (K × V))). rows_in weights' x.live) e ∙ rows-cons weights' (next_slot list, Some (k, v)) list.live (k, v) refl
              ∙ ap (λ r. r ∷ rows_in weights' list.live) new_row ∙ ap (λ rs. placed p k v w ∷ rs) before

          pub held_pushed : IsHeld weights' list'
          held_pushed = record {
            numbered = numbered;
            held = held_by last list_is;
            wide = omega (arith, is.wide, room, room_is, rows_live, length_by last list_is, freed_left, ap length weights_is, length-set weights p w);
            few = omega (arith, is.few, ap length weights_is, length-set weights p w);
          }

          pub view_pushed : laid_in weights' list' ≡ laid (recency (added last l.held.rows (placed p k v w)) (l.held.free - 1)) l.room
          view_pushed =
              ap (λ rs. laid (recency rs (length list'.freed)) (length weights')) (rows_by last list_is ∙ ap (λ rs. added last rs (placed p k v w)) rows_are)
              ∙ ap (λ n. laid (recency (added last l.held.rows (placed p k v w)) n) (length weights')) (freed_left ∙ ap (λ n. n - 1) free_is)
              ∙ ap (laid (recency (added last l.held.rows (placed p k v w)) (l.held.free - 1))) (ap length weights_is ∙ length-set weights p w ∙ room_is)

        -- a place that is taken and given back is free
        module _ (between : Linked (Option (K × V))) (between_is : between ≡ pushed_head list None) (IsBlank : Option (K × V) → Type 0) (x : Option (K × V)) (list' : Linked (Option (K × V)))
            (removes : list_Removes IsBlank between p x list') (numbered : IsNumbered list') where
          live_back : list'.live ≡ list.live
          live_back =
              ap (λ (y : Linked (Option (K × V))). y.live) removes.1.2 ∙ ap (λ (y : Linked (Option (K × V))). list_without y.live p) between_is
              ∙ ap (list_without (pushed_head list None).live) p_is
              ∙ taken_back list.live (next_slot list) None (next_slot_absent list is.numbered)

          freed_back : length list'.freed ≡ length (drop 1 list.freed) + 1
          freed_back = omega (arith, ap (λ (y : Linked (Option (K × V))). length y.freed) removes.1.2, ap (λ (y : Linked (Option (K × V))). length y.freed) between_is)

          pub held_back : IsHeld weights list'
          held_back = record {
            numbered = numbered;
            held = subst AreHeld (sym live_back) is.held;
            wide = omega (arith, is.wide, room, room_is, rows_live, ap length live_back, freed_back, length-drop 1 list.freed);
            few = is.few;
          }

          pub view_back : recency (rows_in weights list'.live) (length list'.freed) ≡ recency l.held.rows (max l.held.free 1)
          view_back =
              ap (λ ps. recency (rows_in weights ps) (length list'.freed)) live_back
              ∙ ap (λ rs. recency rs (length list'.freed)) rows_are
              ∙ ap (recency l.held.rows) (one_free (length list.freed) (length list'.freed) (freed_back ∙ ap (λ n. n + 1) (length-drop 1 list.freed)) ∙ ap (λ n. max n 1) free_is)
            where
              one_free : (n m : ℕ) → m ≡ (n - 1) + 1 → m ≡ max n 1
              one_free n m e = omega (arith, e)
