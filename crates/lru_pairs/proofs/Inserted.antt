-- A pair that is put before another, and which place stands beside a place, as a caller sees it.
use Rattle.std.proofs.Common.{◌≡◌, ◌≢◌, ℕ, ◌+◌, ◌-◌, ◌<◌, ◌≤◌, List, [], ◌∷◌, ◌++◌, length, get_or, set, Some, None, refl, sym, ap, ◌∙◌, subst, inl, inr, arith}
use Rattle.std.specs.Prelude.{Option, Bool, is_some, ◌⊎◌, IfSome, reverse}
use Rattle.std.specs.Option.{option_map}
use Rattle.std.proofs.lemmas.Bool.{cases_lt}
use Rattle.std.proofs.lemmas.List.{length-set, length-drop, get_or-set_same, get_or-set_other}
use Rattle.lru_index.specs.Index.{Index, Inserts, IsFree, room_of, put}
use Rattle.lru_index.proofs.ForCallers.{same_keys, is_free}
use Rattle.lru_list.specs.Linked.{Linked, indices_of, times, follower, next_of, prev_of, next_slot, IsLive, IsNumbered, IsPlace}
use Rattle.lru_list.specs.Insertions.{inserted}
use Rattle.lru_list.proofs.LinkedLaws.{live_range, stands_in, next_slot_absent}
use Rattle.lru_rows.specs.Rows.{Placed, placed, Recency, recency, row_at, row_of, IsAt}
use Rattle.lru_rows.proofs.Listed.{row_at_here}
use Rattle.lru_rows.proofs.Moves.{not_there}
use Rattle.lru_pairs.specs.Beside.{row_after, row_before, put_before}
use Rattle.lru_pairs.specs.Representation.Nodes.{Laid, laid, laid_in, rows_in, AreHeld, IsHeld, IsLaid, IsKept, keys_at}
use Rattle.lru_pairs.specs.Representation.Insertions.{index_of}
use Rattle.lru_pairs.proofs.Laid.{places-rows, length-rows, rows-same}
use Rattle.lru_pairs.proofs.Seen.{rows_are, free_is, room_is, live, place_in}
use Rattle.lru_pairs.proofs.Kept.{keys_pushed, absent_key}
use Rattle.lru_pairs.proofs.Beside.{places_of, told_none, told_some, told_stands, ring_reversed, times_reversed, at_reversed, row_put, held_put, length-put, rows-put}

module _ {K V : Type 0} (weights : List ℕ) (list : Linked (Option (K × V))) (is : IsHeld weights list) (l : Laid K V) (view : laid_in weights list ≡ l) where
  places_are : indices_of list.live ≡ places_of l.held.rows
  places_are = sym (places-rows weights list.live is.held) ∙ ap places_of (rows_are weights list is l view)

  low : (q : ℕ) → 1 ≤ times q (places_of l.held.rows) → 2 ≤ q
  low q there = (stands_in list is.numbered q (omega (arith, there, ap (times q) places_are))).0

  within : (q : ℕ) → 1 ≤ times q (places_of l.held.rows) → q < 4294967296
  within q there = omega (arith, (stands_in list is.numbered q (omega (arith, there, ap (times q) places_are))).1, is.wide, is.few)

  -- ---- the places beside a place
  module _ (p : ℕ) (at : IsAt l.held.rows p) where
    pub is_place : IsPlace list p
    is_place = (live_range list is.numbered p (live weights list is l view p at)).1

    module _ (n : ℕ) (n_is : n ≡ next_of list p) where
      next_in : n ≡ follower (0 ∷ places_of l.held.rows ++ 1 ∷ []) p
      next_in = n_is ∙ ap (λ ps. follower (0 ∷ ps ++ 1 ∷ []) p) places_are

      pub after_none : n ≡ 1 → None ≡ option_map (λ (r : Placed K V). r.place) (row_after l.held.rows p)
      after_none e = told_none l.held.rows p 0 1 n at (omega arith) (omega arith) low next_in e

      pub after_some : n ≢ 1 → Some n ≡ option_map (λ (r : Placed K V). r.place) (row_after l.held.rows p)
      after_some ne = told_some l.held.rows p 0 1 n at (omega arith) (omega arith) low next_in ne

      pub after_fits : n ≢ 1 → n < 4294967296
      after_fits ne = within n (told_stands l.held.rows p 0 1 n at (omega arith) (omega arith) low next_in ne)

    low_back : (q : ℕ) → 1 ≤ times q (places_of (reverse l.held.rows)) → 2 ≤ q
    low_back q there = low q (omega (arith, there, times_reversed l.held.rows q))

    module _ (n : ℕ) (n_is : n ≡ prev_of list p) where
      prev_in : n ≡ follower (1 ∷ places_of (reverse l.held.rows) ++ 0 ∷ []) p
      prev_in = n_is ∙ ap (λ ps. follower (reverse (0 ∷ ps ++ 1 ∷ [])) p) places_are ∙ ap (λ ps. follower ps p) (ring_reversed l.held.rows)

      pub before_none : n ≡ 0 → None ≡ option_map (λ (r : Placed K V). r.place) (row_before l.held.rows p)
      before_none e = told_none (reverse l.held.rows) p 1 0 n (at_reversed l.held.rows p at) (omega arith) (omega arith) low_back prev_in e

      pub before_some : n ≢ 0 → Some n ≡ option_map (λ (r : Placed K V). r.place) (row_before l.held.rows p)
      before_some ne = told_some (reverse l.held.rows) p 1 0 n (at_reversed l.held.rows p at) (omega arith) (omega arith) low_back prev_in ne

      pub before_fits : n ≢ 0 → n < 4294967296
      before_fits ne =
          within n (omega (arith, told_stands (reverse l.held.rows) p 1 0 n (at_reversed l.held.rows p at) (omega arith) (omega arith) low_back prev_in ne, times_reversed l.held.rows n))

  -- ---- a pair put before another
  -- the index of a place that is named is live, and else it is that of the end
  pub index_there : (named : Option ℕ) → IfSome named (IsAt l.held.rows) → (i : ℕ) → i ≡ index_of named → IsLive list i ⊎ (i ≡ 1)
  index_there None at i i_is = inr i_is
  index_there (Some p) at i i_is = inl (subst (IsLive list) (sym i_is) (live weights list is l view p at))

  module _ (room : length l.held.rows + 2 < l.room) (p : ℕ) (p_is : p ≡ next_slot list) (named : Option ℕ) (i : ℕ) (i_is : i ≡ index_of named) (k : K) (v : V) (list' : Linked (Option (K × V)))
      (list_is : list' ≡ inserted list i (Some (k, v))) (numbered : IsNumbered list') (w : ℕ) (weights' : List ℕ) (weights_is : weights' ≡ set weights p w) where
    p_within : p < length weights
    p_within = place_in weights list is l view room p p_is

    absent : times p (indices_of list.live) ≡ 0
    absent = ap (λ n. times n (indices_of list.live)) p_is ∙ next_slot_absent list is.numbered

    no_end : times 1 (indices_of list.live) ≡ 0
    no_end =
        elim (cases_lt 0 (times 1 (indices_of list.live))) [
          | inl some ↦ absurd (omega (arith, (stands_in list is.numbered 1 (omega (arith, some))).0))
          | inr none ↦ omega (arith, none)
        ]

    same_rows : rows_in weights' list.live ≡ rows_in weights list.live
    same_rows = rows-same weights weights' list.live (λ q there. ap (λ ws. get_or ws q 0) weights_is ∙ get_or-set_other weights p q w 0 (not_there p q (indices_of list.live) absent there))

    weight_here : get_or weights' p 0 ≡ w
    weight_here = ap (λ ws. get_or ws p 0) weights_is ∙ get_or-set_same weights p w 0 p_within

    live_is : list'.live ≡ (inserted list (index_of named) (Some (k, v))).live
    live_is = ap (λ (x : Linked (Option (K × V))). x.live) list_is ∙ ap (λ j. (inserted list j (Some (k, v))).live) i_is

    live_long : length list'.live ≡ length list.live + 1
    live_long = ap length live_is ∙ length-put list.live (index_of named) (next_slot list, Some (k, v))

    freed_left : length list'.freed ≡ length list.freed - 1
    freed_left = ap (λ (x : Linked (Option (K × V))). length x.freed) list_is ∙ length-drop 1 list.freed

    rows_live : length l.held.rows ≡ length list.live
    rows_live = ap length (sym (rows_are weights list is l view)) ∙ length-rows weights list.live is.held

    rows_put : rows_in weights' list'.live ≡ put_before l.held.rows named (placed p k v w)
    rows_put =
        ap (rows_in weights') live_is ∙ rows-put weights' list.live named (next_slot list) (k, v) is.held no_end
        ∙ ap (λ rs. put_before rs named (placed (next_slot list) k v (get_or weights' (next_slot list) 0))) (same_rows ∙ rows_are weights list is l view)
        ∙ ap (λ q. put_before l.held.rows named (placed q k v (get_or weights' q 0))) (sym p_is)
        ∙ ap (λ n. put_before l.held.rows named (placed p k v n)) weight_here

    pub held_inserted : IsHeld weights' list'
    held_inserted = record {
      numbered = numbered;
      held = subst AreHeld (sym live_is) (held_put list.live (index_of named) (next_slot list) (k, v) is.held);
      wide = omega (arith, is.wide, room, room_is weights list is l view, rows_live, live_long, freed_left, ap length weights_is, length-set weights p w);
      few = omega (arith, is.few, ap length weights_is, length-set weights p w);
    }

    pub view_inserted : laid_in weights' list' ≡ laid (recency (put_before l.held.rows named (placed p k v w)) (l.held.free - 1)) l.room
    view_inserted =
        ap (λ rs. laid (recency rs (length list'.freed)) (length weights')) rows_put
        ∙ ap (λ n. laid (recency (put_before l.held.rows named (placed p k v w)) n) (length weights')) (freed_left ∙ ap (λ n. n - 1) (free_is weights list is l view))
        ∙ ap (laid (recency (put_before l.held.rows named (placed p k v w)) (l.held.free - 1))) (ap length weights_is ∙ length-set weights p w ∙ room_is weights list is l view)

-- ---- the index learns of it
module _ {K V S : Type 0} (eq : K → K → Bool) (hash : S → K → ℕ) (nodes : Laid K V) (index : Index S) (kept : IsKept eq hash nodes index) (named : Option ℕ) (k : K) (v : V) (w p : ℕ) (nodes' : Laid K V)
    (is : nodes'.held ≡ recency (put_before nodes.held.rows named (placed p k v w)) (nodes.held.free - 1)) (room : nodes'.room ≡ nodes.room) (valid : IsLaid nodes') (none : row_at nodes.held.rows p ≡ None) where
  same_row : (q : ℕ) → row_at nodes'.held.rows q ≡ row_at (placed p k v w ∷ nodes.held.rows) q
  same_row q = ap (λ (r : Recency K V). row_at r.rows q) is ∙ row_put nodes.held.rows named (placed p k v w) q none

  pub inserted_at : row_at nodes'.held.rows p ≡ Some (placed p k v w)
  inserted_at = same_row p ∙ row_at_here (placed p k v w) nodes.held.rows p refl

  pub inserted_stands : IsAt nodes'.held.rows p
  inserted_stands = ap is_some inserted_at

  pub inserted_positive : 0 < p
  inserted_positive = omega (arith, (valid.within p inserted_stands).0)

  pub inserted_indexable : p < room_of index
  inserted_indexable = omega (arith, (valid.within p inserted_stands).1, room, kept.indexable)

  pub inserted_free : IsFree index p
  inserted_free = is_free eq hash index (keys_at nodes.held.rows) kept.indexed p (ap (option_map (λ (x : Placed K V). x.key)) none)

  pub kept_inserted : row_of eq nodes.held.rows k ≡ None → (index' : Index S) (key : K) → key ≡ k → Inserts eq hash index key p index' → room_of index' ≡ room_of index → IsKept eq hash nodes' index'
  kept_inserted absent index' key same inserts long = record {
    laid = valid;
    indexed =
        same_keys eq hash index' (put (keys_at nodes.held.rows) p k) (keys_at nodes'.held.rows)
        (λ q. keys_pushed nodes.held.rows p k v w q ∙ ap (option_map (λ (x : Placed K V). x.key)) (sym (same_row q)))
        (subst (λ x. Inserts eq hash index x p index') same inserts (keys_at nodes.held.rows) (λ q j e. absent_key eq k nodes.held.rows absent q j e) kept.indexed);
    indexable = omega (arith, kept.indexable, room, long);
  }
