-- Rows that are put in, first or last.
use Rattle.std.proofs.Common.{◌≡◌, ℕ, ◌+◌, ◌-◌, ◌<◌, ◌≤◌, List, [], ◌∷◌, ◌++◌, length, set, Some, None, refl, sym, ap, ◌∙◌, subst, arith, false, true, not, eqb, zero, suc, Ok, Err}
use Rattle.std.specs.Prelude.{Option, Bool, IsSome, Result, IfOk, IfErr, drop, max, if◌then◌else◌}
use Rattle.std.specs.Result.{is_ok}
use Rattle.std.proofs.lemmas.Bool.{false≢true}
use Rattle.std.specs.Cmp.{IsEquivalence}
use Rattle.std.proofs.lemmas.List.{length-drop}
use Rattle.lru_index.specs.Index.{Index, Indexes, Inserts, IsFree, room_of}
use Rattle.lru_list.specs.Linked.{Linked, item_of, IsNumbered, IsLive, next_slot, pushed_head, pushed_tail, Pushes as list_Pushes, Removes as list_Removes, without as list_without}
use Rattle.lru_list.specs.declared.linked_list.PushError.{PushError}
use Rattle.lru_list.specs.declared.linked_list.PushError.TheVariants.{Memory as ListMemory, Full as ListFull}
use Rattle.lru_list.proofs.LinkedLaws.{next_slot_absent, live_range}
use Rattle.lru_rows.specs.Rows.{Placed, placed, Recency, recency, row_at, row_of, most_rows}
use Rattle.lru_rows.specs.Representation.Columns.{rows_in, IsKept, Lengthens}
use Rattle.lru_rows.proofs.Orders.{put_first, put_last, taken_back}
use Rattle.lru_index.proofs.Tables.{put_here}
use Rattle.lru_rows.proofs.Listed.{some_of}
use Rattle.lru_rows.proofs.Kept.{is_some_of, length_is}
use Rattle.lru_rows.proofs.Moves.{rows_longer, slot_in, slot_free, slot_empty, kept_first, rows_first, kept_last, rows_last}
use Rattle.lru_rows.proofs.Viewed.{rows_are, free_is}

-- a row goes last, or else first
abbrev pub added : {K T : Type 0} → Bool → List (Placed K T) → Placed K T → List (Placed K T)
added last rows r = if last then rows ++ r ∷ [] else r ∷ rows

abbrev pub pushed : {K : Type 0} → Bool → Linked K → K → Linked K
pushed last order k = if last then pushed_tail order k else pushed_head order k

-- room that was made, or refused
pub room_made : {E : Type 0} (live len : ℕ) → len ≡ live → (result : Result (Unit {0}) E) (wide : ℕ) → IfOk result (λ _. len + 2 < wide) → is_ok result ≡ true → live + 2 < wide
room_made live len is (Ok _) wide room ok = omega (arith, is, room)
room_made live len is (Err _) wide room ok = absurd (false≢true ok)

pub room_refused : {E : Type 0} (result : Result (Unit {0}) E) (wide len : ℕ) → IfErr result (λ _. wide ≤ len + 2) → is_ok result ≡ false → wide ≤ len + 2
room_refused (Ok _) wide len full no_room = absurd (false≢true (sym no_room))
room_refused (Err _) wide len full no_room = full

-- a push for which there was no memory
pub refused_memory : {K : Type 0} (old pushed : Linked K) (x : K) (e : PushError K) (key : K) (new : Linked K) → e ≡ ListMemory key → list_Pushes old pushed x (Err e) new →
    (old.freed ≡ []) × (key ≡ x) × (new ≡ old)
refused_memory old pushed x (ListMemory y) key new is refused = (refused.1, sym (same_memory y key is) ∙ refused.2, refused.3)
  where
    same_memory : {K : Type 0} (a b : K) → ListMemory a ≡ ListMemory b → a ≡ b
    same_memory a b e = cc
refused_memory old pushed x (ListFull y) key new is refused = absurd (not_full y key is)
  where
    not_full : {K : Type 0} (a b : K) → ListFull a ≡ ListMemory b → ⊥
    not_full a b e = cc

-- a count that is not none
some_one : (n : ℕ) → not (eqb n 0) ≡ true → 1 ≤ n
some_one zero none = absurd (false≢true none)
some_one (suc n) some = omega arith

-- where a row lacks a place, and why
module _ {K S T : Type 0} (eq : K → K → Bool) (hash : S → K → ℕ) (order : Linked K) (index : Index S) (weights : List ℕ) (values : List (Option T)) (kept : IsKept eq hash order index weights values)
    (r : Recency K T) (view : recency (rows_in weights values order.live) (length order.freed) ≡ r) where
  length_seen : length r.rows ≡ length order.live
  length_seen = sym (ap length (rows_are eq hash order index weights values kept r view)) ∙ length_is eq hash order index weights values kept

  pub lacks_full : (n : ℕ) → n ≡ length order.live → n ≤ 4294967293 → 4294967293 ≤ n → length r.rows ≡ most_rows
  lacks_full n is most least = omega (arith, length_seen, is, most, least)

  pub lacks_some : (n : ℕ) → n ≡ length order.live → n < 4294967293 → length r.rows < most_rows
  lacks_some n is few = omega (arith, length_seen, is, few)

  -- no place is free where the columns are full
  pub none_free : (n : ℕ) → n ≡ length order.live → length values ≤ n + 2 → r.free ≡ 0
  none_free n is full = omega (arith, free_is eq hash order index weights values kept r view, kept.wide, is, full)

  pub none_freed : order.freed ≡ [] → r.free ≡ 0
  none_freed e = sym (free_is eq hash order index weights values kept r view) ∙ ap length e

  -- a slot that is freed is a place more
  pub has_vacancy : (b : Bool) → b ≡ not (eqb (length order.freed) 0) → b ≡ true → (length r.rows < most_rows) × (r ≡ recency r.rows (max r.free 1))
  has_vacancy b is there =
      let some = some_one (length order.freed) (sym is ∙ there) in
      let free = free_is eq hash order index weights values kept r view in
      let most : r.free ≡ max r.free 1 = omega (arith, some, free) in
      (omega (arith, length_seen, kept.wide, kept.few, some), ap (recency r.rows) most)

  -- the view through columns that are longer at most
  module _ (weights' : List ℕ) (values' : List (Option T)) (same : Lengthens weights values weights' values') where
    pub view_longer : recency (rows_in weights' values' order.live) (length order.freed) ≡ r
    view_longer = ap (λ rs. recency rs (length order.freed)) (rows_longer eq hash order index weights values kept weights' values' same order.live) ∙ view

module _ {K S T : Type 0} (eq : K → K → Bool) (hash : S → K → ℕ) (order : Linked K) (index : Index S) (weights : List ℕ) (values : List (Option T)) (kept : IsKept eq hash order index weights values)
    (r : Recency K T) (view : recency (rows_in weights values order.live) (length order.freed) ≡ r) (room : length order.live + 2 < length values) where
  module _ (last : Bool) (k : K) (p : ℕ) (order' : Linked K) (p_is : p ≡ next_slot order) (order_is : order' ≡ pushed last order k) (numbered : IsNumbered order') where
    -- the new key stands at its place
    pub new_key : item_of order'.live p ≡ Some k
    new_key = ap (λ (l : Linked K). item_of l.live p) order_is ∙ ap (item_of (pushed last order k).live) p_is ∙ by_end last
      where
        by_end : (b : Bool) → item_of (pushed b order k).live (next_slot order) ≡ Some k
        by_end true = sym (put_last order.live (next_slot order) k (next_slot_absent order kept.numbered) (next_slot order)) ∙ put_here (item_of order.live) (next_slot order) k
        by_end false = sym (put_first order.live (next_slot order) k (next_slot order)) ∙ put_here (item_of order.live) (next_slot order) k

    pub new_live : IsLive order' p
    new_live = is_some_of (item_of order'.live p) k new_key

    pub new_positive : 0 < p
    new_positive = omega (arith, (live_range order' numbered p new_live).0)

    pub new_within : p < length values
    new_within = subst (λ n. n < length values) (sym p_is) (slot_in eq hash order index weights values kept room)

    pub new_weighed : p < length weights
    new_weighed = omega (arith, new_within, kept.weighed)

    pub new_indexable : p < room_of index
    new_indexable = omega (arith, new_weighed, kept.indexable)

    pub new_fits : p ≤ 4294967295
    new_fits = omega (arith, new_within, kept.few)

    pub new_free : IsFree index p
    new_free = subst (IsFree index) (sym p_is) (slot_free eq hash order index weights values kept)

    module _ (d : T) (w : ℕ) (key : K) (key_is : item_of order'.live p ≡ Some key) (index' : Index S) (inserts : Inserts eq hash index key p index') (room_same : room_of index' ≡ room_of index)
        (weights' : List ℕ) (values' : List (Option T)) (weights_is : weights' ≡ set weights p w) (values_is : values' ≡ set values p (Some d)) (laws : IsEquivalence eq) (absent : row_of eq r.rows k ≡ None) where
      inserts_k : Inserts eq hash index k (next_slot order) index'
      inserts_k = subst (λ q. Inserts eq hash index k q index') p_is (subst (λ x. Inserts eq hash index x p index') (sym (some_of k key (sym new_key ∙ key_is))) inserts)

      weights_next : weights' ≡ set weights (next_slot order) w
      weights_next = weights_is ∙ ap (λ q. set weights q w) p_is

      values_next : values' ≡ set values (next_slot order) (Some d)
      values_next = values_is ∙ ap (λ q. set values q (Some d)) p_is

      absent_in : row_of eq (rows_in weights values order.live) k ≡ None
      absent_in = ap (λ rs. row_of eq rs k) (rows_are eq hash order index weights values kept r view) ∙ absent

      kept_by : (b : Bool) → order' ≡ pushed b order k → IsKept eq hash order' index' weights' values'
      kept_by true is = kept_last eq hash order index weights values kept k d w room order' numbered weights' values' weights_next values_next index' inserts_k laws absent_in room_same is
      kept_by false is = kept_first eq hash order index weights values kept k d w room order' numbered weights' values' weights_next values_next index' inserts_k laws absent_in room_same is

      pub kept_pushed : IsKept eq hash order' index' weights' values'
      kept_pushed = kept_by last order_is

      rows_by : (b : Bool) → order' ≡ pushed b order k → rows_in weights' values' order'.live ≡ added b (rows_in weights values order.live) (placed (next_slot order) k d w)
      rows_by true is = rows_last eq hash order index weights values kept k d w room order' numbered weights' values' weights_next values_next index' inserts_k laws absent_in room_same is
      rows_by false is = rows_first eq hash order index weights values kept k d w room order' numbered weights' values' weights_next values_next index' inserts_k laws absent_in room_same is

      freed_by : (b : Bool) → (pushed b order k).freed ≡ drop 1 order.freed
      freed_by true = refl
      freed_by false = refl

      pub view_pushed : recency (rows_in weights' values' order'.live) (length order'.freed) ≡ recency (added last r.rows (placed p k d w)) (r.free - 1)
      view_pushed =
          ap (λ rs. recency rs (length order'.freed))
          (rows_by last order_is ∙ ap (λ q. added last (rows_in weights values order.live) (placed q k d w)) (sym p_is)
          ∙ ap (λ rs. added last rs (placed p k d w)) (rows_are eq hash order index weights values kept r view))
          ∙ ap (recency (added last r.rows (placed p k d w)))
          (ap (λ (l : Linked K). length l.freed) order_is ∙ ap length (freed_by last) ∙ length-drop 1 order.freed ∙ ap (λ n. n - 1) (free_is eq hash order index weights values kept r view))

      pub not_there_before : row_at r.rows p ≡ None
      not_there_before = ap (λ rs. row_at rs p) (sym (rows_are eq hash order index weights values kept r view)) ∙ ap (row_at (rows_in weights values order.live)) p_is ∙ slot_empty eq hash order index weights values kept

  -- a place that is taken and given back is free
  module _ (IsBlank : K → Type 0) (x : K) (p : ℕ) (between : Linked K) (p_is : p ≡ next_slot order) (between_is : between ≡ pushed_head order x) (y : K) (order' : Linked K)
      (removes : list_Removes IsBlank between p y order') (numbered : IsNumbered order') where
    live_back : order'.live ≡ order.live
    live_back =
        ap (λ (l : Linked K). l.live) removes.1.2 ∙ ap (λ (l : Linked K). list_without l.live p) between_is ∙ ap (list_without (pushed_head order x).live) p_is
        ∙ taken_back order.live (next_slot order) x (next_slot_absent order kept.numbered)

    freed_back : length order'.freed ≡ length (drop 1 order.freed) + 1
    freed_back = omega (arith, ap (λ (l : Linked K). length l.freed) removes.1.2, ap (λ (l : Linked K). length l.freed) between_is)

    pub kept_back : IsKept eq hash order' index weights values
    kept_back = record {
      numbered = numbered;
      held = λ q live. kept.held q (subst (λ ps. IsSome (item_of ps q)) live_back live);
      indexed = subst (λ ps. Indexes eq hash index (item_of ps)) (sym live_back) kept.indexed;
      wide = omega (arith, kept.wide, room, ap length live_back, freed_back, length-drop 1 order.freed);
      weighed = kept.weighed;
      indexable = kept.indexable;
      few = kept.few;
    }

    pub view_back : recency (rows_in weights values order'.live) (length order'.freed) ≡ recency r.rows (max r.free 1)
    view_back =
        ap (λ ps. recency (rows_in weights values ps) (length order'.freed)) live_back
        ∙ ap (λ rs. recency rs (length order'.freed)) (rows_are eq hash order index weights values kept r view)
        ∙ ap (recency r.rows) (one_free (length order.freed) (length order'.freed) (freed_back ∙ ap (λ n. n + 1) (length-drop 1 order.freed)) ∙ ap (λ n. max n 1) (free_is eq hash order index weights values kept r view))
      where
        one_free : (n m : ℕ) → m ≡ (n - 1) + 1 → m ≡ max n 1
        one_free n m is = omega (arith, is)
