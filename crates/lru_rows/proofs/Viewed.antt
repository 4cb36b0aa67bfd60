-- The rows that a caller sees, and what calls make of them.
use Rattle.std.proofs.Common.{◌≡◌, ℕ, ◌-◌, ◌<◌, ◌≤◌, List, [], ◌∷◌, length, get_or, set, Some, sym, ap, ◌∙◌, subst, arith, zero, suc}
use Rattle.std.specs.Prelude.{Option, Bool, is_some, IsSome, IsTrue, slice_get, map}
use Rattle.std.specs.Option.{option_map}
use Rattle.std.specs.Cmp.{IsEquivalence}
use Rattle.std.proofs.lemmas.Option.{slice_get-map}
use Rattle.lru_index.specs.Index.{Index, Finds as index_Finds}
use Rattle.lru_list.specs.Linked.{Linked, item_of, indices_of, times, head_of, tail_of, IsNumbered, IsLive, promoted as list_promoted, demoted as list_demoted}
use Rattle.std.proofs.lemmas.Bool.{false≢true}
use Rattle.lru_list.proofs.Chains.{times_here}
use Rattle.lru_list.proofs.LinkedLaws.{live_range, stands_in}
use Rattle.lru_rows.specs.Rows.{Placed, placed, Recency, recency, row_at, IsAt, Finds, IsRecency, last_row, first_row, promoted, demoted, with_weight, with_value}
use Rattle.lru_rows.specs.Representation.Columns.{value_at, rows_in, IsKept}
use Rattle.lru_rows.proofs.Listed.{some_of, stands_behind, places-rows}
use Rattle.lru_rows.proofs.Kept.{key_of_place, is_some_of, Stands, stands, held_all, recency_holds, finds_row, finds_by, length_is}
use Rattle.lru_rows.proofs.Moves.{rows_promoted, free_promoted, rows_demoted, free_demoted, rows_weight, rows_value}

-- what is found in a list stands there
pub get_stands : (xs : List ℕ) (n p : ℕ) → slice_get xs n ≡ Some p → 1 ≤ times p xs
get_stands [] n p is = absurd (false≢true (ap is_some is))
get_stands (x ∷ xs) zero p is = subst (λ z. 1 ≤ times z (x ∷ xs)) (some_of x p is) (omega (arith, times_here x xs))
get_stands (x ∷ xs) (suc n) p is = stands_behind x xs p (get_stands xs n p is)

module _ {K S T : Type 0} (eq : K → K → Bool) (hash : S → K → ℕ) (order : Linked K) (index : Index S) (weights : List ℕ) (values : List (Option T)) (kept : IsKept eq hash order index weights values)
    (r : Recency K T) (view : recency (rows_in weights values order.live) (length order.freed) ≡ r) where
  pub rows_are : rows_in weights values order.live ≡ r.rows
  rows_are = ap (λ (x : Recency K T). x.rows) view

  pub free_is : length order.freed ≡ r.free
  free_is = ap (λ (x : Recency K T). x.free) view

  pub seen_stands : (p : ℕ) → IsAt r.rows p → Stands eq hash order index weights values kept p
  seen_stands p at = stands eq hash order index weights values kept p (subst (λ rs. IsAt rs p) (sym rows_are) at)

  pub seen_live : (p : ℕ) → IsAt r.rows p → IsLive order p
  seen_live p at = let s = seen_stands p at in is_some_of (item_of order.live p) s.key s.found

  pub seen_held : (p : ℕ) → IsAt r.rows p → IsSome (value_at values p)
  seen_held p at = let s = seen_stands p at in is_some_of (value_at values p) s.value s.holds

  pub seen_within : (p : ℕ) → IsAt r.rows p → p < length weights
  seen_within p at = omega (arith, kept.wide, kept.weighed, (live_range order kept.numbered p (seen_live p at)).1)

  module _ (p : ℕ) (at : IsAt r.rows p) where
    pub seen_row : row_at r.rows p ≡ Some (placed p (seen_stands p at).key (seen_stands p at).value (get_or weights p 0))
    seen_row = ap (λ rs. row_at rs p) (sym rows_are) ∙ (seen_stands p at).row

    pub seen_key_at : (k : K) → item_of order.live p ≡ Some k → option_map (λ (x : Placed K T). x.key) (row_at r.rows p) ≡ Some k
    seen_key_at k found = ap (option_map (λ (x : Placed K T). x.key)) seen_row ∙ sym (seen_stands p at).found ∙ found

    pub seen_value_at : (d : T) → value_at values p ≡ Some d → option_map (λ (x : Placed K T). x.value) (row_at r.rows p) ≡ Some d
    seen_value_at d held = ap (option_map (λ (x : Placed K T). x.value)) seen_row ∙ sym (seen_stands p at).holds ∙ held

    pub seen_weight_at : (w : ℕ) → w ≡ get_or weights p 0 → option_map (λ (x : Placed K T). x.weight) (row_at r.rows p) ≡ Some w
    seen_weight_at w is = ap (option_map (λ (x : Placed K T). x.weight)) seen_row ∙ ap Some (sym is)

    -- the calls that change a row
    pub seen_promoted : (order' : Linked K) → order' ≡ list_promoted order p → IsNumbered order' → recency (rows_in weights values order'.live) (length order'.freed) ≡ recency (promoted r.rows p) r.free
    seen_promoted order' is numbered =
        let s = seen_stands p at in
        ap (λ rs. recency rs (length order'.freed)) (rows_promoted eq hash order index weights values kept p s order' is numbered ∙ ap (λ rs. promoted rs p) rows_are)
        ∙ ap (recency (promoted r.rows p)) (free_promoted eq hash order index weights values kept p s order' is numbered ∙ free_is)

    pub seen_demoted : (order' : Linked K) → order' ≡ list_demoted order p → IsNumbered order' → recency (rows_in weights values order'.live) (length order'.freed) ≡ recency (demoted r.rows p) r.free
    seen_demoted order' is numbered =
        let s = seen_stands p at in
        ap (λ rs. recency rs (length order'.freed)) (rows_demoted eq hash order index weights values kept p s order' is numbered ∙ ap (λ rs. demoted rs p) rows_are)
        ∙ ap (recency (demoted r.rows p)) (free_demoted eq hash order index weights values kept p s order' is numbered ∙ free_is)

    pub seen_reweighed : (w : ℕ) (weights' : List ℕ) → weights' ≡ set weights p w → recency (rows_in weights' values order.live) (length order.freed) ≡ recency (with_weight r.rows p w) r.free
    seen_reweighed w weights' is =
        let s = seen_stands p at in
        ap (λ rs. recency rs (length order.freed)) (rows_weight eq hash order index weights values kept p s w weights' is ∙ ap (λ rs. with_weight rs p w) rows_are)
        ∙ ap (recency (with_weight r.rows p w)) free_is

    pub seen_rewritten : (d : T) (values' : List (Option T)) → values' ≡ set values p (Some d) → recency (rows_in weights values' order.live) (length order.freed) ≡ recency (with_value r.rows p d) r.free
    seen_rewritten d values' is =
        let s = seen_stands p at in
        ap (λ rs. recency rs (length order.freed)) (rows_value eq hash order index weights values kept p s d values' is ∙ ap (λ rs. with_value rs p d) rows_are)
        ∙ ap (recency (with_value r.rows p d)) free_is

    pub seen_rewritten_too : (d : T) (weights' : List ℕ) (values' : List (Option T)) → weights' ≡ weights → values' ≡ set values p (Some d) →
        recency (rows_in weights' values' order.live) (length order.freed) ≡ recency (with_value r.rows p d) r.free
    seen_rewritten_too d weights' values' same is =
        ap (λ ws. recency (rows_in ws values' order.live) (length order.freed)) same ∙ seen_rewritten d values' is

  pub seen_len : (n : ℕ) → n ≡ length order.live → n ≡ length r.rows
  seen_len n is = is ∙ sym (length_is eq hash order index weights values kept) ∙ ap length rows_are

  pub seen_finds_by : {Q : Type 0} (stands : K → Q → Bool) (query : Q) → ((x y : K) → IsTrue (stands x query) → IsTrue (stands y query) → IsTrue (eq x y)) →
      (o : Option ℕ) → index_Finds stands (item_of order.live) query o → Finds stands r.rows query o
  seen_finds_by stands query agree o found = subst (λ rs. Finds stands rs query o) rows_are (finds_by eq hash order index weights values kept stands query agree o found)

  module _ (laws : IsEquivalence eq) where
    pub seen_valid : IsRecency eq r.rows
    seen_valid = subst (IsRecency eq) rows_are (recency_holds eq hash order index weights values kept laws)

    pub seen_finds : (key : K) (o : Option ℕ) → index_Finds eq (item_of order.live) key o → Finds eq r.rows key o
    seen_finds key o found = subst (λ rs. Finds eq rs key o) rows_are (finds_row eq hash order index weights values kept laws key o found)

  -- the last place
  pub last_place : (o : Option ℕ) → o ≡ tail_of order → o ≡ option_map (λ (x : Placed K T). x.place) (last_row r.rows)
  last_place o is =
      is ∙ ap (λ ps. slice_get ps (length order.live - 1)) (sym (places-rows weights values order.live (held_all eq hash order index weights values kept)))
      ∙ ap (λ n. slice_get (map (λ (x : Placed K T). x.place) (rows_in weights values order.live)) (n - 1)) (sym (length_is eq hash order index weights values kept))
      ∙ slice_get-map (λ (x : Placed K T). x.place) (rows_in weights values order.live) (length (rows_in weights values order.live) - 1)
      ∙ ap (λ rs. option_map (λ (x : Placed K T). x.place) (last_row rs)) rows_are

  pub last_live : (p : ℕ) → Some p ≡ tail_of order → IsLive order p
  last_live p is =
      let there = key_of_place eq hash order index weights values kept p (get_stands (indices_of order.live) (length order.live - 1) p (sym is)) in
      is_some_of (item_of order.live p) there.0 there.1

  pub last_fits : (p : ℕ) → Some p ≡ tail_of order → p < 4294967296
  last_fits p is =
      let there : 1 ≤ times p (indices_of order.live) = get_stands (indices_of order.live) (length order.live - 1) p (sym is) in
      omega (arith, kept.wide, kept.few, (stands_in order kept.numbered p (omega (arith, there))).1)

  -- the first place
  pub first_live : (p : ℕ) → Some p ≡ head_of order → IsLive order p
  first_live p is =
      let there = key_of_place eq hash order index weights values kept p (get_stands (indices_of order.live) 0 p (sym is)) in
      is_some_of (item_of order.live p) there.0 there.1

  pub first_fits : (p : ℕ) → Some p ≡ head_of order → p < 4294967296
  first_fits p is =
      let there : 1 ≤ times p (indices_of order.live) = get_stands (indices_of order.live) 0 p (sym is) in
      omega (arith, kept.wide, kept.few, (stands_in order kept.numbered p (omega (arith, there))).1)

  pub first_place : (o : Option ℕ) → o ≡ head_of order → o ≡ option_map (λ (x : Placed K T). x.place) (first_row r.rows)
  first_place o is =
      is ∙ ap (λ ps. slice_get ps 0) (sym (places-rows weights values order.live (held_all eq hash order index weights values kept)))
      ∙ slice_get-map (λ (x : Placed K T). x.place) (rows_in weights values order.live) 0
      ∙ ap (λ rs. option_map (λ (x : Placed K T). x.place) (first_row rs)) rows_are
