-- What is known of rows by what is kept of them.
use Rattle.std.proofs.Common.{◌≡◌, ℕ, ◌+◌, ◌<◌, ◌≤◌, List, length, get_or, Some, None, refl, sym, ap, ◌∙◌, subst, arith, true, false, ◌/◌, ◌^◌}
use Rattle.std.specs.Prelude.{Option, Bool, is_some, IsSome, IsTrue}
use Rattle.std.specs.Cmp.{IsEquivalence}
use Rattle.std.specs.Option.{option_map}
use Rattle.std.proofs.lemmas.Bool.{false≢true}
use Rattle.lru_index.specs.Index.{Index, Knows, Finds as index_Finds}
use Rattle.lru_list.specs.Linked.{IsLive, Linked, item_of, indices_of, times, made}
use Rattle.lru_list.proofs.LinkedLaws.{item_from_stands, stands_from_item, live_once, live_range}
use Rattle.lru_rows.specs.Rows.{Placed, placed, row_at, row_of, IsAt, Finds, IsRecency}
use Rattle.lru_rows.specs.Representation.Columns.{value_at, rows_in, IsKept}
use Rattle.lru_rows.proofs.Listed.{Held, row_found, row_missing, length-rows}
use Rattle.lru_rows.proofs.Found.{Known, known_all, absent_row, key_row, agreeing, keys_once, places_times}

pub some_is : {A : Type 0} (o : Option A) → IsSome o → (a : A) × (o ≡ Some a)
some_is None h = absurd (false≢true h)
some_is (Some a) h = (a, refl)

pub is_some_of : {A : Type 0} (o : Option A) (a : A) → o ≡ Some a → IsSome o
is_some_of o a e = ap is_some e

module _ {K S T : Type 0} (eq : K → K → Bool) (hash : S → K → ℕ) (order : Linked K) (index : Index S) (weights : List ℕ) (values : List (Option T)) (kept : IsKept eq hash order index weights values) where
  -- a place among the order's has a key
  pub key_of_place : (p : ℕ) → 1 ≤ times p (indices_of order.live) → (k : K) × (item_of order.live p ≡ Some k)
  key_of_place p there = some_is (item_of order.live p) (item_from_stands order.live p there)

  pub held_all : Held weights values order.live
  held_all p there = some_is (value_at values p) (kept.held p (item_from_stands order.live p there))

  pub once_all : (p : ℕ) → times p (indices_of order.live) ≤ 1
  once_all = live_once order kept.numbered

  pub known_keys : Known (item_of order.live) order.live
  known_keys = known_all order.live once_all

  -- what stands at a place that has a row
  pub record Stands (p : ℕ) : Type 0 where
    pub key : K
    pub value : T
    pub found : item_of order.live p ≡ Some key
    pub holds : value_at values p ≡ Some value
    pub row : row_at (rows_in weights values order.live) p ≡ Some (placed p key value (get_or weights p 0))

  pub stands_by_key : (p : ℕ) (k : K) → item_of order.live p ≡ Some k → Stands p
  stands_by_key p k found =
      let v = some_is (value_at values p) (kept.held p (is_some_of (item_of order.live p) k found)) in
      record { key = k; value = v.0; found = found; holds = v.1; row = row_found weights values order.live p k v.0 found v.1 held_all }

  pub stands : (p : ℕ) → IsAt (rows_in weights values order.live) p → Stands p
  stands p at = from (item_of order.live p) refl
    where
      from : (o : Option K) → item_of order.live p ≡ o → Stands p
      from None e = absurd (false≢true (sym (ap is_some (row_missing weights values order.live p e)) ∙ at))
      from (Some k) e = stands_by_key p k e

  -- a live place is within the columns
  pub within : (p : ℕ) (k : K) → item_of order.live p ≡ Some k → p < made order + 2
  within p k found = (live_range order kept.numbered p (is_some_of (item_of order.live p) k found)).1

  pub live_weighed : (p : ℕ) → IsLive order p → p < length weights
  live_weighed p live = omega (arith, (live_range order kept.numbered p live).1, kept.wide, kept.weighed)

  -- the index knows a live place by its key
  pub live_known : (p : ℕ) (k : K) → item_of order.live p ≡ Some k → (index' : Index S) → index' ≡ index → Knows hash index' k p
  live_known p k found index' same =
      subst (λ i. Knows hash i k p) (sym same) (kept.indexed.known p ∙ ap (option_map (λ x. hash index.hash_builder x / 2 ^ index.shift)) found)

  pub length_is : length (rows_in weights values order.live) ≡ length order.live
  length_is = length-rows weights values order.live held_all

  pub recency_holds : IsEquivalence eq → IsRecency eq (rows_in weights values order.live)
  recency_holds laws = record {
    places = λ p. omega (arith, places_times weights values p order.live, once_all p);
    keys = λ k. keys_once eq (item_of order.live) weights values laws kept.indexed.once k order.live known_keys once_all;
    short = omega (arith, length_is, kept.wide, kept.few);
  }

  -- what an index finds is what is found among the rows
  pub finds_by : {Q : Type 0} (stands : K → Q → Bool) (query : Q) → ((x y : K) → IsTrue (stands x query) → IsTrue (stands y query) → IsTrue (eq x y)) →
      (o : Option ℕ) → index_Finds stands (item_of order.live) query o → Finds stands (rows_in weights values order.live) query o
  unfolding stands_by_key
  finds_by stands query agree None absent = absent_row stands (item_of order.live) weights values query absent order.live known_keys
  finds_by stands query agree (Some p) (k, found, same) =
      let s = stands_by_key p k found in (
        placed p k s.value (get_or weights p 0),
        key_row stands (item_of order.live) weights values eq kept.indexed.once query agree p k s.value found same s.holds order.live known_keys held_all (stands_from_item order.live p (ap is_some found)),
        s.row,
      )

  pub finds_row : IsEquivalence eq → (key : K) (o : Option ℕ) → index_Finds eq (item_of order.live) key o → Finds eq (rows_in weights values order.live) key o
  finds_row laws key o found = finds_by eq key (agreeing eq laws key) o found

  -- a key without a row is at no place
  pub absent_key : IsEquivalence eq → (key : K) → row_of eq (rows_in weights values order.live) key ≡ None → (p : ℕ) (k : K) → item_of order.live p ≡ Some k → eq k key ≡ false
  absent_key laws key none p k found = from (eq k key) refl
    where
      from : (b : Bool) → eq k key ≡ b → eq k key ≡ false
      from false e = e
      from true e =
          let row = finds_row laws key (Some p) (k, found, e) in absurd (bad row.0 (sym none ∙ row.1))
        where
          bad : (r : Placed K T) → None ≡ Some r → ⊥
          bad r f = cc
