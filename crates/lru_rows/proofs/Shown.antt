-- The data and the weights that an iterator has left to show.
use Rattle.std.proofs.Common.{◌≡◌, ℕ, ◌<◌, ◌≤◌, List, [], ◌∷◌, ◌++◌, length, map, get_or, Some, refl, sym, ap, ◌∙◌, arith}
use Rattle.std.specs.Prelude.{Option, Bool}
use Rattle.std.specs.Option.{option_map}
use Rattle.std.specs.List.{cons_option}
use Rattle.std.proofs.lemmas.List.{map-append}
use Rattle.std.proofs.lemmas.List.Elements.{filter_map-append}
use Rattle.lru_list.specs.Linked.{Linked, indices_of, items_of, times, item_of}
use Rattle.lru_list.proofs.Chains.{times_here}
use Rattle.lru_list.proofs.LinkedLaws.{live_range}
use Rattle.lru_index.specs.Index.{Index}
use Rattle.lru_rows.specs.Rows.{Placed, pair_of, entry_of, Recency, recency}
use Rattle.lru_rows.specs.Representation.Columns.{value_at, pairs_at, ShowsAll, rows_in, IsKept}
use Rattle.lru_rows.proofs.Listed.{Held, held_head, held_tail, rows-cons, rows-append, stands_behind}
use Rattle.lru_rows.proofs.Kept.{held_all, key_of_place, is_some_of}
use Rattle.lru_rows.proofs.Viewed.{rows_are}

module _ {T : Type 0} (weights : List ℕ) (values : List (Option T)) where
  pub pairs-cons : (p : ℕ) (ps : List ℕ) (d : T) → value_at values p ≡ Some d → pairs_at weights values (p ∷ ps) ≡ (d, get_or weights p 0) ∷ pairs_at weights values ps
  pairs-cons p ps d e = ap (λ o. cons_option (option_map (λ (x : T). (x, get_or weights p 0)) o) (pairs_at weights values ps)) e

  pub pairs-push : (ps : List ℕ) (p : ℕ) (d : T) → value_at values p ≡ Some d → pairs_at weights values (ps ++ p ∷ []) ≡ pairs_at weights values ps ++ (d, get_or weights p 0) ∷ []
  pairs-push ps p d e =
      filter_map-append (λ (q : ℕ). option_map (λ (x : T). (x, get_or weights q 0)) (value_at values q)) ps (p ∷ [])
      ∙ ap (λ o. pairs_at weights values ps ++ cons_option (option_map (λ (x : T). (x, get_or weights p 0)) o) []) e

  pub shows_split : (ps : List ℕ) (p : ℕ) → ShowsAll weights values (ps ++ p ∷ []) → ShowsAll weights values ps × (((d : T) × (value_at values p ≡ Some d)) × (p < length weights))
  shows_split [] p h = (tt, (h.0, h.1.0))
  shows_split (q ∷ qs) p h = let m = shows_split qs p h.1.1 in ((h.0, (h.1.0, m.0)), m.1)

  pub length-pairs : (ps : List ℕ) → ShowsAll weights values ps → length (pairs_at weights values ps) ≡ length ps
  length-pairs [] h = refl
  length-pairs (p ∷ ps) h = ap length (pairs-cons p ps h.0.0 h.0.1) ∙ omega (arith, length-pairs ps h.1.1)

module _ {K T : Type 0} (weights : List ℕ) (values : List (Option T)) where
  pub entries-cons : (p : ℕ × K) (ps : List (ℕ × K)) (d : T) → value_at values p.0 ≡ Some d → map entry_of (rows_in weights values (p ∷ ps)) ≡ (p.1, d, get_or weights p.0 0) ∷ map entry_of (rows_in weights values ps)
  entries-cons p ps d e = ap (map entry_of) (rows-cons weights values p ps d e)

  pub entries-push : (ps : List (ℕ × K)) (p : ℕ × K) (d : T) → value_at values p.0 ≡ Some d → map entry_of (rows_in weights values (ps ++ p ∷ [])) ≡ map entry_of (rows_in weights values ps) ++ (p.1, d, get_or weights p.0 0) ∷ []
  entries-push ps p d e =
      ap (map entry_of) (rows-append weights values ps (p ∷ [])) ∙ map-append entry_of (rows_in weights values ps) (rows_in weights values (p ∷ []))
      ∙ ap (λ es. map entry_of (rows_in weights values ps) ++ es) (entries-cons p [] d e)

  -- the places of pairs with one more behind them
  pub places-push : (ps : List (ℕ × K)) (p : ℕ × K) → indices_of (ps ++ p ∷ []) ≡ indices_of ps ++ p.0 ∷ []
  places-push ps p = map-append (λ (q : ℕ × K). q.0) ps (p ∷ [])

  pub length-entries : (ps : List (ℕ × K)) → ShowsAll weights values (indices_of ps) → length (map entry_of (rows_in weights values ps)) ≡ length ps
  length-entries [] h = refl
  length-entries (p ∷ ps) h = ap length (entries-cons p ps h.0.0 h.0.1) ∙ omega (arith, length-entries ps h.1.1)

  shows_held : (live : List (ℕ × K)) → Held weights values live → ((p : ℕ) → 1 ≤ times p (indices_of live) → p < length weights) → ShowsAll weights values (indices_of live)
  shows_held [] held within = tt
  shows_held (p ∷ ps) held within =
      (held_head weights values p ps held, (within p.0 (omega (arith, times_here p.0 (indices_of ps))), shows_held ps (held_tail weights values p ps held) (λ q h. within q (stands_behind p.0 (indices_of ps) q h))))

  pairs_held : (live : List (ℕ × K)) → Held weights values live → pairs_at weights values (indices_of live) ≡ map pair_of (rows_in weights values live)
  pairs_held [] held = refl
  pairs_held (p ∷ ps) held =
      let v = held_head weights values p ps held in
      pairs-cons weights values p.0 (indices_of ps) v.0 v.1
      ∙ ap (λ zs. (v.0, get_or weights p.0 0) ∷ zs) (pairs_held ps (held_tail weights values p ps held))
      ∙ sym (ap (map pair_of) (rows-cons weights values p ps v.0 v.1))

  pub keys_held : (live : List (ℕ × K)) → Held weights values live → map (λ (r : Placed K T). r.key) (rows_in weights values live) ≡ items_of live
  keys_held [] held = refl
  keys_held (p ∷ ps) held =
      let v = held_head weights values p ps held in
      ap (map (λ (r : Placed K T). r.key)) (rows-cons weights values p ps v.0 v.1) ∙ ap (λ ks. p.1 ∷ ks) (keys_held ps (held_tail weights values p ps held))

module _ {K S T : Type 0} (eq : K → K → Bool) (hash : S → K → ℕ) (order : Linked K) (index : Index S) (weights : List ℕ) (values : List (Option T)) (kept : IsKept eq hash order index weights values)
    (r : Recency K T) (view : recency (rows_in weights values order.live) (length order.freed) ≡ r) where
  pub shows_all : ShowsAll weights values (indices_of order.live)
  shows_all =
      shows_held weights values order.live (held_all eq hash order index weights values kept)
      (λ p there. let k = key_of_place eq hash order index weights values kept p there in
      omega (arith, kept.wide, kept.weighed, (live_range order kept.numbered p (is_some_of (item_of order.live p) k.0 k.1)).1))

  pub all_pairs : pairs_at weights values (indices_of order.live) ≡ map pair_of r.rows
  all_pairs = pairs_held weights values order.live (held_all eq hash order index weights values kept) ∙ ap (map pair_of) (rows_are eq hash order index weights values kept r view)

  pub all_entries : map entry_of (rows_in weights values order.live) ≡ map entry_of r.rows
  all_entries = ap (map entry_of) (rows_are eq hash order index weights values kept r view)

  pub all_keys : items_of order.live ≡ map (λ (x : Placed K T). x.key) r.rows
  all_keys = sym (keys_held weights values order.live (held_all eq hash order index weights values kept)) ∙ ap (map (λ (x : Placed K T). x.key)) (rows_are eq hash order index weights values kept r view)
