-- The pairs that an iterator has left to show, and their keys.
use Rattle.std.proofs.Common.{◌≡◌, ℕ, ◌<◌, ◌≤◌, List, [], ◌∷◌, ◌++◌, length, map, get_or, Some, refl, sym, ap, ◌∙◌, arith}
use Rattle.std.specs.Prelude.{Option, IsSome}
use Rattle.std.specs.Option.{option_map}
use Rattle.std.specs.List.{cons_option}
use Rattle.std.proofs.lemmas.List.{map-append}
use Rattle.std.proofs.lemmas.List.Elements.{filter_map-append}
use Rattle.lru_list.specs.Linked.{Linked, indices_of, items_of, times}
use Rattle.lru_list.proofs.Chains.{times_here}
use Rattle.lru_list.proofs.LinkedLaws.{stands_in}
use Rattle.lru_rows.specs.Rows.{Placed, entry_of}
use Rattle.lru_rows.proofs.Listed.{stands_behind}
use Rattle.lru_pairs.specs.Representation.Nodes.{Laid, laid_in, rows_in, AreHeld, AreWeighed, ArePairs, keys_in, IsHeld}
use Rattle.lru_pairs.proofs.Laid.{some_is, rows-cons, rows-append}
use Rattle.lru_pairs.proofs.Seen.{rows_are}

module _ {K V : Type 0} (weights : List ℕ) where
  pub entries-cons : (p : ℕ × Option (K × V)) (ps : List (ℕ × Option (K × V))) (e : K × V) → p.1 ≡ Some e → map entry_of (rows_in weights (p ∷ ps)) ≡ (e.0, e.1, get_or weights p.0 0) ∷ map entry_of (rows_in weights ps)
  entries-cons p ps e is = ap (map entry_of) (rows-cons weights p ps e is)

  pub entries-push : (ps : List (ℕ × Option (K × V))) (p : ℕ × Option (K × V)) (e : K × V) → p.1 ≡ Some e → map entry_of (rows_in weights (ps ++ p ∷ [])) ≡ map entry_of (rows_in weights ps) ++ (e.0, e.1, get_or weights p.0 0) ∷ []
  entries-push ps p e is =
      ap (map entry_of) (rows-append weights ps (p ∷ [])) ∙ map-append entry_of (rows_in weights ps) (rows_in weights (p ∷ []))
      ∙ ap (λ es. map entry_of (rows_in weights ps) ++ es) (entries-cons p [] e is)

  pub weighed_split : (ps : List (ℕ × Option (K × V))) (p : ℕ × Option (K × V)) → AreWeighed weights (ps ++ p ∷ []) → AreWeighed weights ps × (IsSome p.1 × (p.0 < length weights))
  weighed_split [] p h = (tt, (h.0, h.1.0))
  weighed_split (q ∷ qs) p h = let m = weighed_split qs p h.1.1 in ((h.0, (h.1.0, m.0)), m.1)

  pub length-entries : (ps : List (ℕ × Option (K × V))) → AreWeighed weights ps → length (map entry_of (rows_in weights ps)) ≡ length ps
  length-entries [] h = refl
  length-entries (p ∷ ps) h = let e = some_is p.1 h.0 in ap length (entries-cons p ps e.0 e.1) ∙ omega (arith, length-entries ps h.1.1)

  weighed_all : (ps : List (ℕ × Option (K × V))) → AreHeld ps → ((p : ℕ) → 1 ≤ times p (indices_of ps) → p < length weights) → AreWeighed weights ps
  weighed_all [] h within = tt
  weighed_all (p ∷ ps) h within = (h.0, (within p.0 (omega (arith, times_here p.0 (indices_of ps))), weighed_all ps h.1 (λ q there. within q (stands_behind p.0 (indices_of ps) q there))))

module _ {K V : Type 0} where
  pub keys-cons : (x : Option (K × V)) (xs : List (Option (K × V))) (e : K × V) → x ≡ Some e → keys_in (x ∷ xs) ≡ e.0 ∷ keys_in xs
  keys-cons x xs e is = ap (λ o. cons_option (option_map (λ (z : K × V). z.0) o) (keys_in xs)) is

  pub keys-push : (xs : List (Option (K × V))) (x : Option (K × V)) (e : K × V) → x ≡ Some e → keys_in (xs ++ x ∷ []) ≡ keys_in xs ++ e.0 ∷ []
  keys-push xs x e is = filter_map-append (option_map (λ (z : K × V). z.0)) xs (x ∷ []) ∙ ap (λ ks. keys_in xs ++ ks) (keys-cons x [] e is)

  pub pairs_split : (xs : List (Option (K × V))) (x : Option (K × V)) → ArePairs (xs ++ x ∷ []) → ArePairs xs × IsSome x
  pairs_split [] x h = (tt, h.0)
  pairs_split (y ∷ ys) x h = let m = pairs_split ys x h.1 in ((h.0, m.0), m.1)

  pub length-keys : (xs : List (Option (K × V))) → ArePairs xs → length (keys_in xs) ≡ length xs
  length-keys [] h = refl
  length-keys (x ∷ xs) h = let e = some_is x h.0 in ap length (keys-cons x xs e.0 e.1) ∙ omega (arith, length-keys xs h.1)

  pub pairs_all : (ps : List (ℕ × Option (K × V))) → AreHeld ps → ArePairs (items_of ps)
  pairs_all [] h = tt
  pairs_all (p ∷ ps) h = (h.0, pairs_all ps h.1)

  keys_all : (weights : List ℕ) (ps : List (ℕ × Option (K × V))) → AreHeld ps → keys_in (items_of ps) ≡ map (λ (r : Placed K V). r.key) (rows_in weights ps)
  keys_all weights [] h = refl
  keys_all weights (p ∷ ps) h =
      let e = some_is p.1 h.0 in
      keys-cons p.1 (items_of ps) e.0 e.1 ∙ ap (λ ks. e.0.0 ∷ ks) (keys_all weights ps h.1) ∙ sym (ap (map (λ (r : Placed K V). r.key)) (rows-cons weights p ps e.0 e.1))

module _ {K V : Type 0} (weights : List ℕ) (list : Linked (Option (K × V))) (is : IsHeld weights list) where
  pub all_weighed : AreWeighed weights list.live
  all_weighed = weighed_all weights list.live is.held (λ p there. omega (arith, is.wide, (stands_in list is.numbered p (omega (arith, there))).1))

  module _ (l : Laid K V) (view : laid_in weights list ≡ l) where
    pub all_entries : map entry_of (rows_in weights list.live) ≡ map entry_of l.held.rows
    all_entries = ap (map entry_of) (rows_are weights list is l view)

    pub all_keys : keys_in (items_of list.live) ≡ map (λ (r : Placed K V). r.key) l.held.rows
    all_keys = keys_all weights list.live is.held ∙ ap (map (λ (r : Placed K V). r.key)) (rows_are weights list is l view)
