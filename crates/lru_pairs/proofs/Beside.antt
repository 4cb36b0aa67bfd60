-- Which row stands beside that of a place, by the links of a list, and a row put before another.
use Rattle.std.proofs.Common.{◌≡◌, ◌≢◌, ℕ, ◌+◌, ◌<◌, ◌≤◌, true, false, cond, eqb, List, [], ◌∷◌, ◌++◌, length, map, get_or, Some, None, refl, sym, ap, ◌∙◌, subst, inl, inr, arith}
use Rattle.std.specs.Prelude.{Option, Bool, is_some, reverse}
use Rattle.std.specs.Option.{option_map, option_map_or}
use Rattle.std.proofs.lemmas.Bool.{cases_eq, eq-eqb, ne_eqb, false≢true}
use Rattle.std.proofs.lemmas.List.{reverse-append, map-append}
use Rattle.lru_list.specs.Linked.{follower, indices_of, times}
use Rattle.lru_list.specs.Insertions.{put_before as list_put}
use Rattle.lru_list.proofs.Chains.{times_here, times_other, times-reverse, absent_head, absent_tail}
use Rattle.lru_rows.specs.Rows.{Placed, placed, row_at, IsAt, first_row}
use Rattle.lru_rows.proofs.Listed.{some_of, stands_behind, row_at_here, row_at_other}
use Rattle.lru_pairs.specs.Beside.{row_after, stands_at, put_before}
use Rattle.lru_pairs.specs.Representation.Nodes.{rows_in, AreHeld}
use Rattle.lru_pairs.specs.Representation.Insertions.{index_of}
use Rattle.lru_pairs.proofs.Laid.{some_is, rows-cons}

follower_here : (x : ℕ) (xs : List ℕ) (p : ℕ) → x ≡ p → follower (x ∷ xs) p ≡ get_or xs 0 4294967295
follower_here x xs p e = ap (λ b. cond b (get_or xs 0 4294967295) (follower xs p)) (eq-eqb x p e)

follower_other : (x : ℕ) (xs : List ℕ) (p : ℕ) → x ≢ p → follower (x ∷ xs) p ≡ follower xs p
follower_other x xs p ne = ap (λ b. cond b (get_or xs 0 4294967295) (follower xs p)) (ne_eqb x p ne)

by_test : (b : Bool) (P : Bool → Type 0) → (b ≡ true → P true) → (b ≡ false → P false) → P b
by_test true P hit miss = hit refl
by_test false P hit miss = miss refl

module _ {K V : Type 0} where
  abbrev pub places_of : List (Placed K V) → List ℕ
  places_of rows = map (λ (r : Placed K V). r.place) rows

  -- a place has a row exactly where it stands among the places
  pub at_stands : (rows : List (Placed K V)) (p : ℕ) → IsAt rows p → 1 ≤ times p (places_of rows)
  at_stands [] p at = absurd (false≢true at)
  at_stands (r ∷ rs) p at =
      elim (cases_eq r.place p) [
        | inl e ↦ subst (λ q. 1 ≤ times q (r.place ∷ places_of rs)) e (omega (arith, times_here r.place (places_of rs)))
        | inr ne ↦ omega (arith, at_stands rs p (sym (ap is_some (row_at_other r rs p ne)) ∙ at), times_other p r.place (places_of rs) ne)
      ]

  pub stands_here : (rows : List (Placed K V)) (p : ℕ) → 1 ≤ times p (places_of rows) → IsAt rows p
  stands_here [] p there = absurd (omega (arith, there))
  stands_here (r ∷ rs) p there =
      elim (cases_eq r.place p) [
        | inl e ↦ ap is_some (row_at_here r rs p e)
        | inr ne ↦ ap is_some (row_at_other r rs p ne) ∙ stands_here rs p (omega (arith, there, times_other p r.place (places_of rs) ne))
      ]

  -- ---- the row behind another
  after_here : (r : Placed K V) (rs : List (Placed K V)) (p : ℕ) → r.place ≡ p → row_after (r ∷ rs) p ≡ first_row rs
  after_here r rs p e = ap (λ b. cond b (first_row rs) (row_after rs p)) (eq-eqb r.place p e)

  after_other : (r : Placed K V) (rs : List (Placed K V)) (p : ℕ) → r.place ≢ p → row_after (r ∷ rs) p ≡ row_after rs p
  after_other r rs p ne = ap (λ b. cond b (first_row rs) (row_after rs p)) (ne_eqb r.place p ne)

  abbrev place_or : ℕ → Option (Placed K V) → ℕ
  place_or z o = option_map_or (λ (r : Placed K V). r.place) o z

  next_first : (rs : List (Placed K V)) (z : ℕ) → get_or (places_of rs ++ z ∷ []) 0 4294967295 ≡ place_or z (first_row rs)
  next_first [] z = refl
  next_first (r ∷ rs) z = refl

  -- the number behind a place, before an end
  follower_rows : (rows : List (Placed K V)) (p z : ℕ) → IsAt rows p → follower (places_of rows ++ z ∷ []) p ≡ place_or z (row_after rows p)
  follower_rows [] p z at = absurd (false≢true at)
  follower_rows (r ∷ rs) p z at =
      elim (cases_eq r.place p) [
        | inl e ↦ follower_here r.place (places_of rs ++ z ∷ []) p e ∙ next_first rs z ∙ ap (place_or z) (sym (after_here r rs p e))
        | inr ne ↦
            follower_other r.place (places_of rs ++ z ∷ []) p ne ∙ follower_rows rs p z (sym (ap is_some (row_at_other r rs p ne)) ∙ at)
            ∙ ap (place_or z) (sym (after_other r rs p ne))
      ]

  first_stands : (rs : List (Placed K V)) (r : Placed K V) → first_row rs ≡ Some r → 1 ≤ times r.place (places_of rs)
  first_stands [] r e = absurd (false≢true (ap is_some e))
  first_stands (x ∷ xs) r e = subst (λ (y : Placed K V). 1 ≤ times y.place (places_of (x ∷ xs))) (some_of x r e) (omega (arith, times_here x.place (places_of xs)))

  -- what stands behind a place is a row's
  after_stands : (rows : List (Placed K V)) (p : ℕ) (r : Placed K V) → row_after rows p ≡ Some r → 1 ≤ times r.place (places_of rows)
  after_stands [] p r e = absurd (false≢true (ap is_some e))
  after_stands (x ∷ xs) p r e =
      stands_behind x.place (places_of xs) r.place (elim (cases_eq x.place p) [
        | inl same ↦ first_stands xs r (sym (after_here x xs p same) ∙ e)
        | inr ne ↦ after_stands xs p r (sym (after_other x xs p ne) ∙ e)
      ])

  -- between two ends, of which neither is a row's place, the number behind a place tells the row behind it
  module _ (rows : List (Placed K V)) (p a z n : ℕ) (at : IsAt rows p) (begin : a < 2) (end : z < 2) (low : (q : ℕ) → 1 ≤ times q (places_of rows) → 2 ≤ q) (n_is : n ≡ follower (a ∷ places_of rows ++ z ∷ []) p) where
    told : n ≡ place_or z (row_after rows p)
    told =
        let two = low p (at_stands rows p at) in
        n_is ∙ follower_other a (places_of rows ++ z ∷ []) p (omega (arith, two)) ∙ follower_rows rows p z at

    pub told_none : n ≡ z → None ≡ option_map (λ (r : Placed K V). r.place) (row_after rows p)
    told_none e = from (row_after rows p) refl
      where
        from : (o : Option (Placed K V)) → row_after rows p ≡ o → None ≡ option_map (λ (r : Placed K V). r.place) (row_after rows p)
        from None is = sym (ap (option_map (λ (r : Placed K V). r.place)) is)
        from (Some r) is = absurd (omega (arith, e, told, ap (place_or z) is, low r.place (after_stands rows p r is)))

    pub told_some : n ≢ z → Some n ≡ option_map (λ (r : Placed K V). r.place) (row_after rows p)
    told_some ne = from (row_after rows p) refl
      where
        from : (o : Option (Placed K V)) → row_after rows p ≡ o → Some n ≡ option_map (λ (r : Placed K V). r.place) (row_after rows p)
        from None is = absurd (ne (told ∙ ap (place_or z) is))
        from (Some r) is = ap (λ x. Some x) (told ∙ ap (place_or z) is) ∙ sym (ap (option_map (λ (r : Placed K V). r.place)) is)

    pub told_stands : n ≢ z → 1 ≤ times n (places_of rows)
    told_stands ne = from (row_after rows p) refl
      where
        from : (o : Option (Placed K V)) → row_after rows p ≡ o → 1 ≤ times n (places_of rows)
        from None is = absurd (ne (told ∙ ap (place_or z) is))
        from (Some r) is = subst (λ q. 1 ≤ times q (places_of rows)) (sym (told ∙ ap (place_or z) is)) (after_stands rows p r is)

  -- ---- the same from the other end
  pub places-reverse : (rows : List (Placed K V)) → places_of (reverse rows) ≡ reverse (places_of rows)
  places-reverse [] = refl
  places-reverse (r ∷ rs) =
      ap places_of (reverse-append (r ∷ []) rs) ∙ map-append (λ (x : Placed K V). x.place) (reverse rs) (r ∷ [])
      ∙ ap (λ ps. ps ++ r.place ∷ []) (places-reverse rs) ∙ sym (reverse-append (r.place ∷ []) (places_of rs))

  pub ring_reversed : (rows : List (Placed K V)) → reverse (0 ∷ places_of rows ++ 1 ∷ []) ≡ 1 ∷ places_of (reverse rows) ++ 0 ∷ []
  ring_reversed rows =
      reverse-append (0 ∷ []) (places_of rows ++ 1 ∷ []) ∙ ap (λ ps. ps ++ 0 ∷ []) (reverse-append (places_of rows) (1 ∷ []))
      ∙ ap (λ ps. 1 ∷ ps ++ 0 ∷ []) (sym (places-reverse rows))

  pub times_reversed : (rows : List (Placed K V)) (q : ℕ) → times q (places_of (reverse rows)) ≡ times q (places_of rows)
  times_reversed rows q = ap (times q) (places-reverse rows) ∙ times-reverse q (places_of rows)

  pub at_reversed : (rows : List (Placed K V)) (p : ℕ) → IsAt rows p → IsAt (reverse rows) p
  at_reversed rows p at = stands_here (reverse rows) p (omega (arith, at_stands rows p at, times_reversed rows p))

  -- ---- a row put before another
  -- each place has the row that it has where the new one goes first
  pub row_put : (rows : List (Placed K V)) (named : Option ℕ) (new : Placed K V) (q : ℕ) → row_at rows new.place ≡ None → row_at (put_before rows named new) q ≡ row_at (new ∷ rows) q
  row_put [] named new q none = refl
  row_put (x ∷ xs) named new q none =
      by_test (stands_at x named) (λ b. row_at (cond b (new ∷ x ∷ xs) (x ∷ put_before xs named new)) q ≡ row_at (new ∷ x ∷ xs) q) (λ _. refl)
      (λ _. behind (row_put xs named new q (sym (row_at_other x xs new.place off) ∙ none)))
    where
      off : x.place ≢ new.place
      off e = false≢true (sym (ap is_some none) ∙ ap is_some (row_at_here x xs new.place e))

      behind : row_at (put_before xs named new) q ≡ row_at (new ∷ xs) q → row_at (x ∷ put_before xs named new) q ≡ row_at (new ∷ x ∷ xs) q
      behind rest =
          elim (cases_eq x.place q) [
            | inl here ↦
                row_at_here x (put_before xs named new) q here
                ∙ sym (row_at_other new (x ∷ xs) q (λ e. off (here ∙ sym e)) ∙ row_at_here x xs q here)
            | inr ne ↦
                row_at_other x (put_before xs named new) q ne ∙ rest
                ∙ elim (cases_eq new.place q) [
                  | inl it ↦ row_at_here new xs q it ∙ sym (row_at_here new (x ∷ xs) q it)
                  | inr it ↦ row_at_other new xs q it ∙ sym (row_at_other new (x ∷ xs) q it ∙ row_at_other x xs q ne)
                ]
          ]

  -- a node with a pair that is put before another
  pub held_put : (ps : List (ℕ × Option (K × V))) (i : ℕ) (x : ℕ) (e : K × V) → AreHeld ps → AreHeld (list_put ps i (x, Some e))
  held_put [] i x e h = (refl, tt)
  held_put (p ∷ ps) i x e h = by_test (eqb p.0 i) (λ b. AreHeld (cond b ((x, Some e) ∷ p ∷ ps) (p ∷ list_put ps i (x, Some e)))) (λ _. (refl, h)) (λ _. (h.0, held_put ps i x e h.1))

  pub length-put : (ps : List (ℕ × Option (K × V))) (i : ℕ) (x : ℕ × Option (K × V)) → length (list_put ps i x) ≡ length ps + 1
  length-put [] i x = refl
  length-put (p ∷ ps) i x =
      let rest = length-put ps i x in
      by_test (eqb p.0 i) (λ b. length (cond b (x ∷ p ∷ ps) (p ∷ list_put ps i x)) ≡ length (p ∷ ps) + 1) (λ _. omega arith) (λ _. omega (arith, rest))

  -- a row stands at the place that is named exactly where its node has the index
  same_test : (r : Placed K V) (is : List ℕ) (named : Option ℕ) → times 1 (r.place ∷ is) ≡ 0 → eqb r.place (index_of named) ≡ stands_at r named
  same_test r is None none = ne_eqb r.place 1 (absent_head 1 r.place is none)
  same_test r is (Some q) none = refl

  pub rows-put : (weights : List ℕ) (ps : List (ℕ × Option (K × V))) (named : Option ℕ) (x : ℕ) (e : K × V) → AreHeld ps → times 1 (indices_of ps) ≡ 0 →
      rows_in weights (list_put ps (index_of named) (x, Some e)) ≡ put_before (rows_in weights ps) named (placed x e.0 e.1 (get_or weights x 0))
  rows-put weights [] named x e h none = refl
  rows-put weights (p ∷ ps) named x e h none =
      let v = some_is p.1 h.0 in
      let r : Placed K V = placed p.0 v.0.0 v.0.1 (get_or weights p.0 0) in
      let rs = rows_in weights ps in
      let new : Placed K V = placed x e.0 e.1 (get_or weights x 0) in
      let first : rows_in weights (p ∷ ps) ≡ r ∷ rs = rows-cons weights p ps v.0 v.1 in
      let rest = rows-put weights ps named x e h.1 (absent_tail 1 p.0 (indices_of ps) none) in
      by_test (eqb p.0 (index_of named)) (λ b. rows_in weights (cond b ((x, Some e) ∷ p ∷ ps) (p ∷ list_put ps (index_of named) (x, Some e))) ≡ cond b (new ∷ r ∷ rs) (r ∷ put_before rs named new))
      (λ _. rows-cons weights (x, Some e) (p ∷ ps) e refl ∙ ap (λ zs. new ∷ zs) first)
      (λ _. rows-cons weights p (list_put ps (index_of named) (x, Some e)) v.0 v.1 ∙ ap (λ zs. r ∷ zs) rest)
      ∙ ap (λ b. cond b (new ∷ r ∷ rs) (r ∷ put_before rs named new)) (same_test r (indices_of ps) named none)
      ∙ ap (λ zs. put_before zs named new) (sym first)
