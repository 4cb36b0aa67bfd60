-- What edits at a place make of rows, each at its place.
use Rattle.std.proofs.Common.{◌≡◌, ℕ, ◌+◌, ◌≤◌, true, false, cond, not, eqb, List, [], ◌∷◌, ◌++◌, length, map, Some, None, refl, sym, ap, ◌∙◌, arith, inl, inr}
use Rattle.std.specs.Prelude.{◌==◌, count_by, nat_eq, Option, take, get_or, ◌-◌}
use Rattle.std.specs.Option.{option_map, option_map_or}
use Rattle.std.proofs.lemmas.Bool.{eqb-true, eq-eqb, cases_Bool, cond_both, cond-true, cond-false}
use Rattle.std.proofs.lemmas.List.{map-append, take_more, take_all}
use Rattle.std.proofs.lemmas.Option.{slice_get_within, slice_get-get_or}
use Rattle.std.proofs.lemmas.List.Sums.{sum_by-cons, sum_by-append}
use Rattle.std.proofs.lemmas.List.Elements.{filter-append}
use Rattle.lru_rows.specs.Rows.{Placed, placed, row_at, row_of as placed_of, without, promoted, with_weight, with_value, last_row as last_placed}
use Rattle.lru_shard.specs.Row.{row_of}
use Rattle.lru_shard.specs.Representation.{row_in, rows_in}

none_of : {A B : Type 0} (f : A → B) (o : Option A) → option_map f o ≡ None → o ≡ None
none_of f None h = refl
none_of f (Some a) h = cc

module _ {T : Type 0} where
  -- how many rows stand at a place
  abbrev pub count_at : ℕ → List (Placed ℕ T) → ℕ
  count_at p ps = count_by (λ r. r.place == p) ps

  -- the one row at a place, between the others
  pub record Splits (ps : List (Placed ℕ T)) (p : ℕ) (before : List (Placed ℕ T)) (x : Placed ℕ T) (after : List (Placed ℕ T)) : Type 0 where
    pub whole : ps ≡ before ++ x ∷ after
    pub place : x.place ≡ p
    pub none_before : count_at p before ≡ 0
    pub none_after : count_at p after ≡ 0

  -- the same, with the others told
  pub record Stands (ps : List (Placed ℕ T)) (p : ℕ) (x : Placed ℕ T) : Type 0 where
    pub before : List (Placed ℕ T)
    pub after : List (Placed ℕ T)
    pub splits : Splits ps p before x after

  count-cons : (p : ℕ) (r : Placed ℕ T) (ps : List (Placed ℕ T)) → count_at p (r ∷ ps) ≡ cond (eqb r.place p) 1 0 + count_at p ps
  count-cons p r ps = sum_by-cons (λ (x : Placed ℕ T). cond (eqb x.place p) 1 0) r ps

  count-append : (p : ℕ) (xs ys : List (Placed ℕ T)) → count_at p (xs ++ ys) ≡ count_at p xs + count_at p ys
  count-append p xs ys = sum_by-append (λ (x : Placed ℕ T). cond (eqb x.place p) 1 0) xs ys

  count_yes : (p : ℕ) (r : Placed ℕ T) (ps : List (Placed ℕ T)) → eqb r.place p ≡ true → count_at p (r ∷ ps) ≡ 1 + count_at p ps
  count_yes p r ps e = count-cons p r ps ∙ ap (λ b. cond b 1 0 + count_at p ps) e

  count_no : (p : ℕ) (r : Placed ℕ T) (ps : List (Placed ℕ T)) → eqb r.place p ≡ false → count_at p (r ∷ ps) ≡ count_at p ps
  count_no p r ps e = let h : count_at p (r ∷ ps) ≡ 0 + count_at p ps = count-cons p r ps ∙ ap (λ b. cond b 1 0 + count_at p ps) e in omega arith

  split_place : (ps : List (Placed ℕ T)) (p : ℕ) (x : Placed ℕ T) → row_at ps p ≡ Some x → (xs : List (Placed ℕ T)) × ((ys : List (Placed ℕ T)) × ((ps ≡ xs ++ x ∷ ys) × (x.place ≡ p)))
  split_place [] p x h = cc
  split_place (y ∷ ps) p x h =
      elim (cases_Bool (eqb y.place p)) [
        | inl e ↦ let s : Some y ≡ Some x = sym (ap (λ b. cond b (Some y) (row_at ps p)) e) ∙ h in
            let q : y ≡ x = cc in ([], (ps, (ap (λ z. z ∷ ps) q, ap (λ (z : Placed ℕ T). z.place) (sym q) ∙ eqb-true y.place p e)))
        | inr e ↦ let m = split_place ps p x (sym (ap (λ b. cond b (Some y) (row_at ps p)) e) ∙ h) in
            (y ∷ m.0, (m.1.0, (ap (λ zs. y ∷ zs) m.1.1.0, m.1.1.1)))
      ]

  stands_split : (ps xs ys : List (Placed ℕ T)) (p : ℕ) (x : Placed ℕ T) → ps ≡ xs ++ x ∷ ys → x.place ≡ p → count_at p ps ≤ 1 → Stands ps p x
  stands_split ps xs ys p x whole place once =
      let here : count_at p (x ∷ ys) ≡ 1 + count_at p ys = count_yes p x ys (eq-eqb _ _ place) in
      let all : count_at p ps ≡ count_at p xs + count_at p (x ∷ ys) = ap (count_at p) whole ∙ count-append p xs (x ∷ ys) in
      record {
        before = xs;
        after = ys;
        splits = record { whole = whole; place = place; none_before = omega (arith, once, here, all); none_after = omega (arith, once, here, all) };
      }

  pub stands : (ps : List (Placed ℕ T)) (p : ℕ) (x : Placed ℕ T) → row_at ps p ≡ Some x → count_at p ps ≤ 1 → Stands ps p x
  stands ps p x found once = let m = split_place ps p x found in stands_split ps m.0 m.1.0 p x m.1.1.0 m.1.1.1 once

  split_key : (ps : List (Placed ℕ T)) (k : ℕ) (x : Placed ℕ T) → placed_of nat_eq ps k ≡ Some x → (xs : List (Placed ℕ T)) × ((ys : List (Placed ℕ T)) × (ps ≡ xs ++ x ∷ ys))
  split_key [] k x h = cc
  split_key (y ∷ ps) k x h =
      elim (cases_Bool (eqb y.key k)) [
        | inl e ↦ let s : Some y ≡ Some x = sym (ap (λ b. cond b (Some y) (placed_of nat_eq ps k)) e) ∙ h in
            let q : y ≡ x = cc in ([], (ps, ap (λ z. z ∷ ps) q))
        | inr e ↦ let m = split_key ps k x (sym (ap (λ b. cond b (Some y) (placed_of nat_eq ps k)) e) ∙ h) in (y ∷ m.0, (m.1.0, ap (λ zs. y ∷ zs) m.1.1))
      ]

  -- a key's row stands at its place
  pub stands_of : (ps : List (Placed ℕ T)) (k : ℕ) (x : Placed ℕ T) → placed_of nat_eq ps k ≡ Some x → count_at x.place ps ≤ 1 → Stands ps x.place x
  stands_of ps k x found once = let m = split_key ps k x found in stands_split ps m.0 m.1.0 x.place x m.1.1 refl once

  -- a map that changes the rows of one place alone
  map_absent : (f : Placed ℕ T → Placed ℕ T) (p : ℕ) (ps : List (Placed ℕ T)) → count_at p ps ≡ 0 → map (λ r. cond (eqb r.place p) (f r) r) ps ≡ ps
  map_absent f p [] h = refl
  map_absent f p (r ∷ ps) h =
      cond_both (eqb r.place p) (f r) r (λ x. x ∷ map (λ r. cond (eqb r.place p) (f r) r) ps ≡ r ∷ ps)
      (λ e. absurd (omega (arith, count_yes p r ps e)))
      (λ e. ap (λ rs. r ∷ rs) (map_absent f p ps (sym (count_no p r ps e) ∙ h)))

  without_absent : (p : ℕ) (ps : List (Placed ℕ T)) → count_at p ps ≡ 0 → without ps p ≡ ps
  without_absent p [] h = refl
  without_absent p (r ∷ ps) h =
      cond_both (not (eqb r.place p)) (r ∷ without ps p) (without ps p) (λ rs. rs ≡ r ∷ ps)
      (λ e. elim (cases_Bool (eqb r.place p)) [
        | inl here ↦ absurd (omega (arith, count_yes p r ps here))
        | inr other ↦ ap (λ rs. r ∷ rs) (without_absent p ps (sym (count_no p r ps other) ∙ h))
      ])
      (λ e. elim (cases_Bool (eqb r.place p)) [
        | inl here ↦ absurd (omega (arith, count_yes p r ps here))
        | inr other ↦ let bad : true ≡ false = sym (ap not other) ∙ e in cc
      ])

  module _ (ps : List (Placed ℕ T)) (p : ℕ) (before : List (Placed ℕ T)) (x : Placed ℕ T) (after : List (Placed ℕ T)) (s : Splits ps p before x after) where
    here : eqb x.place p ≡ true
    here = eq-eqb _ _ s.place

    found : (xs : List (Placed ℕ T)) → count_at p xs ≡ 0 → row_at (xs ++ x ∷ after) p ≡ Some x
    found [] h = cond-true (eqb x.place p) (Some x) (row_at after p) here
    found (y ∷ ys) h =
        cond_both (eqb y.place p) (Some y) (row_at (ys ++ x ∷ after) p) (λ o. o ≡ Some x)
        (λ e. absurd (omega (arith, count_yes p y ys e))) (λ e. found ys (sym (count_no p y ys e) ∙ h))

    pub row_at-split : row_at ps p ≡ Some x
    row_at-split = ap (λ rs. row_at rs p) s.whole ∙ found before s.none_before

    pub without-split : without ps p ≡ before ++ after
    without-split =
        ap (λ rs. without rs p) s.whole ∙ filter-append (λ r. not (eqb r.place p)) before (x ∷ after)
        ∙ ap (λ xs. xs ++ without (x ∷ after) p) (without_absent p before s.none_before)
        ∙ ap (λ ys. before ++ ys) (cond-false (not (eqb x.place p)) (x ∷ without after p) (without after p) (ap not here) ∙ without_absent p after s.none_after)

    -- the row goes first
    pub first : (ps' : List (Placed ℕ T)) → ps' ≡ promoted ps p → ps' ≡ x ∷ before ++ after
    first ps' is = is ∙ ap (λ o. option_map_or (λ r. r ∷ without ps p) o ps) row_at-split ∙ ap (λ rs. x ∷ rs) without-split

    changed : (f : Placed ℕ T → Placed ℕ T) → map (λ r. cond (eqb r.place p) (f r) r) ps ≡ before ++ f x ∷ after
    changed f =
        ap (map (λ r. cond (eqb r.place p) (f r) r)) s.whole ∙ map-append (λ r. cond (eqb r.place p) (f r) r) before (x ∷ after)
        ∙ ap (λ xs. xs ++ map (λ r. cond (eqb r.place p) (f r) r) (x ∷ after)) (map_absent f p before s.none_before)
        ∙ ap (λ y. before ++ y ∷ map (λ r. cond (eqb r.place p) (f r) r) after) (cond-true (eqb x.place p) (f x) x here)
        ∙ ap (λ ys. before ++ f x ∷ ys) (map_absent f p after s.none_after)

    -- it has another weight, or other data
    pub weighted : (w : ℕ) (ps' : List (Placed ℕ T)) → ps' ≡ with_weight ps p w → Splits ps' p before (placed x.place x.key x.value w) after
    weighted w ps' is = record { whole = is ∙ changed (λ r. placed r.place r.key r.value w); place = s.place; none_before = s.none_before; none_after = s.none_after }

    pub valued : (d : T) (ps' : List (Placed ℕ T)) → ps' ≡ with_value ps p d → Splits ps' p before (placed x.place x.key d x.weight) after
    valued d ps' is = record { whole = is ∙ changed (λ r. placed r.place r.key d r.weight); place = s.place; none_before = s.none_before; none_after = s.none_after }

  -- the rows without their places
  pub rows-split : (xs : List (Placed ℕ T)) (x : Placed ℕ T) (ys : List (Placed ℕ T)) → rows_in (xs ++ x ∷ ys) ≡ rows_in xs ++ row_in x ∷ rows_in ys
  rows-split xs x ys = map-append row_in xs (x ∷ ys)

  pub row-of : (ps : List (Placed ℕ T)) (k : ℕ) → row_of (rows_in ps) k ≡ option_map row_in (placed_of nat_eq ps k)
  row-of [] k = refl
  row-of (r ∷ ps) k =
      elim (cases_Bool (eqb r.key k)) [
        | inl e ↦ cond-true (eqb r.key k) (Some (row_in r)) (row_of (rows_in ps) k) e ∙ sym (ap (option_map row_in) (cond-true (eqb r.key k) (Some r) (placed_of nat_eq ps k) e))
        | inr e ↦ cond-false (eqb r.key k) (Some (row_in r)) (row_of (rows_in ps) k) e ∙ row-of ps k ∙ sym (ap (option_map row_in) (cond-false (eqb r.key k) (Some r) (placed_of nat_eq ps k) e))
      ]

  -- a key without a row has no place
  pub unplaced : (ps : List (Placed ℕ T)) (k : ℕ) → row_of (rows_in ps) k ≡ None → placed_of nat_eq ps k ≡ None
  unplaced ps k h = none_of row_in (placed_of nat_eq ps k) (sym (row-of ps k) ∙ h)

  pub length-rows : (ps : List (Placed ℕ T)) → length (rows_in ps) ≡ length ps
  length-rows [] = refl
  length-rows (r ∷ ps) = let h = length-rows ps in omega (arith, h)

  -- the last row stands at its place
  pub last_at : (ps : List (Placed ℕ T)) (p : ℕ) (x : Placed ℕ T) → last_placed ps ≡ Some x → x.place ≡ p → count_at p ps ≤ 1 → row_at ps p ≡ Some x
  last_at ps p x last place once =
      let lt = slice_get_within ps (length ps - 1) x last in
      let same : Some x ≡ Some (get_or ps (length ps - 1) x) = sym last ∙ slice_get-get_or ps (length ps - 1) x lt in
      let is : x ≡ get_or ps (length ps - 1) x = cc in
      let whole : ps ≡ take (length ps - 1) ps ++ x ∷ [] = sym (take_all (length ps - 1 + 1) ps (omega arith)) ∙ take_more ps (length ps - 1) x lt ∙ ap (λ y. take (length ps - 1) ps ++ y ∷ []) (sym is) in
      let s = stands_split ps (take (length ps - 1) ps) [] p x whole place once in
      row_at-split ps p s.before x s.after s.splits
