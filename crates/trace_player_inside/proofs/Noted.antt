-- What is noted under each key once a key's row has another place.
use Rattle.std.proofs.Common.{◌≡◌, ℕ, ◌+◌, ◌≤◌, true, false, cond, eqb, List, [], ◌∷◌, Some, refl, sym, ap, ◌∙◌, arith, inl, inr}
use Rattle.std.specs.Prelude.{◌==◌, count_by, nat_eq, Option, Result, Ok, Err}
use Rattle.std.specs.Option.{option_map}
use Rattle.std.specs.Result.{is_err}
use Rattle.trace_player_inside.specs.Representation.Windows.{place_of}
use Rattle.std.proofs.lemmas.Bool.{eqb-true, eq-eqb, ne_eqb, cases_Bool, cond_both}
use Rattle.std.proofs.lemmas.List.Sums.{sum_by-cons}
use Rattle.lru_rows.specs.declared.rows.Unpushed.{Unpushed}
use Rattle.lru_rows.specs.Rows.{Placed, placed, Recency, Pushes, row_at, row_of, with_value}

abbrev count_at : ℕ → List (Placed ℕ ℕ) → ℕ
count_at p rows = count_by (λ r. r.place == p) rows

count_yes : (p : ℕ) (r : Placed ℕ ℕ) (rows : List (Placed ℕ ℕ)) → eqb r.place p ≡ true → count_at p (r ∷ rows) ≡ 1 + count_at p rows
count_yes p r rows e = sum_by-cons (λ (x : Placed ℕ ℕ). cond (eqb x.place p) 1 0) r rows ∙ ap (λ b. cond b 1 0 + count_at p rows) e

count_no : (p : ℕ) (r : Placed ℕ ℕ) (rows : List (Placed ℕ ℕ)) → eqb r.place p ≡ false → count_at p (r ∷ rows) ≡ count_at p rows
count_no p r rows e =
    let h : count_at p (r ∷ rows) ≡ 0 + count_at p rows = sum_by-cons (λ (x : Placed ℕ ℕ). cond (eqb x.place p) 1 0) r rows ∙ ap (λ b. cond b 1 0 + count_at p rows) e in omega arith

-- rows of other places stay
absent : (p d : ℕ) (rows : List (Placed ℕ ℕ)) → count_at p rows ≡ 0 → with_value rows p d ≡ rows
absent p d [] h = refl
absent p d (r ∷ rows) h =
    cond_both (eqb r.place p) (placed r.place r.key d r.weight) r (λ x. x ∷ with_value rows p d ≡ r ∷ rows)
    (λ e. absurd (omega (arith, count_yes p r rows e)))
    (λ e. ap (λ rs. r ∷ rs) (absent p d rows (sym (count_no p r rows e) ∙ h)))

-- what is found has the key, and stands at the place
key_found : (rows : List (Placed ℕ ℕ)) (k : ℕ) (r : Placed ℕ ℕ) → row_of nat_eq rows k ≡ Some r → r.key ≡ k
key_found [] k r h = cc
key_found (y ∷ rows) k r h =
    elim (cases_Bool (eqb y.key k)) [
      | inl e ↦ let s : Some y ≡ Some r = sym (ap (λ b. cond b (Some y) (row_of nat_eq rows k)) e) ∙ h in
          let q : y ≡ r = cc in ap (λ (z : Placed ℕ ℕ). z.key) (sym q) ∙ eqb-true y.key k e
      | inr e ↦ key_found rows k r (sym (ap (λ b. cond b (Some y) (row_of nat_eq rows k)) e) ∙ h)
    ]

place_found : (rows : List (Placed ℕ ℕ)) (p : ℕ) (r : Placed ℕ ℕ) → row_at rows p ≡ Some r → r.place ≡ p
place_found [] p r h = cc
place_found (y ∷ rows) p r h =
    elim (cases_Bool (eqb y.place p)) [
      | inl e ↦ let s : Some y ≡ Some r = sym (ap (λ b. cond b (Some y) (row_at rows p)) e) ∙ h in
          let q : y ≡ r = cc in ap (λ (z : Placed ℕ ℕ). z.place) (sym q) ∙ eqb-true y.place p e
      | inr e ↦ place_found rows p r (sym (ap (λ b. cond b (Some y) (row_at rows p)) e) ∙ h)
    ]

abbrev value_of : Option (Placed ℕ ℕ) → Option ℕ
value_of o = option_map (λ (z : Placed ℕ ℕ). z.value) o

-- the first row is written
written : (y : Placed ℕ ℕ) (rows : List (Placed ℕ ℕ)) (key d k : ℕ) → y.key ≡ key
    → value_of (row_of nat_eq (placed y.place y.key d y.weight ∷ rows) k) ≡ cond (eqb key k) (Some d) (value_of (row_of nat_eq (y ∷ rows) k))
written y rows key d k e =
    elim (cases_Bool (eqb y.key k)) [
      | inl t ↦ ap (λ b. value_of (cond b (Some (placed y.place y.key d y.weight)) (row_of nat_eq rows k))) t
          ∙ sym (ap (λ b. cond b (Some d) (value_of (row_of nat_eq (y ∷ rows) k))) (ap (λ n. eqb n k) (sym e) ∙ t))
      | inr f ↦ ap (λ b. value_of (cond b (Some (placed y.place y.key d y.weight)) (row_of nat_eq rows k))) f
          ∙ sym (ap (λ b. cond b (Some d) (value_of (row_of nat_eq (y ∷ rows) k))) (ap (λ n. eqb n k) (sym e) ∙ f) ∙ ap (λ b. value_of (cond b (Some y) (row_of nat_eq rows k))) f)
    ]

-- the first row has another key
kept : (y : Placed ℕ ℕ) (rows others : List (Placed ℕ ℕ)) (key d k : ℕ) → eqb y.key key ≡ false
    → value_of (row_of nat_eq others k) ≡ cond (eqb key k) (Some d) (value_of (row_of nat_eq rows k))
    → value_of (row_of nat_eq (y ∷ others) k) ≡ cond (eqb key k) (Some d) (value_of (row_of nat_eq (y ∷ rows) k))
kept y rows others key d k differs h =
    elim (cases_Bool (eqb y.key k)) [
      | inl t ↦
          let other : eqb key k ≡ false = ne_eqb key k (λ e. let bad : true ≡ false = sym (ap (λ n. eqb y.key n) e ∙ t) ∙ differs in cc) in
          ap (λ b. value_of (cond b (Some y) (row_of nat_eq others k))) t
          ∙ sym (ap (λ b. cond b (Some d) (value_of (row_of nat_eq (y ∷ rows) k))) other ∙ ap (λ b. value_of (cond b (Some y) (row_of nat_eq rows k))) t)
      | inr f ↦ ap (λ b. value_of (cond b (Some y) (row_of nat_eq others k))) f ∙ h
          ∙ sym (ap (λ b. cond (eqb key k) (Some d) (value_of (cond b (Some y) (row_of nat_eq rows k)))) f)
    ]

-- a key's row has another place of the trace: it is noted under that key, and nothing changes under another
pub renoted : (rows : List (Placed ℕ ℕ)) (key p d : ℕ) (r : Placed ℕ ℕ) → row_of nat_eq rows key ≡ Some r → row_at rows p ≡ Some r → count_at p rows ≤ 1
    → (k : ℕ) → option_map (λ (z : Placed ℕ ℕ). z.value) (row_of nat_eq (with_value rows p d) k) ≡ cond (eqb key k) (Some d) (option_map (λ (z : Placed ℕ ℕ). z.value) (row_of nat_eq rows k))
renoted [] key p d r of at once k = cc
renoted (y ∷ rows) key p d r of at once k =
    elim (cases_Bool (eqb y.place p)) [
      | inl e ↦
          let s : Some y ≡ Some r = sym (ap (λ b. cond b (Some y) (row_at rows p)) e) ∙ at in
          let q : y ≡ r = cc in
          let key_is : y.key ≡ key = ap (λ (z : Placed ℕ ℕ). z.key) q ∙ key_found (y ∷ rows) key r of in
          ap (λ b. value_of (row_of nat_eq (cond b (placed y.place y.key d y.weight) y ∷ with_value rows p d) k)) e
          ∙ ap (λ rs. value_of (row_of nat_eq (placed y.place y.key d y.weight ∷ rs) k)) (absent p d rows (omega (arith, once, count_yes p y rows e)))
          ∙ written y rows key d k key_is
      | inr e ↦
          -- were it the key's, it would stand at the place
          let differs : eqb y.key key ≡ false = ne_eqb y.key key (λ same.
          let s : Some y ≡ Some r = sym (ap (λ b. cond b (Some y) (row_of nat_eq rows key)) (eq-eqb _ _ same)) ∙ of in
          let q : y ≡ r = cc in
          let bad : true ≡ false = sym (eq-eqb _ _ (ap (λ (z : Placed ℕ ℕ). z.place) q ∙ place_found (y ∷ rows) p r at)) ∙ e in cc) in
          ap (λ b. value_of (row_of nat_eq (cond b (placed y.place y.key d y.weight) y ∷ with_value rows p d) k)) e
          ∙ kept y rows (with_value rows p d) key d k differs
          (renoted rows key p d r (sym (ap (λ b. cond b (Some y) (row_of nat_eq rows key)) differs) ∙ of) (sym (ap (λ b. cond b (Some y) (row_at rows p)) e) ∙ at) (omega (arith, once, count_no p y rows e)) k)
    ]

-- a row is put in
pub put : (old new : Recency ℕ ℕ) (key d w : ℕ) (result : Result ℕ (Unpushed ℕ ℕ)) → is_err result ≡ false → Pushes (λ r. r ∷ old.rows) old key d w result new
    → (k : ℕ) → place_of new k ≡ cond (eqb key k) (Some d) (place_of old k)
put old new key d w (Ok p) e pushes k =
    ap (λ r. place_of r k) pushes.2
    ∙ cond_both (eqb key k) (Some (placed p key d w)) (row_of nat_eq old.rows k) (λ o. value_of o ≡ cond (eqb key k) (Some d) (place_of old k))
    (λ t. sym (ap (λ b. cond b (Some d) (place_of old k)) t)) (λ f. sym (ap (λ b. cond b (Some d) (place_of old k)) f))
put old new key d w (Err back) e pushes k = cc
