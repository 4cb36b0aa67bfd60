-- What is found of a key, and of all rows, by what an index finds of the keys.
use Rattle.std.proofs.Common.{◌≡◌, ◌≢◌, ℕ, ◌+◌, ◌≤◌, cond, eqb, List, [], ◌∷◌, get_or, Some, None, refl, sym, ap, ◌∙◌, subst, inl, inr, arith, true, false}
use Rattle.std.specs.Prelude.{Option, Bool, count_by, IsTrue, ◌==◌}
use Rattle.std.specs.Cmp.{IsEquivalence}
use Rattle.std.proofs.lemmas.Bool.{cond_both, cases_eq}
use Rattle.std.proofs.lemmas.List.Sums.{sum_by-cons}
use Rattle.lru_index.specs.Index.{IsAbsent, IsOneEach}
use Rattle.lru_list.specs.Linked.{item_of, indices_of, times}
use Rattle.lru_list.proofs.Chains.{times_here, times_other, times-cons, absent_head, absent_tail}
use Rattle.lru_list.proofs.LinkedLaws.{item_of_same, item_of_other}
use Rattle.lru_rows.specs.Rows.{Placed, placed, row_of}
use Rattle.lru_rows.specs.Representation.Columns.{value_at, rows_in}
use Rattle.lru_rows.proofs.Listed.{some_of, stands_behind, by_value, Held, held_head, held_tail, rows-cons, rows-skip}

-- a list's numbers stand once
abbrev pub Once : List ℕ → Type 0
Once xs = (i : ℕ) → times i xs ≤ 1

once_tail : (x : ℕ) (xs : List ℕ) → Once (x ∷ xs) → Once xs
once_tail x xs once i = elim (cases_eq x i) [
  | inl e ↦ omega (arith, once i, subst (λ z. times z (x ∷ xs) ≡ 1 + times z xs) e (times_here x xs))
  | inr ne ↦ omega (arith, once i, times_other i x xs ne)
]

once_head : (x : ℕ) (xs : List ℕ) → Once (x ∷ xs) → times x xs ≡ 0
once_head x xs once = omega (arith, once x, times_here x xs)

module _ {K : Type 0} where
  -- the keys are known by the places of these pairs
  abbrev pub Known : (ℕ → Option K) → List (ℕ × K) → Type 0
  Known keys [] = Unit {0}
  Known keys (p ∷ ps) = (keys p.0 ≡ Some p.1) × Known keys ps

  known_as : (keys keys' : ℕ → Option K) (ps : List (ℕ × K)) → ((q : ℕ) → 1 ≤ times q (indices_of ps) → keys' q ≡ keys q) → Known keys ps → Known keys' ps
  known_as keys keys' [] same known = tt
  known_as keys keys' (p ∷ ps) same known =
      (same p.0 (omega (arith, times_here p.0 (indices_of ps))) ∙ known.0, known_as keys keys' ps (λ q h. same q (stands_behind p.0 (indices_of ps) q h)) known.1)

  pub known_all : (ps : List (ℕ × K)) → Once (indices_of ps) → Known (item_of ps) ps
  known_all [] once = tt
  known_all (p ∷ ps) once =
      (item_of_same p ps p.0 refl, known_as (item_of ps) (item_of (p ∷ ps)) ps (λ q h. item_of_other p ps q (apart q h)) (known_all ps (once_tail p.0 (indices_of ps) once)))
    where
      apart : (q : ℕ) → 1 ≤ times q (indices_of ps) → p.0 ≢ q
      apart q h e = absurd (omega (arith, once_head p.0 (indices_of ps) once, subst (λ z. 1 ≤ times z (indices_of ps)) (sym e) h))

module _ {K Q T : Type 0} (eq : K → Q → Bool) (keys : ℕ → Option K) (weights : List ℕ) (values : List (Option T)) where
  row_of_here : (r : Placed K T) (rs : List (Placed K T)) (key : Q) → IsTrue (eq r.key key) → row_of eq (r ∷ rs) key ≡ Some r
  row_of_here r rs key e = ap (λ b. cond b (Some r) (row_of eq rs key)) e

  row_of_other : (r : Placed K T) (rs : List (Placed K T)) (key : Q) → eq r.key key ≡ false → row_of eq (r ∷ rs) key ≡ row_of eq rs key
  row_of_other r rs key e = ap (λ b. cond b (Some r) (row_of eq rs key)) e

  -- a key that no place has has no row
  pub absent_row : (key : Q) → IsAbsent eq keys key → (ps : List (ℕ × K)) → Known keys ps → row_of eq (rows_in weights values ps) key ≡ None
  absent_row key absent [] known = refl
  absent_row key absent (p ∷ ps) known =
      let rest = absent_row key absent ps known.1 in
      by_value values p.0 (λ none. ap (λ rs. row_of eq rs key) (rows-skip weights values p ps none) ∙ rest)
      (λ d some. ap (λ rs. row_of eq rs key) (rows-cons weights values p ps d some)
      ∙ row_of_other (placed p.0 p.1 d (get_or weights p.0 0)) (rows_in weights values ps) key (absent p.0 p.1 known.0) ∙ rest)

  module _ (same_key : K → K → Bool) (once : IsOneEach same_key keys) (key : Q) (agree : (x y : K) → IsTrue (eq x key) → IsTrue (eq y key) → IsTrue (same_key x y)) where
    -- another place has another key
    differs_from : (i : ℕ) (k : K) → keys i ≡ Some k → IsTrue (eq k key) → (q : ℕ) (j : K) → keys q ≡ Some j → q ≢ i → eq j key ≡ false
    differs_from i k found same q j known ne = from (eq j key) refl
      where
        from : (b : Bool) → eq j key ≡ b → eq j key ≡ false
        from false e = e
        from true e = absurd (ne (once q i j k known found (agree j k e same)))

    -- the row of a key is that of the place that has it
    pub key_row : (i : ℕ) (k : K) (d : T) → keys i ≡ Some k → IsTrue (eq k key) → value_at values i ≡ Some d →
        (ps : List (ℕ × K)) → Known keys ps → Held weights values ps → 1 ≤ times i (indices_of ps) → row_of eq (rows_in weights values ps) key ≡ Some (placed i k d (get_or weights i 0))
    key_row i k d found same value [] known held there = absurd (omega (arith, there))
    key_row i k d found same value (p ∷ ps) known held there =
        let v = held_head weights values p ps held in
        let row = placed p.0 p.1 v.0 (get_or weights p.0 0) in
        ap (λ rs. row_of eq rs key) (rows-cons weights values p ps v.0 v.1)
        ∙ elim (cases_eq p.0 i) [
          | inl e ↦
              let key_is : p.1 ≡ k = some_of p.1 k (sym known.0 ∙ ap keys e ∙ found) in
              let value_is : v.0 ≡ d = some_of v.0 d (sym v.1 ∙ ap (value_at values) e ∙ value) in
              row_of_here row (rows_in weights values ps) key (ap (λ x. eq x key) key_is ∙ same)
              ∙ ap (λ q. Some (placed q p.1 v.0 (get_or weights q 0))) e ∙ ap (λ x. Some (placed i x v.0 (get_or weights i 0))) key_is ∙ ap (λ x. Some (placed i k x (get_or weights i 0))) value_is
          | inr ne ↦
              row_of_other row (rows_in weights values ps) key (differs_from i k found same p.0 p.1 known.0 ne)
              ∙ key_row i k d found same value ps known.1 (held_tail weights values p ps held) (omega (arith, there, times_other i p.0 (indices_of ps) ne))
        ]

-- keys that equal a key are equal
pub agreeing : {K : Type 0} (eq : K → K → Bool) → IsEquivalence eq → (key x y : K) → IsTrue (eq x key) → IsTrue (eq y key) → IsTrue (eq x y)
agreeing eq laws key x y a b = sym (laws.congr key x y (laws.symm key x ∙ a)) ∙ laws.symm key y ∙ b

module _ {K T : Type 0} (eq : K → K → Bool) (keys : ℕ → Option K) (weights : List ℕ) (values : List (Option T)) where
  module _ (laws : IsEquivalence eq) (once : IsOneEach eq keys) where
    -- another place has another key
    differs_by : (b : Bool) (key : K) (i : ℕ) (k : K) → keys i ≡ Some k → IsTrue (eq k key) → (q : ℕ) (j : K) → keys q ≡ Some j → q ≢ i → eq j key ≡ b → eq j key ≡ false
    differs_by false key i k found same q j known ne e = e
    differs_by true key i k found same q j known ne e =
        absurd (ne (once q i j k known found (sym (laws.congr key j k (laws.symm key j ∙ e)) ∙ laws.symm key k ∙ same)))

    differs : (key : K) (i : ℕ) (k : K) → keys i ≡ Some k → IsTrue (eq k key) → (q : ℕ) (j : K) → keys q ≡ Some j → q ≢ i → eq j key ≡ false
    differs key i k found same q j known ne = differs_by (eq j key) key i k found same q j known ne refl

    -- no key has two rows
    abbrev times_key : K → List (Placed K T) → ℕ
    times_key key rows = count_by (λ r. eq r.key key) rows

    count_cons : (key : K) (r : Placed K T) (rs : List (Placed K T)) → times_key key (r ∷ rs) ≡ cond (eq r.key key) 1 0 + times_key key rs
    count_cons key r rs = sum_by-cons (λ (x : Placed K T). cond (eq x.key key) 1 0) r rs

    pub none_more : (key : K) (i : ℕ) (k : K) → keys i ≡ Some k → IsTrue (eq k key) → (ps : List (ℕ × K)) → Known keys ps → times i (indices_of ps) ≡ 0 → count_by (λ r. eq r.key key) (rows_in weights values ps) ≡ 0
    none_more key i k found same [] known none = refl
    none_more key i k found same (p ∷ ps) known none =
        let rest = none_more key i k found same ps known.1 (absent_tail i p.0 (indices_of ps) none) in
        by_value values p.0 (λ skip. ap (times_key key) (rows-skip weights values p ps skip) ∙ rest)
        (λ d some.
        let is = ap (times_key key) (rows-cons weights values p ps d some) ∙ count_cons key (placed p.0 p.1 d (get_or weights p.0 0)) (rows_in weights values ps) in
        let off : ◌≡◌ {A = ℕ} (cond (eq p.1 key) 1 0) 0 = ap (λ b. cond b 1 0) (differs key i k found same p.0 p.1 known.0 (absent_head i p.0 (indices_of ps) none)) in
        omega (arith, is, off, rest))

    pub keys_once : (key : K) (ps : List (ℕ × K)) → Known keys ps → Once (indices_of ps) → count_by (λ r. eq r.key key) (rows_in weights values ps) ≤ 1
    keys_once key [] known one = omega arith
    keys_once key (p ∷ ps) known one =
        let rest = keys_once key ps known.1 (once_tail p.0 (indices_of ps) one) in
        by_value values p.0 (λ skip. omega (arith, ap (times_key key) (rows-skip weights values p ps skip), rest))
        (λ d some.
        let is = ap (times_key key) (rows-cons weights values p ps d some) ∙ count_cons key (placed p.0 p.1 d (get_or weights p.0 0)) (rows_in weights values ps) in
        cond_both (eq p.1 key) 1 0 (λ n. times_key key (rows_in weights values (p ∷ ps)) ≡ n + times_key key (rows_in weights values ps) → times_key key (rows_in weights values (p ∷ ps)) ≤ 1)
        (λ e sum. omega (arith, sum, none_more key p.0 p.1 known.0 e ps known.1 (once_head p.0 (indices_of ps) one)))
        (λ e sum. omega (arith, sum, rest)) is)

-- no place has two rows
module _ {K T : Type 0} (weights : List ℕ) (values : List (Option T)) where
  abbrev pub times_place : ℕ → List (Placed K T) → ℕ
  times_place p rows = count_by (λ r. r.place == p) rows

  pub places_times : (q : ℕ) (ps : List (ℕ × K)) → times_place q (rows_in weights values ps) ≤ times q (indices_of ps)
  places_times q [] = omega arith
  places_times q (p ∷ ps) =
      let rest = places_times q ps in
      let more = times-cons q p.0 (indices_of ps) in
      by_value values p.0 (λ skip. omega (arith, ap (times_place q) (rows-skip weights values p ps skip), rest, more))
      (λ d some. omega (arith, ap (times_place q) (rows-cons weights values p ps d some) ∙ sum_by-cons (λ (x : Placed K T). cond (eqb x.place q) 1 0) (placed p.0 p.1 d (get_or weights p.0 0)) (rows_in weights values ps), rest, more))
