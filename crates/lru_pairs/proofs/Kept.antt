-- What an index finds among rows, and what is kept of both as rows move, change, come and go.
use Rattle.std.proofs.Common.{◌≡◌, ◌≢◌, ℕ, ◌+◌, ◌-◌, ◌<◌, ◌≤◌, ◌/◌, ◌^◌, true, false, cond, eqb, List, [], ◌∷◌, ◌++◌, length, Some, None, refl, sym, ap, ◌∙◌, subst, inl, inr, arith, suc}
use Rattle.std.specs.Prelude.{Option, Bool, is_some, IsTrue, count_by, slice_get, ◌==◌}
use Rattle.std.specs.Option.{option_map, option_map_or}
use Rattle.std.specs.Cmp.{IsEquivalence}
use Rattle.std.proofs.lemmas.Bool.{cases_eq, cases_Bool, eq-eqb, ne_eqb, false≢true}
use Rattle.std.proofs.lemmas.List.Sums.{sum_by-cons}
use Rattle.lru_index.specs.Index.{Index, Indexes, Inserts, Finds as index_Finds, IsAbsent, IsEmpty, IsFree, IsOneEach, Knows, home_at, room_of, put, gone}
use Rattle.lru_index.proofs.ForCallers.{of_none, same_keys, is_free}
use Rattle.lru_index.proofs.Tables.{put_here, put_other, gone_here, gone_other}
use Rattle.lru_rows.specs.declared.rows.Taken.{Taken}
use Rattle.lru_rows.specs.Rows.{Placed, placed, Recency, recency, row_at, row_of, IsAt, without, promoted, demoted, with_weight, with_value, last_row, first_row, taken, Finds, IsRecency, Removes, PopsLast, PopsFirst}
use Rattle.lru_rows.proofs.Listed.{some_of, by_row, without_here, without_other, row_at_here, row_at_other}
use Rattle.lru_rows.proofs.Found.{agreeing}
use Rattle.lru_pairs.specs.Pairs.{Paired, paired, with_entry}
use Rattle.lru_pairs.specs.Representation.Nodes.{Laid, laid, with_rows, IsLaid, IsKept, keys_at}
use Rattle.lru_pairs.proofs.Laid.{some_is}

module _ {K V : Type 0} where
  abbrev times_at : ℕ → List (Placed K V) → ℕ
  times_at p rows = count_by (λ (r : Placed K V). r.place == p) rows

  at_cons : (p : ℕ) (r : Placed K V) (rs : List (Placed K V)) → times_at p (r ∷ rs) ≡ cond (eqb r.place p) 1 0 + times_at p rs
  at_cons p r rs = sum_by-cons (λ (x : Placed K V). cond (eqb x.place p) 1 0) r rs

  at_here : (p : ℕ) (r : Placed K V) (rs : List (Placed K V)) → r.place ≡ p → times_at p (r ∷ rs) ≡ 1 + times_at p rs
  at_here p r rs e = at_cons p r rs ∙ ap {B = ℕ} (λ b. cond b 1 0 + times_at p rs) (eq-eqb r.place p e)

  -- the row of a place stands at that place
  pub row_place : (rs : List (Placed K V)) (p : ℕ) (r : Placed K V) → row_at rs p ≡ Some r → r.place ≡ p
  row_place [] p r e = absurd (false≢true (ap is_some e))
  row_place (x ∷ xs) p r e =
      elim (cases_eq x.place p) [
        | inl same ↦ ap (λ (y : Placed K V). y.place) (sym (some_of x r (sym (row_at_here x xs p same) ∙ e))) ∙ same
        | inr ne ↦ row_place xs p r (sym (row_at_other x xs p ne) ∙ e)
      ]

  -- rows without a place's
  pub row_gone : (rs : List (Placed K V)) (p : ℕ) → row_at (without rs p) p ≡ None
  row_gone [] p = refl
  row_gone (x ∷ xs) p = by_row p x xs (λ rest. row_at rest p ≡ None) (λ e. row_gone xs p) (λ ne. row_at_other x (without xs p) p ne ∙ row_gone xs p)

  pub row_left : (rs : List (Placed K V)) (p q : ℕ) → p ≢ q → row_at (without rs p) q ≡ row_at rs q
  row_left [] p q ne = refl
  row_left (x ∷ xs) p q ne =
      by_row p x xs (λ rest. row_at rest q ≡ row_at (x ∷ xs) q)
      (λ e. row_left xs p q ne ∙ sym (row_at_other x xs q (λ f. ne (sym e ∙ f))))
      (λ other. elim (cases_eq x.place q) [
        | inl here ↦ row_at_here x (without xs p) q here ∙ sym (row_at_here x xs q here)
        | inr off ↦ row_at_other x (without xs p) q off ∙ row_left xs p q ne ∙ sym (row_at_other x xs q off)
      ])

  row_behind : (rs : List (Placed K V)) (r : Placed K V) (q : ℕ) → row_at rs q ≡ None → row_at (rs ++ r ∷ []) q ≡ row_at (r ∷ []) q
  row_behind [] r q none = refl
  row_behind (x ∷ xs) r q none =
      elim (cases_eq x.place q) [
        | inl here ↦ absurd (false≢true (sym (ap is_some none) ∙ ap is_some (row_at_here x xs q here)))
        | inr off ↦ row_at_other x (xs ++ r ∷ []) q off ∙ row_behind xs r q (sym (row_at_other x xs q off) ∙ none)
      ]

  row_before : (rs : List (Placed K V)) (r : Placed K V) (q : ℕ) → r.place ≢ q → row_at (rs ++ r ∷ []) q ≡ row_at rs q
  row_before [] r q ne = row_at_other r [] q ne
  row_before (x ∷ xs) r q ne =
      elim (cases_eq x.place q) [
        | inl here ↦ row_at_here x (xs ++ r ∷ []) q here ∙ sym (row_at_here x xs q here)
        | inr off ↦ row_at_other x (xs ++ r ∷ []) q off ∙ row_before xs r q ne ∙ sym (row_at_other x xs q off)
      ]

  abbrev key_of : Option (Placed K V) → Option K
  key_of o = option_map (λ (r : Placed K V). r.key) o

  -- each place has the key that it had, where a row moves or changes
  pub keys_promoted : (rs : List (Placed K V)) (p : ℕ) → IsAt rs p → (q : ℕ) → keys_at rs q ≡ keys_at (promoted rs p) q
  keys_promoted rs p at q =
      let r = some_is (row_at rs p) at in
      let place = row_place rs p r.0 r.1 in
      elim (cases_eq p q) [
        | inl e ↦ ap key_of (ap (row_at rs) (sym e) ∙ r.1 ∙ sym (row_at_here r.0 (without rs p) q (place ∙ e)))
        | inr ne ↦ ap key_of (sym (row_left rs p q ne) ∙ sym (row_at_other r.0 (without rs p) q (λ f. ne (sym place ∙ f))))
      ]
      ∙ ap (λ o. keys_at (option_map_or (λ x. x ∷ without rs p) o rs) q) (sym r.1)

  pub keys_demoted : (rs : List (Placed K V)) (p : ℕ) → IsAt rs p → (q : ℕ) → keys_at rs q ≡ keys_at (demoted rs p) q
  keys_demoted rs p at q =
      let r = some_is (row_at rs p) at in
      let place = row_place rs p r.0 r.1 in
      elim (cases_eq p q) [
        | inl e ↦ ap key_of (ap (row_at rs) (sym e) ∙ r.1 ∙ sym (row_at_here r.0 [] q (place ∙ e)) ∙ sym (row_behind (without rs p) r.0 q (ap (row_at (without rs p)) (sym e) ∙ row_gone rs p)))
        | inr ne ↦ ap key_of (sym (row_left rs p q ne) ∙ sym (row_before (without rs p) r.0 q (λ f. ne (sym place ∙ f))))
      ]
      ∙ ap (λ o. keys_at (option_map_or (λ x. without rs p ++ x ∷ []) o rs) q) (sym r.1)

  pub keys_weight : (rs : List (Placed K V)) (p w q : ℕ) → keys_at rs q ≡ keys_at (with_weight rs p w) q
  keys_weight [] p w q = refl
  keys_weight (x ∷ xs) p w q = by_test (keys_weight xs p w q) (eqb x.place p)
    where
      by_test : keys_at xs q ≡ keys_at (with_weight xs p w) q → (b : Bool) → keys_at (x ∷ xs) q ≡ keys_at (cond b (placed x.place x.key x.value w) x ∷ with_weight xs p w) q
      by_test rest b =
          elim (cases_eq x.place q) [
            | inl here ↦ ap key_of (row_at_here x xs q here) ∙ same b ∙ sym (ap key_of (row_at_here (cond b (placed x.place x.key x.value w) x) (with_weight xs p w) q (place b ∙ here)))
            | inr off ↦ ap key_of (row_at_other x xs q off) ∙ rest ∙ sym (ap key_of (row_at_other (cond b (placed x.place x.key x.value w) x) (with_weight xs p w) q (λ f. off (sym (place b) ∙ f))))
          ]
        where
          place : (b : Bool) → (cond b (placed x.place x.key x.value w) x).place ≡ x.place
          place true = refl
          place false = refl

          same : (b : Bool) → Some x.key ≡ key_of (Some (cond b (placed x.place x.key x.value w) x))
          same true = refl
          same false = refl

  pub keys_value : (rs : List (Placed K V)) (p : ℕ) (d : V) (q : ℕ) → keys_at rs q ≡ keys_at (with_value rs p d) q
  keys_value [] p d q = refl
  keys_value (x ∷ xs) p d q = by_test (keys_value xs p d q) (eqb x.place p)
    where
      by_test : keys_at xs q ≡ keys_at (with_value xs p d) q → (b : Bool) → keys_at (x ∷ xs) q ≡ keys_at (cond b (placed x.place x.key d x.weight) x ∷ with_value xs p d) q
      by_test rest b =
          elim (cases_eq x.place q) [
            | inl here ↦ ap key_of (row_at_here x xs q here) ∙ same b ∙ sym (ap key_of (row_at_here (cond b (placed x.place x.key d x.weight) x) (with_value xs p d) q (place b ∙ here)))
            | inr off ↦ ap key_of (row_at_other x xs q off) ∙ rest ∙ sym (ap key_of (row_at_other (cond b (placed x.place x.key d x.weight) x) (with_value xs p d) q (λ f. off (sym (place b) ∙ f))))
          ]
        where
          place : (b : Bool) → (cond b (placed x.place x.key d x.weight) x).place ≡ x.place
          place true = refl
          place false = refl

          same : (b : Bool) → Some x.key ≡ key_of (Some (cond b (placed x.place x.key d x.weight) x))
          same true = refl
          same false = refl

  -- another key stands at a place that has a row, and no other place changes
  pub keys_entry_here : (rs : List (Placed K V)) (p : ℕ) (k : K) (v : V) (w : ℕ) → IsAt rs p → keys_at (with_entry rs p k v w) p ≡ Some k
  keys_entry_here [] p k v w at = absurd (false≢true at)
  keys_entry_here (x ∷ xs) p k v w at =
      elim (cases_eq x.place p) [
        | inl e ↦ ap (λ b. keys_at (cond b (placed p k v w) x ∷ with_entry xs p k v w) p) (eq-eqb x.place p e) ∙ ap key_of (row_at_here (placed p k v w) (with_entry xs p k v w) p refl)
        | inr ne ↦
            ap (λ b. keys_at (cond b (placed p k v w) x ∷ with_entry xs p k v w) p) (ne_eqb x.place p ne) ∙ ap key_of (row_at_other x (with_entry xs p k v w) p ne)
            ∙ keys_entry_here xs p k v w (sym (ap is_some (row_at_other x xs p ne)) ∙ at)
      ]

  pub keys_entry_other : (rs : List (Placed K V)) (p : ℕ) (k : K) (v : V) (w q : ℕ) → p ≢ q → keys_at (with_entry rs p k v w) q ≡ keys_at rs q
  keys_entry_other [] p k v w q ne = refl
  keys_entry_other (x ∷ xs) p k v w q ne =
      elim (cases_eq x.place p) [
        | inl e ↦
            ap (λ b. keys_at (cond b (placed p k v w) x ∷ with_entry xs p k v w) q) (eq-eqb x.place p e) ∙ ap key_of (row_at_other (placed p k v w) (with_entry xs p k v w) q ne)
            ∙ keys_entry_other xs p k v w q ne ∙ sym (ap key_of (row_at_other x xs q (λ f. ne (sym e ∙ f))))
        | inr off ↦
            ap (λ b. keys_at (cond b (placed p k v w) x ∷ with_entry xs p k v w) q) (ne_eqb x.place p off)
            ∙ elim (cases_eq x.place q) [
              | inl here ↦ ap key_of (row_at_here x (with_entry xs p k v w) q here ∙ sym (row_at_here x xs q here))
              | inr other ↦ ap key_of (row_at_other x (with_entry xs p k v w) q other) ∙ keys_entry_other xs p k v w q ne ∙ sym (ap key_of (row_at_other x xs q other))
            ]
      ]

  -- a row comes, or goes
  pub keys_pushed : (rs : List (Placed K V)) (p : ℕ) (k : K) (v : V) (w q : ℕ) → put (keys_at rs) p k q ≡ keys_at (placed p k v w ∷ rs) q
  keys_pushed rs p k v w q =
      elim (cases_eq p q) [
        | inl e ↦ subst (λ z. put (keys_at rs) p k z ≡ keys_at (placed p k v w ∷ rs) z) e (put_here (keys_at rs) p k ∙ sym (ap key_of (row_at_here (placed p k v w) rs p refl)))
        | inr ne ↦ put_other (keys_at rs) p k q ne ∙ sym (ap key_of (row_at_other (placed p k v w) rs q ne))
      ]

  pub keys_gone : (rs : List (Placed K V)) (p q : ℕ) → gone (keys_at rs) p q ≡ keys_at (without rs p) q
  keys_gone rs p q =
      elim (cases_eq p q) [
        | inl e ↦ subst (λ z. gone (keys_at rs) p z ≡ keys_at (without rs p) z) e (gone_here (keys_at rs) p ∙ sym (ap key_of (row_gone rs p)))
        | inr ne ↦ gone_other (keys_at rs) p q ne ∙ sym (ap key_of (row_left rs p q ne))
      ]

  -- no place stands twice
  abbrev Once : List (Placed K V) → Type 0
  Once rs = (p : ℕ) → times_at p rs ≤ 1

  once_tail : (x : Placed K V) (xs : List (Placed K V)) → Once (x ∷ xs) → Once xs
  once_tail x xs once p = omega (arith, once p, at_cons p x xs)

  stands : (rs : List (Placed K V)) (p : ℕ) (r : Placed K V) → row_at rs p ≡ Some r → 1 ≤ times_at p rs
  stands [] p r e = absurd (false≢true (ap is_some e))
  stands (x ∷ xs) p r e =
      elim (cases_eq x.place p) [
        | inl same ↦ omega (arith, at_here p x xs same)
        | inr ne ↦ omega (arith, stands xs p r (sym (row_at_other x xs p ne) ∙ e), at_cons p x xs)
      ]

  -- what stands behind the first row stands at another place
  apart : (x : Placed K V) (xs : List (Placed K V)) → Once (x ∷ xs) → (q : ℕ) (r : Placed K V) → row_at xs q ≡ Some r → x.place ≢ q
  apart x xs once q r e same = absurd (omega (arith, once q, at_here q x xs same, stands xs q r e))

  keys_behind : (x : Placed K V) (xs : List (Placed K V)) → Once (x ∷ xs) → (q : ℕ) (k : K) → keys_at xs q ≡ Some k → keys_at (x ∷ xs) q ≡ Some k
  keys_behind x xs once q k e = from (row_at xs q) refl
    where
      from : (o : Option (Placed K V)) → row_at xs q ≡ o → keys_at (x ∷ xs) q ≡ Some k
      from None none = absurd (false≢true (sym (ap (λ o. is_some (key_of o)) none) ∙ ap is_some e))
      from (Some r) some = ap key_of (row_at_other x xs q (apart x xs once q r some)) ∙ e

  -- the key of the row of a place
  pub key_there : (rs : List (Placed K V)) (p : ℕ) (k : K) → keys_at rs p ≡ Some k → (r : Placed K V) × (row_at rs p ≡ Some r) × (r.key ≡ k)
  key_there rs p k e = from (row_at rs p) refl
    where
      from : (o : Option (Placed K V)) → row_at rs p ≡ o → (r : Placed K V) × (row_at rs p ≡ Some r) × (r.key ≡ k)
      from None none = absurd (false≢true (sym (ap (λ o. is_some (key_of o)) none) ∙ ap is_some e))
      from (Some r) some = (r, some, some_of r.key k (sym (ap key_of some) ∙ e))

  module _ {Q : Type 0} (stands_for : K → Q → Bool) (query : Q) where
    of_here : (x : Placed K V) (xs : List (Placed K V)) → IsTrue (stands_for x.key query) → row_of stands_for (x ∷ xs) query ≡ Some x
    of_here x xs e = ap (λ b. cond b (Some x) (row_of stands_for xs query)) e

    of_other : (x : Placed K V) (xs : List (Placed K V)) → stands_for x.key query ≡ false → row_of stands_for (x ∷ xs) query ≡ row_of stands_for xs query
    of_other x xs e = ap (λ b. cond b (Some x) (row_of stands_for xs query)) e

    -- a key that no place has has no row
    pub absent_row : (rs : List (Placed K V)) → Once rs → IsAbsent stands_for (keys_at rs) query → row_of stands_for rs query ≡ None
    absent_row [] once absent = refl
    absent_row (x ∷ xs) once absent =
        of_other x xs (absent x.place x.key (ap key_of (row_at_here x xs x.place refl)))
        ∙ absent_row xs (once_tail x xs once) (λ q k e. absent q k (keys_behind x xs once q k e))

    module _ (same_key : K → K → Bool) (agree : (x y : K) → IsTrue (stands_for x query) → IsTrue (stands_for y query) → IsTrue (same_key x y)) where
      -- the row of a key is that of the place that has it
      pub key_row : (rs : List (Placed K V)) → Once rs → IsOneEach same_key (keys_at rs) → (p : ℕ) (r : Placed K V) → row_at rs p ≡ Some r → IsTrue (stands_for r.key query) → row_of stands_for rs query ≡ Some r
      key_row [] once one p r at e = absurd (false≢true (ap is_some at))
      key_row (x ∷ xs) once one p r at e =
          elim (cases_Bool (stands_for x.key query)) [
            | inl hit ↦
                let here : keys_at (x ∷ xs) x.place ≡ Some x.key = ap key_of (row_at_here x xs x.place refl) in
                let place : x.place ≡ p = one x.place p x.key r.key here (ap key_of at) (agree x.key r.key hit e) in
                of_here x xs hit ∙ sym (row_at_here x xs p place) ∙ at
            | inr miss ↦
                let behind : x.place ≢ p = λ same. false≢true (sym miss ∙ ap (λ (y : Placed K V). stands_for y.key query) (some_of x r (sym (row_at_here x xs p same) ∙ at)) ∙ e) in
                of_other x xs miss
                ∙ key_row xs (once_tail x xs once) (λ q q' j k ej ek. one q q' j k (keys_behind x xs once q j ej) (keys_behind x xs once q' k ek)) p r (sym (row_at_other x xs p behind) ∙ at) e
          ]

  -- a key without a row is at no place
  pub absent_key : {Q : Type 0} (eq : K → Q → Bool) (key : Q) (rs : List (Placed K V)) → row_of eq rs key ≡ None → (p : ℕ) (k : K) → keys_at rs p ≡ Some k → eq k key ≡ false
  absent_key eq key [] none p k e = absurd (false≢true (ap is_some e))
  absent_key eq key (x ∷ xs) none p k e =
      elim (cases_Bool (eq x.key key)) [
        | inl hit ↦ absurd (false≢true (sym (ap is_some none) ∙ ap is_some (of_here eq key x xs hit)))
        | inr miss ↦
            elim (cases_eq x.place p) [
              | inl here ↦ ap (λ y. eq y key) (sym (some_of x.key k (sym (ap key_of (row_at_here x xs p here)) ∙ e))) ∙ miss
              | inr off ↦ absent_key eq key xs (sym (of_other eq key x xs miss) ∙ none) p k (sym (ap key_of (row_at_other x xs p off)) ∙ e)
            ]
      ]

  module _ (eq : K → K → Bool) (laws : IsEquivalence eq) where
    -- no key has two rows
    none_more : (key : K) (rs : List (Placed K V)) → ((p : ℕ) (k : K) → keys_at rs p ≡ Some k → eq k key ≡ false) → Once rs → count_by (λ (r : Placed K V). eq r.key key) rs ≡ 0
    none_more key [] none once = refl
    none_more key (x ∷ xs) none once =
        omega (
          arith,
          sum_by-cons (λ (y : Placed K V). cond (eq y.key key) 1 0) x xs,
          ap {B = ℕ} (λ b. cond b 1 0) (none x.place x.key (ap key_of (row_at_here x xs x.place refl))),
          none_more key xs (λ p k e. none p k (keys_behind x xs once p k e)) (once_tail x xs once),
        )

    pub keys_once : (key : K) (rs : List (Placed K V)) → Once rs → IsOneEach eq (keys_at rs) → count_by (λ (r : Placed K V). eq r.key key) rs ≤ 1
    keys_once key [] once one = omega arith
    keys_once key (x ∷ xs) once one =
        elim (cases_Bool (eq x.key key)) [
          | inl hit ↦
              omega (
                arith,
                sum_by-cons (λ (y : Placed K V). cond (eq y.key key) 1 0) x xs,
                ap {B = ℕ} (λ b. cond b 1 0) hit,
                none_more key xs (λ p k e. others hit p k e) (once_tail x xs once),
              )
          | inr miss ↦
              omega (
                arith,
                sum_by-cons (λ (y : Placed K V). cond (eq y.key key) 1 0) x xs,
                ap {B = ℕ} (λ b. cond b 1 0) miss,
                keys_once key xs (once_tail x xs once) (λ q q' j k ej ek. one q q' j k (keys_behind x xs once q j ej) (keys_behind x xs once q' k ek)),
              )
        ]
      where
        others : IsTrue (eq x.key key) → (p : ℕ) (k : K) → keys_at xs p ≡ Some k → eq k key ≡ false
        others hit p k e =
            elim (cases_Bool (eq k key)) [
              | inl same ↦
                  let r = key_there xs p k e in
                  absurd (apart x xs once p r.0 r.1 (one x.place p x.key k (ap key_of (row_at_here x xs x.place refl)) (keys_behind x xs once p k e) (agreeing eq laws key x.key k hit same)))
              | inr other ↦ other
            ]

module _ {K V S : Type 0} (eq : K → K → Bool) (hash : S → K → ℕ) (nodes : Laid K V) (index : Index S) (kept : IsKept eq hash nodes index) where
  -- what holds of all rows
  pub valid_rows : IsEquivalence eq → IsRecency eq nodes.held.rows
  valid_rows laws = record {
    places = kept.laid.once;
    keys = λ k. keys_once eq laws k nodes.held.rows kept.laid.once kept.indexed.once;
    short = omega (arith, kept.laid.wide, kept.laid.few);
  }

  -- what an index finds is what is found among the rows
  pub finds_by : {Q : Type 0} (stands_for : K → Q → Bool) (query : Q) → ((x y : K) → IsTrue (stands_for x query) → IsTrue (stands_for y query) → IsTrue (eq x y)) →
      (o : Option ℕ) → index_Finds stands_for (keys_at nodes.held.rows) query o → Finds stands_for nodes.held.rows query o
  finds_by stands_for query agree None absent = absent_row stands_for query nodes.held.rows kept.laid.once absent
  finds_by stands_for query agree (Some p) (k, found, same) =
      let r = key_there nodes.held.rows p k found in
      (r.0, key_row stands_for query eq agree nodes.held.rows kept.laid.once kept.indexed.once p r.0 r.1 (ap (λ x. stands_for x query) r.2 ∙ same), r.1)

  -- a place that was found has a row
  pub at_found : {Q : Type 0} (stands_for : K → Q → Bool) (query : Q) (p : ℕ) → index_Finds stands_for (keys_at nodes.held.rows) query (Some p) → IsAt nodes.held.rows p
  at_found stands_for query p (k, found, same) = ap is_some (key_there nodes.held.rows p k found).1

  pub fits : (p : ℕ) → IsAt nodes.held.rows p → p < 4294967296
  fits p at = omega (arith, (kept.laid.within p at).1, kept.laid.few)

  -- other rows with the same keys at their places
  pub kept_moved : (nodes' : Laid K V) (rows : List (Placed K V)) → nodes' ≡ with_rows nodes rows → IsLaid nodes' → ((q : ℕ) → keys_at nodes.held.rows q ≡ keys_at rows q) → IsKept eq hash nodes' index
  kept_moved nodes' rows is valid same = record {
    laid = valid;
    indexed = same_keys eq hash index (keys_at nodes.held.rows) (keys_at nodes'.held.rows) (λ q. same q ∙ ap (λ (l : Laid K V). keys_at l.held.rows q) (sym is)) kept.indexed;
    indexable = omega (arith, kept.indexable, ap (λ (l : Laid K V). l.room) is);
  }

  -- the same with the data of a place lent
  pub kept_as : (nodes' : Laid K V) (rows : List (Placed K V)) → nodes'.held ≡ recency rows nodes.held.free → nodes'.room ≡ nodes.room → IsLaid nodes' → ((q : ℕ) → keys_at nodes.held.rows q ≡ keys_at rows q) → IsKept eq hash nodes' index
  kept_as nodes' rows is room valid same = record {
    laid = valid;
    indexed = same_keys eq hash index (keys_at nodes.held.rows) (keys_at nodes'.held.rows) (λ q. same q ∙ ap (λ (r : Recency K V). keys_at r.rows q) (sym is)) kept.indexed;
    indexable = omega (arith, kept.indexable, room);
  }

  -- an equal key stands at a place: it has the same hash
  pub kept_entry : IsEquivalence eq → ((s : S) (x y : K) → IsTrue (eq x y) → hash s x ≡ hash s y) → (p : ℕ) (k : K) (v : V) (w : ℕ) (r : Placed K V) → row_at nodes.held.rows p ≡ Some r → IsTrue (eq r.key k) →
      (nodes' : Laid K V) → nodes' ≡ with_rows nodes (with_entry nodes.held.rows p k v w) → IsLaid nodes' → IsKept eq hash nodes' index
  kept_entry laws respects p k v w r at same nodes' is valid = record {
    laid = valid;
    indexed = same_keys eq hash index new (keys_at nodes'.held.rows) (λ q. ap (λ (l : Laid K V). keys_at l.held.rows q) (sym is)) (record { known = known; once = once });
    indexable = omega (arith, kept.indexable, ap (λ (l : Laid K V). l.room) is);
  }
    where
      old : ℕ → Option K
      old = keys_at nodes.held.rows

      new : ℕ → Option K
      new = keys_at (with_entry nodes.held.rows p k v w)

      here : new p ≡ Some k
      here = keys_entry_here nodes.held.rows p k v w (ap is_some at)

      other : (q : ℕ) → p ≢ q → new q ≡ old q
      other q ne = keys_entry_other nodes.held.rows p k v w q ne

      was : old p ≡ Some r.key
      was = ap (option_map (λ (x : Placed K V). x.key)) at

      known : (q : ℕ) → home_at index q ≡ option_map (λ x. hash index.hash_builder x / 2 ^ index.shift) (new q)
      known q =
          elim (cases_eq p q) [
            | inl e ↦
                kept.indexed.known q ∙ ap (λ z. option_map (λ x. hash index.hash_builder x / 2 ^ index.shift) (old z)) (sym e)
                ∙ ap (option_map (λ x. hash index.hash_builder x / 2 ^ index.shift)) was
                ∙ ap (λ n. Some (n / 2 ^ index.shift)) (respects index.hash_builder r.key k same)
                ∙ sym (ap (option_map (λ x. hash index.hash_builder x / 2 ^ index.shift)) (ap new (sym e) ∙ here))
            | inr ne ↦ kept.indexed.known q ∙ ap (option_map (λ x. hash index.hash_builder x / 2 ^ index.shift)) (sym (other q ne))
          ]

      chain : (x y z : K) → IsTrue (eq x y) → IsTrue (eq y z) → IsTrue (eq x z)
      chain x y z a b = laws.congr x y z a ∙ b

      -- the key that stood at a place, for each that stands there now
      before : (q : ℕ) (j : K) → new q ≡ Some j → (i : K) × (old q ≡ Some i) × IsTrue (eq i j)
      before q j e =
          elim (cases_eq p q) [
            | inl f ↦ (r.key, ap old (sym f) ∙ was, subst (λ x. IsTrue (eq r.key x)) (some_of k j (sym here ∙ ap new f ∙ e)) same)
            | inr ne ↦ (j, sym (other q ne) ∙ e, laws.refl j)
          ]

      once : IsOneEach eq new
      once q q' j j' ej ej' equal =
          let a = before q j ej in
          let b = before q' j' ej' in
          kept.indexed.once q q' a.0 b.0 a.1 b.1 (chain a.0 j b.0 a.2 (chain j j' b.0 equal (sym (laws.symm b.0 j') ∙ b.2)))

  -- a row goes
  module _ (p : ℕ) (nodes' : Laid K V) (is : nodes' ≡ laid (recency (without nodes.held.rows p) (nodes.held.free + 1)) nodes.room) (valid : IsLaid nodes') where
    pub kept_gone : (index' : Index S) → Indexes eq hash index' (gone (keys_at nodes.held.rows) p) → room_of index' ≡ room_of index → IsKept eq hash nodes' index'
    kept_gone index' indexed room = record {
      laid = valid;
      indexed = same_keys eq hash index' (gone (keys_at nodes.held.rows) p) (keys_at nodes'.held.rows) (λ q. keys_gone nodes.held.rows p q ∙ ap (λ (l : Laid K V). keys_at l.held.rows q) (sym is)) indexed;
      indexable = omega (arith, kept.indexable, room, ap (λ (l : Laid K V). l.room) is);
    }

  -- the index knows the place of a row by its key
  pub known_at : (p : ℕ) (r : Placed K V) → row_at nodes.held.rows p ≡ Some r → Knows hash index r.key p
  known_at p r at = kept.indexed.known p ∙ ap (option_map (λ x. hash index.hash_builder x / 2 ^ index.shift)) (ap (option_map (λ (x : Placed K V). x.key)) at)

  -- a row comes
  module _ (k : K) (v : V) (w p : ℕ) (nodes' : Laid K V) (is : nodes'.held ≡ recency (placed p k v w ∷ nodes.held.rows) (nodes.held.free - 1)) (room : nodes'.room ≡ nodes.room) (valid : IsLaid nodes')
      (none : row_at nodes.held.rows p ≡ None) where
    pub new_at : row_at nodes'.held.rows p ≡ Some (placed p k v w)
    new_at = ap (λ (r : Recency K V). row_at r.rows p) is ∙ row_at_here (placed p k v w) nodes.held.rows p refl

    pub new_positive : 0 < p
    new_positive = omega (arith, (valid.within p (ap is_some new_at)).0)

    pub new_indexable : p < room_of index
    new_indexable = omega (arith, (valid.within p (ap is_some new_at)).1, room, kept.indexable)

    pub new_free : IsFree index p
    new_free = is_free eq hash index (keys_at nodes.held.rows) kept.indexed p (ap (option_map (λ (x : Placed K V). x.key)) none)

    pub kept_pushed : row_of eq nodes.held.rows k ≡ None → (index' : Index S) (key : K) → key ≡ k → Inserts eq hash index key p index' → room_of index' ≡ room_of index → IsKept eq hash nodes' index'
    kept_pushed absent index' key same inserts long = record {
      laid = valid;
      indexed =
          same_keys eq hash index' (put (keys_at nodes.held.rows) p k) (keys_at nodes'.held.rows)
          (λ q. keys_pushed nodes.held.rows p k v w q ∙ ap (λ (r : Recency K V). keys_at r.rows q) (sym is))
          (subst (λ x. Inserts eq hash index x p index') same inserts (keys_at nodes.held.rows) (λ q j e. absent_key eq k nodes.held.rows absent q j e) kept.indexed);
      indexable = omega (arith, kept.indexable, room, long);
    }

-- where there are no rows
pub kept_none : {K V S : Type 0} (eq : K → K → Bool) (hash : S → K → ℕ) (nodes : Laid K V) (index : Index S) → nodes ≡ laid (recency [] 0) 2 → IsLaid nodes → IsEmpty index → 2 ≤ room_of index → IsKept eq hash nodes index
kept_none eq hash nodes index is valid empty room = record {
  laid = valid;
  indexed = subst (λ l. Indexes eq hash index (keys_at l.held.rows)) (sym is) (of_none eq hash index empty);
  indexable = omega (arith, room, ap (λ l. l.room) is);
}

module _ {K V : Type 0} where
  -- the last row, by its place
  pub last_parts : (rows : List (Placed K V)) (p : ℕ) → Some p ≡ option_map (λ (r : Placed K V). r.place) (last_row rows) → (front : List (Placed K V)) × (r : Placed K V) × (rows ≡ front ++ r ∷ []) × (r.place ≡ p)
  last_parts [] p e = absurd (false≢true (ap is_some (sym e)))
  last_parts (x ∷ []) p e = ([], x, refl, some_of x.place p (sym e))
  last_parts (x ∷ y ∷ ys) p e =
      let step : length (x ∷ y ∷ ys) - 1 ≡ suc (length (y ∷ ys) - 1) = omega arith in
      let rest = last_parts (y ∷ ys) p (e ∙ ap (λ n. option_map (λ (r : Placed K V). r.place) (slice_get (x ∷ y ∷ ys) n)) step) in
      (x ∷ rest.0, rest.1, ap (λ rs. x ∷ rs) rest.2, rest.3)

  no_last : (rows : List (Placed K V)) → None ≡ option_map (λ (r : Placed K V). r.place) (last_row rows) → rows ≡ []
  no_last [] e = refl
  no_last (x ∷ xs) e = absurd (false≢true (ap is_some e ∙ last_some x xs))
    where
      last_some : (x : Placed K V) (xs : List (Placed K V)) → is_some (option_map (λ (r : Placed K V). r.place) (last_row (x ∷ xs))) ≡ true
      last_some x [] = refl
      last_some x (y ∷ ys) =
          let step : length (x ∷ y ∷ ys) - 1 ≡ suc (length (y ∷ ys) - 1) = omega arith in
          ap (λ n. is_some (option_map (λ (r : Placed K V). r.place) (slice_get (x ∷ y ∷ ys) n))) step ∙ last_some y ys

  pub first_parts : (rows : List (Placed K V)) (p : ℕ) → Some p ≡ option_map (λ (r : Placed K V). r.place) (first_row rows) → (rest : List (Placed K V)) × (r : Placed K V) × (rows ≡ r ∷ rest) × (r.place ≡ p)
  first_parts [] p e = absurd (false≢true (ap is_some (sym e)))
  first_parts (x ∷ xs) p e = (xs, x, refl, some_of x.place p (sym e))

  no_first : (rows : List (Placed K V)) → None ≡ option_map (λ (r : Placed K V). r.place) (first_row rows) → rows ≡ []
  no_first [] e = refl
  no_first (x ∷ xs) e = absurd (false≢true (ap is_some e))

  absent_without : (rows : List (Placed K V)) (p : ℕ) → times_at p rows ≡ 0 → without rows p ≡ rows
  absent_without [] p none = refl
  absent_without (x ∷ xs) p none =
      by_row p x xs (λ rest. rest ≡ x ∷ xs) (λ e. absurd (omega (arith, none, at_here p x xs e))) (λ ne. ap (λ rs. x ∷ rs) (absent_without xs p (omega (arith, none, at_cons p x xs))))

  front_without : (front : List (Placed K V)) (r : Placed K V) (p : ℕ) → r.place ≡ p → times_at p (front ++ r ∷ []) ≤ 1 → (row_at (front ++ r ∷ []) p ≡ Some r) × (without (front ++ r ∷ []) p ≡ front)
  front_without [] r p place once = (row_at_here r [] p place, by_row p r [] (λ rest. rest ≡ []) (λ e. refl) (λ ne. absurd (ne place)))
  front_without (x ∷ xs) r p place once =
      let rest = front_without xs r p place (omega (arith, once, at_cons p x (xs ++ r ∷ []))) in
      let off : x.place ≢ p = λ e. absurd (omega (arith, once, at_here p x (xs ++ r ∷ []) e, stands (xs ++ r ∷ []) p r rest.0)) in
      (row_at_other x (xs ++ r ∷ []) p off ∙ rest.0, without_other p x (xs ++ r ∷ []) off ∙ ap (λ rs. x ∷ rs) rest.1)

  module _ (old : Recency K V) (once : (p : ℕ) → times_at p old.rows ≤ 1) (p : ℕ) (t : Taken K V) (is : option_map taken (row_at old.rows p) ≡ Some t) where
    pub pops_last : Some p ≡ option_map (λ (r : Placed K V). r.place) (last_row old.rows) → PopsLast old (Some t) (recency (without old.rows p) (old.free + 1))
    pops_last e =
        let l = last_parts old.rows p e in
        let parts = front_without l.0 l.1 p l.3 (subst (λ rs. times_at p rs ≤ 1) l.2 (once p)) in
        let here = ap (λ rs. row_at rs p) l.2 ∙ parts.0 in
        (l.1, l.0, l.2, some_of t (taken l.1) (sym is ∙ ap (option_map taken) here), ap (λ rs. recency rs (old.free + 1)) (ap (λ rs. without rs p) l.2 ∙ parts.1))

    pub pops_first : Some p ≡ option_map (λ (r : Placed K V). r.place) (first_row old.rows) → PopsFirst old (Some t) (recency (without old.rows p) (old.free + 1))
    pops_first e =
        let l = first_parts old.rows p e in
        let here = ap (λ rs. row_at rs p) l.2 ∙ row_at_here l.1 l.0 p l.3 in
        let none = absent_without l.0 p (omega (arith, once p, ap (times_at p) l.2, at_here p l.1 l.0 l.3)) in
        (l.1, l.0, l.2, some_of t (taken l.1) (sym is ∙ ap (option_map taken) here), ap (λ rs. recency rs (old.free + 1)) (ap (λ rs. without rs p) l.2 ∙ without_here p l.1 l.0 l.3 ∙ none))

    pub removes_row : {Q : Type 0} (stands_for : K → Q → Bool) (query : Q) → Finds stands_for old.rows query (Some p) → Removes stands_for old query (Some t) (recency (without old.rows p) (old.free + 1))
    removes_row stands_for query finds =
        (finds.0, finds.1, some_of t (taken finds.0) (sym is ∙ ap (option_map taken) finds.2), ap (λ n. recency (without old.rows n) (old.free + 1)) (sym (row_place old.rows p finds.0 finds.2)))

  pub pops_none_last : (old : Recency K V) → None ≡ option_map (λ (r : Placed K V). r.place) (last_row old.rows) → old.rows ≡ []
  pops_none_last old e = no_last old.rows e

  pub pops_none_first : (old : Recency K V) → None ≡ option_map (λ (r : Placed K V). r.place) (first_row old.rows) → old.rows ≡ []
  pops_none_first old e = no_first old.rows e

module _ {K V S : Type 0} (eq : K → K → Bool) (hash : S → K → ℕ) (nodes : Laid K V) (index : Index S) (kept : IsKept eq hash nodes index) (p : ℕ) where
  -- the place of the last row, or of the first, has one
  pub last_at : Some p ≡ option_map (λ (r : Placed K V). r.place) (last_row nodes.held.rows) → IsAt nodes.held.rows p
  last_at e =
      let l = last_parts nodes.held.rows p e in
      ap is_some (ap (λ rs. row_at rs p) l.2 ∙ (front_without l.0 l.1 p l.3 (subst (λ rs. times_at p rs ≤ 1) l.2 (kept.laid.once p))).0)

  pub first_at : Some p ≡ option_map (λ (r : Placed K V). r.place) (first_row nodes.held.rows) → IsAt nodes.held.rows p
  first_at e = let l = first_parts nodes.held.rows p e in ap is_some (ap (λ rs. row_at rs p) l.2 ∙ row_at_here l.1 l.0 p l.3)

  -- what is seen of a row that goes
  module _ (r : Recency K V) (view : nodes.held ≡ r) (nodes' : Laid K V) (is : nodes' ≡ laid (recency (without nodes.held.rows p) (nodes.held.free + 1)) nodes.room) (t : Taken K V) (out : option_map taken (row_at nodes.held.rows p) ≡ Some t) where
    held_is : nodes'.held ≡ recency (without nodes.held.rows p) (nodes.held.free + 1)
    held_is = ap (λ (l : Laid K V). l.held) is

    pub seen_last : Some p ≡ option_map (λ (x : Placed K V). x.place) (last_row nodes.held.rows) → PopsLast r (Some t) nodes'.held
    seen_last e = subst (λ x. PopsLast x (Some t) nodes'.held) view (subst (λ x. PopsLast nodes.held (Some t) x) (sym held_is) (pops_last nodes.held kept.laid.once p t out e))

    pub seen_first : Some p ≡ option_map (λ (x : Placed K V). x.place) (first_row nodes.held.rows) → PopsFirst r (Some t) nodes'.held
    seen_first e = subst (λ x. PopsFirst x (Some t) nodes'.held) view (subst (λ x. PopsFirst nodes.held (Some t) x) (sym held_is) (pops_first nodes.held kept.laid.once p t out e))

    pub seen_removed : {Q : Type 0} (stands_for : K → Q → Bool) (query : Q) → Finds stands_for nodes.held.rows query (Some p) → Removes stands_for r query (Some t) nodes'.held
    seen_removed stands_for query finds =
        subst (λ x. Removes stands_for x query (Some t) nodes'.held) view (subst (λ x. Removes stands_for nodes.held query (Some t) x) (sym held_is) (removes_row nodes.held kept.laid.once p t out stands_for query finds))

-- what is seen of the pairs, and of their hashes
pub seen_held : {K V S : Type 0} (r : Recency K V) (s : S) (p : Paired K V S) → paired r s ≡ p → r ≡ p.held
seen_held r s p view = ap (λ (x : Paired _ _ _). x.held) view

pub seen_hashes : {K V S : Type 0} (r : Recency K V) (s : S) (p : Paired K V S) → paired r s ≡ p → s ≡ p.hashes
seen_hashes r s p view = ap (λ (x : Paired _ _ _). x.hashes) view
