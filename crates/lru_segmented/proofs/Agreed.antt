-- A row that has a place, and the key that is asked for: the rows without either are the same.
use Rattle.std.proofs.Common.{◌≡◌, ℕ, ◌≤◌, cond, not, eqb, List, [], ◌∷◌, ◌++◌, length, Some, refl, sym, ap, ◌∙◌, arith, true, false}
use Rattle.std.specs.Prelude.{Bool, is_some}
use Rattle.std.proofs.lemmas.Bool.{eq-eqb, ne_eqb, false≢true}
use Rattle.lru_rows.specs.Rows.{Placed, row_of, without as rows_without}
use Rattle.lru_owned_cache.specs.Entries.{entry_in, entries_in, weight_in}
use Rattle.lru_owned_cache.proofs.Rows.{some_of, by_bool, by_place, places, places_here, places_other, tail_once_of, weight-cons}
use Rattle.lru_owned_cache.specs.Cache.{without}
use Rattle.lru_owned_cache.proofs.Entries.{keyed, keyed-cons, counts, row_there}
use Rattle.lru_segmented.proofs.Sides.{Once, at_places}

module _ {K V : Type 0} where
  -- fewer rows weigh less
  pub weight_less : (rows : List (Placed K V)) (p : ℕ) → weight_in (rows_without rows p) ≤ weight_in rows
  weight_less [] p = omega arith
  weight_less (r ∷ rs) p =
      let rest = weight_less rs p in
      by_place p r rs (λ ys. weight_in ys ≤ weight_in (r ∷ rs)) (λ _. omega (arith, rest, weight-cons r rs)) (λ _. omega (arith, rest, weight-cons r rs, weight-cons r (rows_without rs p)))

  pub length_less : (rows : List (Placed K V)) (p : ℕ) → length (rows_without rows p) ≤ length rows
  length_less [] p = omega arith
  length_less (r ∷ rs) p =
      let rest = length_less rs p in
      by_place p r rs (λ ys. length ys ≤ length (r ∷ rs)) (λ _. omega (arith, rest)) (λ _. omega (arith, rest))

  module _ {Q : Type 0} (eq : K → Q → Bool) (key : Q) (p : ℕ) where
    -- each row has the place exactly where it has the key
    abbrev pub Agree : List (Placed K V) → Type 0
    Agree [] = Unit {0}
    Agree (r ∷ rs) = (eqb r.place p ≡ eq r.key key) × Agree rs

    agree_none : (rows : List (Placed K V)) → places p rows ≡ 0 → keyed eq key rows ≡ 0 → Agree rows
    agree_none [] none less = tt
    agree_none (r ∷ rs) none less =
        by_bool (eq r.key key)
        (λ e. absurd (omega (arith, less, keyed-cons eq key r rs, counts eq r key true e)))
        (λ e.
        let ne : r.place ≡ p → ⊥ = λ here. absurd (omega (arith, none, places_here r rs p here)) in
        (ne_eqb r.place p ne ∙ sym e, agree_none rs (sym (places_other r rs p ne) ∙ none) (omega (arith, less, keyed-cons eq key r rs))))

    pub agree_found : (rows : List (Placed K V)) (x : Placed K V) → row_of eq rows key ≡ Some x → x.place ≡ p → Once rows → keyed eq key rows ≤ 1 → Agree rows
    agree_found [] x found place once one = absurd (false≢true (ap is_some found))
    agree_found (r ∷ rs) x found place once one =
        by_bool (eq r.key key)
        (λ e.
        let is : r ≡ x = some_of r x (sym (ap (λ b. cond b (Some r) (row_of eq rs key)) e) ∙ found) in
        let here : r.place ≡ p = ap (λ (y : Placed K V). y.place) is ∙ place in (
          eq-eqb r.place p here ∙ sym e,
          agree_none rs (omega (arith, once p, places_here r rs p here)) (omega (arith, one, keyed-cons eq key r rs, counts eq r key true e)),
        ))
        (λ e.
        let rest = sym (ap (λ b. cond b (Some r) (row_of eq rs key)) e) ∙ found in
        let behind = at_places rs x.place x (row_there eq key rs x rest (tail_once_of r rs once)) in
        let ne : r.place ≡ p → ⊥ = λ here. absurd (omega (arith, once x.place, behind, places_here r rs x.place (here ∙ sym place))) in
        (ne_eqb r.place p ne ∙ sym e, agree_found rs x rest place (tail_once_of r rs once) (omega (arith, one, keyed-cons eq key r rs))))

    pub agree_left : (xs ys : List (Placed K V)) → Agree (xs ++ ys) → Agree xs
    agree_left [] ys a = tt
    agree_left (x ∷ xs) ys a = (a.0, agree_left xs ys a.1)

    pub agree_right : (xs ys : List (Placed K V)) → Agree (xs ++ ys) → Agree ys
    agree_right [] ys a = a
    agree_right (x ∷ xs) ys a = agree_right xs ys a.1

    -- so the entries without the key's are the rows without the place's
    pub agreed_without : (rows : List (Placed K V)) → Agree rows → entries_in (rows_without rows p) ≡ without eq (entries_in rows) key
    agreed_without [] a = refl
    agreed_without (r ∷ rs) a =
        ap (λ b. entries_in (cond (not b) (r ∷ rows_without rs p) (rows_without rs p))) a.0 ∙ by_key (agreed_without rs a.1) (eq r.key key)
      where
        by_key : entries_in (rows_without rs p) ≡ without eq (entries_in rs) key → (b : Bool) →
            entries_in (cond (not b) (r ∷ rows_without rs p) (rows_without rs p)) ≡ cond (not b) (entry_in r ∷ without eq (entries_in rs) key) (without eq (entries_in rs) key)
        by_key rest true = rest
        by_key rest false = ap (λ es. entry_in r ∷ es) rest
