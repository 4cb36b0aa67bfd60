-- Rows seen as entries.
use Rattle.std.proofs.Common.{◌≡◌, ◌≢◌, ℕ, ◌+◌, ◌≤◌, cond, not, List, [], ◌∷◌, Some, None, refl, sym, ap, ◌∙◌, inl, inr, arith, true, false}
use Rattle.std.specs.Prelude.{Bool, is_some, count_by}
use Rattle.std.specs.Option.{option_map}
use Rattle.std.proofs.lemmas.Bool.{cond_both, cases_eq, eq-eqb, ne_eqb, false≢true}
use Rattle.std.proofs.lemmas.List.Sums.{sum_by-cons}
use Rattle.lru_rows.specs.Rows.{Placed, row_at, row_of, without as rows_without}
use Rattle.lru_owned_cache.specs.declared.entry.Entry.{Entry}
use Rattle.lru_owned_cache.specs.Cache.{entry_of, without}
use Rattle.lru_owned_cache.specs.Entries.{entry_in, entries_in}
use Rattle.lru_owned_cache.proofs.Rows.{some_of, by_bool, by_place, places, places_here, places_other, without_absent, tail_once_of}

module _ {K V : Type 0} where
  module _ {Q : Type 0} (eq : K → Q → Bool) where
    -- the entry of a key
    pub entry-row : (rows : List (Placed K V)) (key : Q) → entry_of eq (entries_in rows) key ≡ option_map entry_in (row_of eq rows key)
    entry-row [] key = refl
    entry-row (r ∷ rs) key =
        cond_both (eq r.key key) (Some r) (row_of eq rs key) (λ o. cond (eq r.key key) (Some (entry_in r)) (entry_of eq (entries_in rs) key) ≡ option_map entry_in o)
        (λ e. ap (λ b. cond b (Some (entry_in r)) (entry_of eq (entries_in rs) key)) e)
        (λ e. ap (λ b. cond b (Some (entry_in r)) (entry_of eq (entries_in rs) key)) e ∙ entry-row rs key)

    abbrev pub keyed : Q → List (Placed K V) → ℕ
    keyed key rows = count_by (λ r. eq r.key key) rows

    pub keyed-cons : (key : Q) (r : Placed K V) (rs : List (Placed K V)) → keyed key (r ∷ rs) ≡ cond (eq r.key key) 1 0 + keyed key rs
    keyed-cons key r rs = sum_by-cons (λ (x : Placed K V). cond (eq x.key key) 1 0) r rs

    pub keyed-entries : (key : Q) (rows : List (Placed K V)) → count_by (λ (e : Entry K V). eq e.key key) (entries_in rows) ≡ keyed key rows
    keyed-entries key [] = refl
    keyed-entries key (r ∷ rs) =
        sum_by-cons (λ (e : Entry K V). cond (eq e.key key) 1 0) (entry_in r) (entries_in rs) ∙ ap (λ n. cond (eq r.key key) 1 0 + n) (keyed-entries key rs) ∙ sym (keyed-cons key r rs)

    pub counts : (r : Placed K V) (key : Q) (b : Bool) → eq r.key key ≡ b → ◌≡◌ {A = ℕ} (cond (eq r.key key) 1 0) (cond b 1 0)
    counts r key b e = ap (λ x. cond x 1 0) e

    -- a key that no row has
    keyless : (key : Q) (rows : List (Placed K V)) → keyed key rows ≡ 0 → without eq (entries_in rows) key ≡ entries_in rows
    keyless key [] none = refl
    keyless key (r ∷ rs) none =
        by_bool (eq r.key key)
        (λ e. absurd (omega (arith, none, keyed-cons key r rs, counts r key true e)))
        (λ e.
        let less : ◌≡◌ {A = ℕ} (keyed key rs) 0 = omega (arith, none, keyed-cons key r rs, counts r key false e) in
        ap (λ b. cond (not b) (entry_in r ∷ without eq (entries_in rs) key) (without eq (entries_in rs) key)) e ∙ ap (λ es. entry_in r ∷ es) (keyless key rs less))

    pub absent_without : (key : Q) (rows : List (Placed K V)) → row_of eq rows key ≡ None → without eq (entries_in rows) key ≡ entries_in rows
    absent_without key [] none = refl
    absent_without key (r ∷ rs) none =
        by_bool (eq r.key key)
        (λ e. absurd (false≢true (ap is_some (sym none ∙ ap (λ b. cond b (Some r) (row_of eq rs key)) e))))
        (λ e.
        ap (λ b. cond (not b) (entry_in r ∷ without eq (entries_in rs) key) (without eq (entries_in rs) key)) e
        ∙ ap (λ es. entry_in r ∷ es) (absent_without key rs (sym (ap (λ b. cond b (Some r) (row_of eq rs key)) e) ∙ none)))

    -- a row that is found stands there
    found_there : (key : Q) (rows : List (Placed K V)) (r : Placed K V) → row_of eq rows key ≡ Some r → 1 ≤ places r.place rows
    found_there key [] r found = absurd (false≢true (ap is_some found))
    found_there key (x ∷ xs) r found =
        by_bool (eq x.key key)
        (λ e.
        let is : x ≡ r = some_of x r (sym (ap (λ b. cond b (Some x) (row_of eq xs key)) e) ∙ found) in
        omega (arith, places_here x xs r.place (ap (λ (y : Placed K V). y.place) is)))
        (λ e.
        let rest = found_there key xs r (sym (ap (λ b. cond b (Some x) (row_of eq xs key)) e) ∙ found) in
        elim (cases_eq x.place r.place) [
          | inl here ↦ omega (arith, rest, places_here x xs r.place here)
          | inr ne ↦ omega (arith, rest, places_other x xs r.place ne)
        ])

    -- and is the one at its place
    pub row_there : (key : Q) (rows : List (Placed K V)) (r : Placed K V) → row_of eq rows key ≡ Some r → ((p : ℕ) → places p rows ≤ 1) → row_at rows r.place ≡ Some r
    row_there key [] r found once = absurd (false≢true (ap is_some found))
    row_there key (x ∷ xs) r found once =
        by_bool (eq x.key key)
        (λ e.
        let is : x ≡ r = some_of x r (sym (ap (λ b. cond b (Some x) (row_of eq xs key)) e) ∙ found) in
        ap (λ b. cond b (Some x) (row_at xs r.place)) (eq-eqb x.place r.place (ap (λ (y : Placed K V). y.place) is)) ∙ ap (λ y. Some y) is)
        (λ e.
        let rest = sym (ap (λ b. cond b (Some x) (row_of eq xs key)) e) ∙ found in
        let there = found_there key xs r rest in
        let ne : x.place ≢ r.place = λ here. absurd (omega (arith, once r.place, there, places_here x xs r.place here)) in
        ap (λ b. cond b (Some x) (row_at xs r.place)) (ne_eqb x.place r.place ne) ∙ row_there key xs r rest (tail_once_of x xs once))

    -- the entries without a key's are the rows without that at its place
    pub entries-without : (key : Q) (rows : List (Placed K V)) (r : Placed K V) → row_of eq rows key ≡ Some r → ((p : ℕ) → places p rows ≤ 1) → keyed key rows ≤ 1 →
        entries_in (rows_without rows r.place) ≡ without eq (entries_in rows) key
    entries-without key [] r found once one = absurd (false≢true (ap is_some found))
    entries-without key (x ∷ xs) r found once one =
        by_bool (eq x.key key)
        (λ e.
        let is : x ≡ r = some_of x r (sym (ap (λ b. cond b (Some x) (row_of eq xs key)) e) ∙ found) in
        let here : x.place ≡ r.place = ap (λ (y : Placed K V). y.place) is in
        let none : places r.place xs ≡ 0 = omega (arith, once r.place, places_here x xs r.place here) in
        let less : ◌≡◌ {A = ℕ} (keyed key xs) 0 = omega (arith, one, keyed-cons key x xs, counts x key true e) in
        by_place r.place x xs (λ ys. entries_in ys ≡ without eq (entries_in (x ∷ xs)) key)
        (λ _. ap entries_in (without_absent r.place xs none) ∙ sym (keyless key xs less)
        ∙ sym (ap (λ b. cond (not b) (entry_in x ∷ without eq (entries_in xs) key) (without eq (entries_in xs) key)) e))
        (λ ne. absurd (ne here)))
        (λ e.
        let rest = sym (ap (λ b. cond b (Some x) (row_of eq xs key)) e) ∙ found in
        let there = found_there key xs r rest in
        let off = entries-without key xs r rest (tail_once_of x xs once) (omega (arith, one, keyed-cons key x xs)) in
        by_place r.place x xs (λ ys. entries_in ys ≡ without eq (entries_in (x ∷ xs)) key)
        (λ here. absurd (omega (arith, once r.place, there, places_here x xs r.place here)))
        (λ ne. ap (λ es. entry_in x ∷ es) off
        ∙ sym (ap (λ b. cond (not b) (entry_in x ∷ without eq (entries_in xs) key) (without eq (entries_in xs) key)) e)))
