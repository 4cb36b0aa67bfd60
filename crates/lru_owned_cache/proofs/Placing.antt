-- An entry is put first, once what has to go for it went.
use Rattle.std.proofs.Common.{◌≡◌, ℕ, ◌+◌, ◌≤◌, List, [], ◌∷◌, ◌++◌, length, Some, None, refl, sym, ap, ◌∙◌, subst, arith, cond}
use Rattle.std.specs.Prelude.{Option, Bool, is_some}
use Rattle.std.specs.Option.{option_map}
use Rattle.std.proofs.lemmas.Bool.{false≢true, cond_both}
use Rattle.std.proofs.lemmas.List.{length-append, map-append}
use Rattle.lru_rows.specs.Rows.{Placed, Recency, recency, row_of}
use Rattle.lru_owned_cache.specs.declared.entry.Entry.{Entry}
use Rattle.lru_owned_cache.specs.Cache.{Clears, with_entries, Cached, Fit, Leaves, Limits}
use Rattle.lru_owned_cache.specs.Entries.{IsShown, entry_in, entries_in}
use Rattle.lru_owned_cache.specs.Representation.{cached_in}
use Rattle.lru_owned_cache.specs.Partings.{RowsFit, Shrinks}
use Rattle.lru_owned_cache.proofs.Rows.{weight-entries, length-entries}

pub none_of : {A B : Type 0} (f : A → B) (o : Option A) → option_map f o ≡ None → o ≡ None
none_of f None e = refl
none_of f (Some a) e = absurd (false≢true (sym (ap is_some e)))

module _ {K V : Type 0} where
  -- entries fit where their rows do
  fit_rows : (w n : ℕ) (rows : List (Placed K V)) → Fit w n (entries_in rows) → RowsFit w n rows
  fit_rows w n rows fit = (omega (arith, fit.0, weight-entries rows), omega (arith, fit.1, length-entries rows))

  pub rows_fit : (w n : ℕ) (rows : List (Placed K V)) → RowsFit w n rows → Fit w n (entries_in rows)
  rows_fit w n rows fit = (omega (arith, fit.0, weight-entries rows), omega (arith, fit.1, length-entries rows))

  -- a key that is not among rows is not among the first of them
  pub front_absent : (eq : K → K → Bool) (key : K) (front back : List (Placed K V)) → row_of eq (front ++ back) key ≡ None → row_of eq front key ≡ None
  front_absent eq key [] back none = refl
  front_absent eq key (r ∷ rs) back none =
      cond_both (eq r.key key) (Some r) (row_of eq rs key) (λ o. o ≡ None)
      (λ e. absurd (false≢true (ap is_some (sym none ∙ ap (λ b. cond b (Some r) (row_of eq (rs ++ back) key)) e))))
      (λ e. front_absent eq key rs back (sym (ap (λ b. cond b (Some r) (row_of eq (rs ++ back) key)) e) ∙ none))

same_head : {A : Type 0} (a b : A) (xs ys : List A) → a ∷ xs ≡ b ∷ ys → a ≡ b
same_head a b xs ys e = cc

nil_cons : {A : Type 0} (a : A) (xs : List A) → [] ≡ a ∷ xs → ⊥
nil_cons a xs e = cc

-- rows that go are the shortest end of entries that has to
module _ {K V F : Type 0} (Step : F → Entry K V → F → Type 0) (visit : F) (a n : ℕ) (r r' : Recency K V) (s : Shrinks Step visit a n r r') where
  needed_by : (back : List (Placed K V)) → s.back ≡ back → (e : Entry K V) (rest : List (Entry K V)) → entries_in s.back ≡ e ∷ rest → Fit a n (entries_in s.front ++ e ∷ []) → ⊥
  needed_by [] is e rest to fit = nil_cons e rest (sym (ap entries_in is) ∙ to)
  needed_by (b ∷ bs) is e rest to fit =
      s.needed b bs is (fit_rows a n (s.front ++ b ∷ [])
      (subst (λ es. Fit a n es) (sym (map-append entry_in s.front (b ∷ [])))
      (subst (λ x. Fit a n (entries_in s.front ++ x ∷ [])) (sym (same_head (entry_in b) e (entries_in bs) rest (sym (ap entries_in is) ∙ to))) fit)))

  pub leaves_rows : Leaves a n (entries_in r.rows) (entries_in s.front) (entries_in s.back)
  leaves_rows = record {
    parts = ap entries_in s.parts ∙ map-append entry_in s.front s.back;
    fits = rows_fit a n s.front s.fits;
    needed = λ e rest is fit. needed_by s.back refl e rest is fit;
  }

  -- which limits the cache has then
  pub limits_set : {S : Type 0} (hashes : S) (used_is most_weight most_entries : ℕ) (c : Cached K V S) → cached_in r hashes most_weight most_entries ≡ c → Limits Step visit c a n (cached_in r' hashes a n)
  limits_set {S} hashes used_is most_weight most_entries c view = (
    entries_in s.front,
    (
      entries_in s.back,
      (
        subst (λ es. Leaves a n es (entries_in s.front) (entries_in s.back)) (ap (λ (x : Cached K V S). x.entries) view) leaves_rows,
        (
          s.shown,
          ap (λ x. cached_in x hashes a n) s.left
              ∙ ap (λ m. record { entries = entries_in s.front; places = m; most_weight = a; most_entries = n; hashes = hashes })
              (omega (arith, ap length s.parts, length-append s.front s.back, ap (λ (x : Cached K V S). x.places) view))
              ∙ ap (λ h. record { entries = entries_in s.front; places = c.places; most_weight = a; most_entries = n; hashes = h }) (ap (λ (x : Cached K V S). x.hashes) view),
        ),
      ),
    ),
  )

none_long : {A : Type 0} (xs : List A) → length xs ≤ 0 → xs ≡ []
none_long [] short = refl
none_long (x ∷ xs) short = absurd (omega (arith, short))

-- where nothing may be left, all go
module _ {K V F S : Type 0} (Step : F → Entry K V → F → Type 0) (visit : F) (r r' : Recency K V) (s : Shrinks Step visit 0 0 r r') (hashes : S) (most_weight most_entries : ℕ) where
  none_left : s.front ≡ []
  none_left = none_long s.front s.fits.1

  all_went : r.rows ≡ s.back
  all_went = s.parts ∙ ap (λ rs. rs ++ s.back) none_left

  left_empty : r' ≡ recency [] (r.free + length s.back)
  left_empty = s.left ∙ ap (λ rs. recency rs (r.free + length s.back)) none_left

  pub clears : (c : Cached K V S) → cached_in r hashes most_weight most_entries ≡ c → Clears Step visit c (cached_in r' hashes most_weight most_entries)
  clears c view = (
    subst (λ es. IsShown Step visit es) (ap entries_in (sym all_went) ∙ ap (λ (x : Cached K V S). x.entries) view) s.shown,
    ap (λ x. cached_in x hashes most_weight most_entries) left_empty
        ∙ ap (λ n. record { entries = []; places = n; most_weight = most_weight; most_entries = most_entries; hashes = hashes }) (omega (arith, ap length all_went))
        ∙ ap (λ (x : Cached K V S). with_entries x []) view,
  )
