-- The first entry gets another weight, and the shortest end of the others goes that has to.
use Rattle.std.proofs.Common.{◌≡◌, Some, ℕ, ◌+◌, ◌-◌, ◌≤◌, List, [], ◌∷◌, ◌++◌, length, refl, sym, ap, ◌∙◌, subst, arith}
use Rattle.std.specs.Prelude.{Bool, is_some, count_by, ◌==◌}
use Rattle.std.specs.Option.{option_map}
use Rattle.std.proofs.lemmas.List.{length-append, map-append}
use Rattle.lru_rows.specs.Rows.{Placed, placed, Recency, recency, row_at, IsAt, IsRecency, with_weight, first_row}
use Rattle.lru_owned_cache.specs.declared.entry.Entry.{Entry}
use Rattle.lru_owned_cache.specs.Cache.{Cached, Fit, Leaves, Settles}
use Rattle.lru_owned_cache.specs.Entries.{entry_in, entries_in, weight_in}
use Rattle.lru_owned_cache.specs.Representation.{cached_in, IsKept}
use Rattle.lru_owned_cache.specs.Partings.{RowsFit, Shrinks}
use Rattle.lru_owned_cache.proofs.Rows.{some_of, first_told, row_first, places, places_here, places-append, with_weight-first, weight-cons, weight-entries, length-entries}
use Rattle.lru_owned_cache.proofs.Views.{entries_are, with_rows}

same_head : {A : Type 0} (a b : A) (xs ys : List A) → a ∷ xs ≡ b ∷ ys → a ≡ b
same_head a b xs ys e = cc

same_tail : {A : Type 0} (a b : A) (xs ys : List A) → a ∷ xs ≡ b ∷ ys → xs ≡ ys
same_tail a b xs ys e = cc

nil_cons : {A : Type 0} (a : A) (xs : List A) → [] ≡ a ∷ xs → ⊥
nil_cons a xs e = cc

module _ {K V S : Type 0} (eq : K → K → Bool) (r : Recency K V) (hashes : S) (used_is most_weight most_entries : ℕ) (kept : IsKept r used_is most_weight most_entries) (c : Cached K V S)
    (view : cached_in r hashes most_weight most_entries ≡ c) (valid : IsRecency eq r.rows) (p : ℕ) (told : Some p ≡ option_map (λ (y : Placed K V). y.place) (first_row r.rows)) where
  abbrev x : Placed K V
  x = (first_told r.rows p told).0

  abbrev xs : List (Placed K V)
  xs = (first_told r.rows p told).1.0

  rows_are : r.rows ≡ x ∷ xs
  rows_are = (first_told r.rows p told).1.1.0

  at : (first_told r.rows p told).0.place ≡ p
  at = (first_told r.rows p told).1.1.1

  none_more : places p xs ≡ 0
  none_more = omega (arith, subst (λ rs. count_by (λ (y : Placed K V). y.place == p) rs ≤ 1) rows_are (valid.places p), places_here x xs p at)

  pub stands_first : IsAt r.rows p
  stands_first = ap is_some (ap (λ rs. row_at rs p) rows_are ∙ row_first x xs p at)

  module _ (was : ℕ) (read : option_map (λ (y : Placed K V). y.weight) (row_at r.rows p) ≡ Some was) where
    was_is : was ≡ x.weight
    was_is = some_of was x.weight (sym read ∙ ap (option_map (λ (y : Placed K V). y.weight)) (ap (λ rs. row_at rs p) rows_are ∙ row_first x xs p at))

    pub first_light : was ≤ used_is
    first_light = omega (arith, was_is, kept.used_is, ap weight_in rows_are, weight-cons x xs)

    module _ (r1 : Recency K V) (r1_is : r1 ≡ recency (with_weight r.rows p 0) r.free) where
      abbrev blank : Placed K V
      blank = placed x.place x.key x.value 0

      rows1 : r1.rows ≡ blank ∷ xs
      rows1 = ap (λ (y : Recency K V). y.rows) r1_is ∙ ap (λ rs. with_weight rs p 0) rows_are ∙ with_weight-first p 0 x xs at none_more

      pub others_weigh : used_is - was ≡ weight_in r1.rows
      others_weigh = omega (arith, was_is, kept.used_is, ap weight_in rows_are, weight-cons x xs, ap weight_in rows1, weight-cons blank xs)

      module _ {F : Type 0} (Step : F → Entry K V → F → Type 0) (visit : F) (w : ℕ) (light : w ≤ most_weight) (r2 : Recency K V) (s : Shrinks Step visit (most_weight - w) most_entries r1 r2) where
        -- a row without weight fits alone
        first_stays : (front : List (Placed K V)) → s.front ≡ front → (fs : List (Placed K V)) × ((s.front ≡ blank ∷ fs) × (xs ≡ fs ++ s.back))
        first_stays [] e =
            absurd (s.needed blank xs (sym (ap (λ f. f ++ s.back) e) ∙ sym s.parts ∙ rows1)
            (subst (λ f. RowsFit (most_weight - w) most_entries (f ++ blank ∷ [])) (sym e) (omega (arith, weight-cons blank []), omega (arith, kept.few, ap length rows_are))))
        first_stays (y ∷ ys) e =
            let whole : y ∷ (ys ++ s.back) ≡ blank ∷ xs = sym (ap (λ f. f ++ s.back) e) ∙ sym s.parts ∙ rows1 in
            (ys, (e ∙ ap (λ z. z ∷ ys) (same_head y blank (ys ++ s.back) xs whole), sym (same_tail y blank (ys ++ s.back) xs whole)))

        abbrev fs : List (Placed K V)
        fs = (first_stays s.front refl).0

        front_is : s.front ≡ blank ∷ fs
        front_is = (first_stays s.front refl).1.0

        others_are : xs ≡ fs ++ s.back
        others_are = (first_stays s.front refl).1.1

        rows2 : r2.rows ≡ blank ∷ fs
        rows2 = ap (λ (y : Recency K V). y.rows) s.left ∙ front_is

        free2 : r2.free ≡ r.free + length s.back
        free2 = ap (λ (y : Recency K V). y.free) s.left ∙ ap (λ (y : Recency K V). y.free + length s.back) r1_is

        none_left : places p fs ≡ 0
        none_left = omega (arith, none_more, ap (places p) others_are, places-append p fs s.back)

        pub still_first : IsAt r2.rows p
        still_first = ap is_some (ap (λ rs. row_at rs p) rows2 ∙ row_first blank fs p at)

        module _ (r3 : Recency K V) (r3_is : r3 ≡ recency (with_weight r2.rows p w) r2.free) where
          abbrev now : Placed K V
          now = placed x.place x.key x.value w

          rows3 : r3 ≡ recency (now ∷ fs) (r.free + length s.back)
          rows3 =
              r3_is ∙ ap (λ rs. recency (with_weight rs p w) r2.free) rows2
              ∙ ap (λ rs. recency rs r2.free) (with_weight-first p w blank fs at none_left) ∙ ap (recency (now ∷ fs)) free2

          pub kept_settled : (left : ℕ) → left ≡ weight_in r2.rows → IsKept r3 (left + w) most_weight most_entries
          kept_settled left left_is = subst (λ y. IsKept y (left + w) most_weight most_entries) (sym rows3) (record {
            used_is = omega (arith, left_is, ap weight_in rows2, weight-cons blank fs, weight-cons now fs);
            light = omega (arith, left_is, ap weight_in rows2, ap weight_in front_is, s.fits.0, light);
            few = omega (arith, s.fits.1, ap length front_is);
          })

          needed_by : (back : List (Placed K V)) → s.back ≡ back → (e : Entry K V) (rest : List (Entry K V)) → entries_in s.back ≡ e ∷ rest → Fit (most_weight - w) (most_entries - 1) (entries_in fs ++ e ∷ []) → ⊥
          needed_by [] is e rest to fit = nil_cons e rest (sym (ap entries_in is) ∙ to)
          needed_by (b ∷ bs) is e rest to fit =
              let more : Fit (most_weight - w) (most_entries - 1) (entries_in (fs ++ b ∷ [])) =
              subst (λ es. Fit (most_weight - w) (most_entries - 1) es) (sym (map-append entry_in fs (b ∷ [])))
              (subst (λ z. Fit (most_weight - w) (most_entries - 1) (entries_in fs ++ z ∷ [])) (sym (same_head (entry_in b) e (entries_in bs) rest (sym (ap entries_in is) ∙ to))) fit) in
              s.needed b bs is (subst (λ f. RowsFit (most_weight - w) most_entries (f ++ b ∷ [])) (sym front_is)
              (omega (arith, more.0, weight-entries (fs ++ b ∷ []), weight-cons blank (fs ++ b ∷ [])), omega (arith, more.1, length-entries (fs ++ b ∷ []), kept.few, ap length rows_are)))

          leaves : Leaves (most_weight - w) (most_entries - 1) (entries_in xs) (entries_in fs) (entries_in s.back)
          leaves = record {
            parts = ap entries_in others_are ∙ map-append entry_in fs s.back;
            fits = (omega (arith, s.fits.0, ap weight_in front_is, weight-cons blank fs, weight-entries fs), omega (arith, s.fits.1, ap length front_is, length-entries fs));
            needed = λ e rest to fit. needed_by s.back refl e rest to fit;
          }

          pub view_settled : Settles Step visit c w (cached_in r3 hashes most_weight most_entries)
          view_settled = (
            entry_in x,
            (
              entries_in xs,
              (
                sym (entries_are eq r hashes used_is most_weight most_entries kept c view) ∙ ap entries_in rows_are,
                (
                  entries_in fs,
                  (
                    entries_in s.back,
                    (
                      subst (λ a. Leaves (a - w) (c.most_entries - 1) (entries_in xs) (entries_in fs) (entries_in s.back)) (ap (λ (y : Cached K V S). y.most_weight) view)
                          (subst (λ n. Leaves (most_weight - w) (n - 1) (entries_in xs) (entries_in fs) (entries_in s.back)) (ap (λ (y : Cached K V S). y.most_entries) view) leaves),
                      (
                        s.shown,
                        ap (λ y. cached_in y hashes most_weight most_entries) rows3
                            ∙ with_rows eq r hashes used_is most_weight most_entries kept c view (now ∷ fs) (r.free + length s.back) (omega (arith, ap length rows_are, ap length others_are, length-append fs s.back)),
                      ),
                    ),
                  ),
                ),
              ),
            ),
          )
