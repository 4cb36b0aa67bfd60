-- What the calls of a cache make of its entries, by what they make of its rows.
use Rattle.std.proofs.Common.{◌≡◌, ℕ, ◌+◌, ◌-◌, ◌<◌, ◌≤◌, cond, List, [], ◌∷◌, ◌++◌, length, Some, None, refl, sym, ap, ◌∙◌, subst, inl, inr, arith, true, append_assoc}
use Rattle.std.specs.Prelude.{Option, Bool, map, is_some, IsTrue, count_by, eqb}
use Rattle.std.specs.Option.{option_map, option_map_or}
use Rattle.std.specs.Borrow.{MutBor}
use Rattle.std.proofs.lemmas.Bool.{false≢true}
use Rattle.std.proofs.lemmas.List.{length-append, map-append, append-nil}
use Rattle.lru_rows.specs.declared.rows.NoPlace.{NoPlace}
use Rattle.lru_rows.specs.declared.rows.NoPlace.TheVariants.{Memory as NoMemory, Full as NoMore}
use Rattle.lru_rows.specs.declared.rows.Taken.{Taken}
use Rattle.lru_rows.specs.Rows.{Placed, placed, recency, row_at, row_of, IsAt, IsRecency, Finds, without as rows_without, first_row, last_row, taken, with_value, most_rows, LacksPlace as RowsLackPlace, Updates, entry_of as rows_entry_of}
use Rattle.lru_owned_cache.specs.declared.entry.Entry.{Entry}
use Rattle.lru_owned_cache.specs.Entries.{entry, weight_of, entry_in, entries_in, weight_in}
use Rattle.lru_owned_cache.specs.Partings.{RowsFit}
use Rattle.lru_owned_cache.proofs.Rows.{some_of, places, places_here, places-append, without_absent, without_last, row_last, row_first, row_place, last_told, none_told, first_told, without_first, weight-entries, length-entries, weight-cons, weight-append, weight-without, length-without, with_value-first, with_value-without}
use Rattle.lru_owned_cache.specs.Cache.{cause_of, parts_of, Leaves, Fit, entry_of, without}
use Rattle.lru_owned_cache.proofs.Entries.{entry-row, keyed-entries}
use Rattle.lru_owned_cache.proofs.Queried.{one_stands}
use Rattle.lru_segmented.specs.Segmented.{Segmented, entries, with_segments, with_more, with_limits, removed, IsSegmented, Balances, Raises, Rejoins, LacksPlace, Uses, UpdatesEntry, PopsLast, PopsFirst, demoted}
use Rattle.lru_segmented.specs.Seats.{Seated, seated, rows, lifted, sunk, Lowers, UpdatesAt}
use Rattle.lru_segmented.specs.Representation.{segmented_in, IsKept}
use Rattle.lru_segmented.proofs.Lists.{nil_append, nil_cons}
use Rattle.lru_segmented.proofs.Sides.{Once, has_last, last_pushed, without-append}
use Rattle.lru_segmented.proofs.Agreed.{weight_less, length_less, Agree, agree_found, agree_left, agree_right, agreed_without}

pub none_row : {A B : Type 0} (f : A → B) (o : Option A) → option_map f o ≡ None → o ≡ None
none_row f None e = refl
none_row f (Some a) e = absurd (false≢true (sym (ap is_some e)))

module _ {K V : Type 0} where
  -- entries leave where rows do
  pub leaves_in : (w n : ℕ) (all front back : List (Placed K V)) → all ≡ front ++ back → RowsFit w n front → ((r : Placed K V) (rest : List (Placed K V)) → back ≡ r ∷ rest → RowsFit w n (front ++ r ∷ []) → ⊥) →
      Leaves w n (entries_in all) (entries_in front) (entries_in back)
  leaves_in w n all front back parts fits needed = record {
    parts = ap entries_in parts ∙ map-append entry_in front back;
    fits = (omega (arith, fits.0, weight-entries front), omega (arith, fits.1, length-entries front));
    needed = λ e rest to fit. needed_by back refl e rest to fit;
  }
    where
      needed_by : (rs : List (Placed K V)) → back ≡ rs → (e : Entry K V) (rest : List (Entry K V)) → entries_in back ≡ e ∷ rest → Fit w n (entries_in front ++ e ∷ []) → ⊥
      needed_by [] is e rest to fit = nil_cons e rest (sym (ap entries_in is) ∙ to)
      needed_by (r ∷ rs) is e rest to fit =
          let same : entry_in r ≡ e = first_of_two (entry_in r) e (entries_in rs) rest (sym (ap entries_in is) ∙ to) in
          let more : Fit w n (entries_in (front ++ r ∷ [])) =
          subst (Fit w n) (sym (map-append entry_in front (r ∷ []))) (subst (λ x. Fit w n (entries_in front ++ x ∷ [])) (sym same) fit) in
          needed r rs is (omega (arith, more.0, weight-entries (front ++ r ∷ [])), omega (arith, more.1, length-entries (front ++ r ∷ [])))
        where
          first_of_two : {A : Type 0} (a b : A) (xs ys : List A) → a ∷ xs ≡ b ∷ ys → a ≡ b
          first_of_two a b xs ys e = cc

  -- what is lowered is weighed and counted still
  module _ {S : Type 0} (w n : ℕ) (s t : Seated K V S) (l : Lowers w n s t) where
    pub lowered_weight : weight_in (rows t) ≡ weight_in (rows s)
    lowered_weight =
        omega (
          arith,
          ap (λ (x : Seated K V S). weight_in (rows x)) l.left,
          weight-append l.front (l.back ++ s.lower),
          weight-append l.back s.lower,
          weight-append s.upper s.lower,
          ap weight_in l.parts,
          weight-append l.front l.back,
        )

    pub lowered_length : length (rows t) ≡ length (rows s)
    lowered_length =
        omega (
          arith,
          ap (λ (x : Seated K V S). length (rows x)) l.left,
          length-append l.front (l.back ++ s.lower),
          length-append l.back s.lower,
          length-append s.upper s.lower,
          ap length l.parts,
          length-append l.front l.back,
        )

    pub lowered_upper : RowsFit w n t.upper
    lowered_upper = subst (λ (x : Seated K V S). RowsFit w n x.upper) (sym l.left) l.fits

module _ {K V S : Type 0} (s : Seated K V S) (mw me mp : ℕ) where
  abbrev pub cache : Segmented K V S
  cache = segmented_in s mw me mp

  pub entries_are : entries (segmented_in s mw me mp) ≡ entries_in (rows s)
  entries_are = sym (map-append entry_in s.upper s.lower)

  pub long : length (entries (segmented_in s mw me mp)) ≡ length (rows s)
  long = ap length entries_are ∙ length-entries (rows s)

  pub heavy : weight_of (entries (segmented_in s mw me mp)) ≡ weight_in (rows s)
  heavy = ap weight_of entries_are ∙ weight-entries (rows s)

  parts_in : (rs : List (Placed K V)) → map rows_entry_of rs ≡ map parts_of (entries_in rs)
  parts_in [] = refl
  parts_in (r ∷ rs) = ap (λ ps. (r.key, r.value, r.weight) ∷ ps) (parts_in rs)

  pub parts_are : map rows_entry_of (rows s) ≡ map parts_of (entries (segmented_in s mw me mp))
  parts_are = parts_in (rows s) ∙ ap (map parts_of) (sym entries_are)

  pub valid_cache : (eq : K → K → Bool) → IsKept s mw me mp → IsRecency eq (rows s) → IsSegmented eq cache
  valid_cache eq k v = record {
    keys = λ key. subst (λ es. count_by (λ (e : Entry K V). eq e.key key) es ≤ 1) (sym entries_are) (omega (arith, keyed-entries eq key (rows s), v.keys key));
    fits = (omega (arith, heavy, k.fits.0), omega (arith, long, k.fits.1));
    protected = (omega (arith, weight-entries s.upper, k.protected.0), omega (arith, length-entries s.upper, k.protected.1));
    placed = omega (arith, long);
    short = omega (arith, long, v.short);
  }

  -- a segment that is as heavy as it was gives nothing down
  pub unlowered : IsKept s mw me mp → (t : Seated K V S) → (weight_in t.upper ≡ weight_in s.upper) × (length t.upper ≡ length s.upper) → Lowers mp (cond (eqb mp 0) 0 me) t t
  unlowered k t same = record {
    front = t.upper;
    back = [];
    parts = sym (append-nil t.upper);
    fits = (omega (arith, k.protected.0, same.0), omega (arith, k.protected.1, same.1));
    needed = λ r rest is fit. nil_cons r rest is;
    left = refl;
  }

  -- ---- what is found
  module _ {Q : Type 0} (eq : K → Q → Bool) (query : Q) where
    found_entry : entry_of eq (entries (segmented_in s mw me mp)) query ≡ option_map entry_in (row_of eq (rows s) query)
    found_entry = ap (λ es. entry_of eq es query) entries_are ∙ entry-row eq (rows s) query

    pub found_some : (o : Option ℕ) → Finds eq (rows s) query o → is_some o ≡ is_some (entry_of eq (entries cache) query)
    found_some None none = sym (ap is_some (found_entry ∙ ap (option_map entry_in) none))
    found_some (Some p) found = sym (ap is_some (found_entry ∙ ap (option_map entry_in) found.1))

    pub found_none : Finds eq (rows s) query None → entry_of eq (entries cache) query ≡ None
    found_none none = found_entry ∙ ap (option_map entry_in) none

    pub row_none : entry_of eq (entries cache) query ≡ None → row_of eq (rows s) query ≡ None
    row_none none = none_row entry_in (row_of eq (rows s) query) (sym found_entry ∙ none)

    pub found_at : (p : ℕ) → Finds eq (rows s) query (Some p) → IsAt (rows s) p
    found_at p found = ap is_some found.2

    pub found_value : (p : ℕ) (v : V) → Finds eq (rows s) query (Some p) → option_map (λ (x : Placed K V). x.value) (row_at (rows s) p) ≡ Some v → Some v ≡ option_map (λ (e : Entry K V). e.value) (entry_of eq (entries cache) query)
    found_value p v found is =
        sym is ∙ ap (option_map (λ (x : Placed K V). x.value)) found.2 ∙ sym (ap (option_map (λ (e : Entry K V). e.value)) (found_entry ∙ ap (option_map entry_in) found.1))

    pub found_weight : (p : ℕ) (w : ℕ) → Finds eq (rows s) query (Some p) → option_map (λ (x : Placed K V). x.weight) (row_at (rows s) p) ≡ Some w → Some w ≡ option_map (λ (e : Entry K V). e.weight) (entry_of eq (entries cache) query)
    found_weight p w found is =
        sym is ∙ ap (option_map (λ (x : Placed K V). x.weight)) found.2 ∙ sym (ap (option_map (λ (e : Entry K V). e.weight)) (found_entry ∙ ap (option_map entry_in) found.1))

    -- a place that was found
    module _ (same : K → K → Bool) (itself : (k : K) → IsTrue (same k k)) (respects : (x y : K) → IsTrue (eq x query) → IsTrue (eq y query) → IsTrue (same x y)) (v : IsRecency same (rows s)) (p : ℕ) (found : Finds eq (rows s) query (Some p)) where
      abbrev x : Placed K V
      x = found.0

      place : found.0.place ≡ p
      place = row_place (rows s) p found.0 found.2

      pub entry_is : entry_of eq (entries (segmented_in s mw me mp)) query ≡ Some (entry_in found.0)
      entry_is = found_entry ∙ ap (option_map entry_in) found.1

      agree : Agree eq query p (s.upper ++ s.lower)
      agree = agree_found eq query p (rows s) found.0 found.1 place v.places (one_stands eq query same itself respects (rows s) v.keys)

      pub upper_without : entries_in (rows_without s.upper p) ≡ without eq (entries_in s.upper) query
      upper_without = agreed_without eq query p s.upper (agree_left eq query p s.upper s.lower agree)

      pub lower_without : entries_in (rows_without s.lower p) ≡ without eq (entries_in s.lower) query
      lower_without = agreed_without eq query p s.lower (agree_right eq query p s.upper s.lower agree)

      one_fewer : length (rows s) ≡ 1 + length (rows_without s.upper p ++ rows_without s.lower p)
      one_fewer = length-without p (rows s) (ap is_some found.2) (v.places p) ∙ ap (λ rs. 1 + length rs) (without-append s.upper s.lower p)

      -- ---- it is used
      module _ (t : Seated K V S) (t_is : t ≡ lifted s p) where
        lifted_is : t ≡ seated (found.0 ∷ rows_without s.upper p) (rows_without s.lower p) s.free s.hashes
        lifted_is = t_is ∙ ap (λ o. option_map_or (λ r. seated (r ∷ rows_without s.upper p) (rows_without s.lower p) s.free s.hashes) o s) found.2

        lifted_weight : weight_in (rows t) ≡ weight_in (rows s)
        lifted_weight =
            ap (λ (y : Seated K V S). weight_in (rows y)) lifted_is ∙ weight-cons found.0 (rows_without s.upper p ++ rows_without s.lower p)
            ∙ sym (weight-without p (rows s) found.0 found.2 (v.places p) ∙ ap (λ rs. found.0.weight + weight_in rs) (without-append s.upper s.lower p))

        lifted_length : length (rows t) ≡ length (rows s)
        lifted_length = ap (λ (y : Seated K V S). length (rows y)) lifted_is ∙ sym (one_fewer ∙ omega arith)

        pub lifted_stands : IsAt (rows t) p
        lifted_stands = ap is_some (ap (λ (y : Seated K V S). row_at (rows y) p) lifted_is ∙ row_first found.0 (rows_without s.upper p ++ rows_without s.lower p) p place)

        -- and with another value
        module _ (value : V) (u : Seated K V S) (u_is : u ≡ seated (placed found.0.place found.0.key value found.0.weight ∷ rows_without s.upper p) (rows_without s.lower p) s.free s.hashes) where
          module _ (z : Seated K V S) (l : Lowers mp (cond (eqb mp 0) 0 me) u z) where
            raised_weight : weight_in (rows z) ≡ weight_in (rows s)
            raised_weight =
                lowered_weight mp (cond (eqb mp 0) 0 me) u z l
                ∙ omega (
                  arith,
                  ap (λ (y : Seated K V S). weight_in (rows y)) u_is,
                  weight-cons (placed found.0.place found.0.key value found.0.weight) (rows_without s.upper p ++ rows_without s.lower p),
                  lifted_weight,
                  ap (λ (y : Seated K V S). weight_in (rows y)) lifted_is,
                  weight-cons found.0 (rows_without s.upper p ++ rows_without s.lower p),
                )

            raised_length : length (rows z) ≡ length (rows s)
            raised_length = lowered_length mp (cond (eqb mp 0) 0 me) u z l ∙ ap (λ (y : Seated K V S). length (rows y)) u_is ∙ sym (one_fewer ∙ omega arith)

            pub kept_raised : IsKept s mw me mp → IsKept z mw me mp
            kept_raised k = record { fits = (omega (arith, raised_weight, k.fits.0), omega (arith, raised_length, k.fits.1)); protected = lowered_upper mp (cond (eqb mp 0) 0 me) u z l }

            pub view_raised : Raises eq cache query (entry found.0.key value found.0.weight) (segmented_in z mw me mp)
            view_raised = (
              entries_in l.front,
              (
                entries_in (l.back ++ u.lower),
                (
                  record {
                    back = entries_in l.back;
                    leaves =
                        subst (λ es. Leaves mp (cond (eqb mp 0) 0 me) es (entries_in l.front) (entries_in l.back))
                        (ap (λ (y : Seated K V S). entries_in y.upper) u_is ∙ ap (λ es. entry found.0.key value found.0.weight ∷ es) upper_without)
                        (leaves_in mp (cond (eqb mp 0) 0 me) u.upper l.front l.back l.parts l.fits l.needed);
                    lower_is = map-append entry_in l.back u.lower ∙ ap (λ es. entries_in l.back ++ es) (ap (λ (y : Seated K V S). entries_in y.lower) u_is ∙ lower_without);
                  },
                  ap (λ (y : Seated K V S). segmented_in y mw me mp) l.left
                      ∙ ap (λ m. record { upper = entries_in l.front; lower = entries_in (l.back ++ u.lower); places = m; most_weight = mw; most_entries = me; most_protected = mp; hashes = u.hashes })
                      (omega (arith, raised_length, ap (λ (y : Seated K V S). length (rows y)) l.left, ap (λ (y : Seated K V S). y.free) u_is))
                      ∙ ap (λ h. record { upper = entries_in l.front; lower = entries_in (l.back ++ u.lower); places = length (rows s) + s.free; most_weight = mw; most_entries = me; most_protected = mp; hashes = h })
                      (ap (λ (y : Seated K V S). y.hashes) u_is),
                ),
              ),
            )

        -- the same value
        same_raised : t ≡ seated (placed found.0.place found.0.key found.0.value found.0.weight ∷ rows_without s.upper p) (rows_without s.lower p) s.free s.hashes
        same_raised = lifted_is

        module _ (z : Seated K V S) (l : Lowers mp (cond (eqb mp 0) 0 me) t z) where
          pub kept_used : IsKept s mw me mp → IsKept z mw me mp
          kept_used k = kept_raised found.0.value t same_raised z l k

          pub view_used : Uses eq cache query true (segmented_in z mw me mp)
          view_used = (entry_in found.0, (entry_is, view_raised found.0.value t same_raised z l))

        -- a closure leaves another value
        module _ {R : Type 0} (post : MutBor V → ℕ → R → MutBor V → Type 0) (answer : R) (u : Seated K V S) (updates : UpdatesAt post t p answer u) where
          found_first : updates.0 ≡ found.0
          found_first = some_of updates.0 found.0 (sym updates.1.0 ∙ ap (λ (y : Seated K V S). row_at (rows y) p) lifted_is ∙ row_first found.0 (rows_without s.upper p ++ rows_without s.lower p) p place)

          updated_is : u ≡ seated (placed found.0.place found.0.key updates.1.1.0 found.0.weight ∷ rows_without s.upper p) (rows_without s.lower p) s.free s.hashes
          updated_is =
              updates.1.1.1.1 ∙ ap (λ (y : Seated K V S). seated (with_value y.upper p updates.1.1.0) (with_value y.lower p updates.1.1.0) y.free y.hashes) lifted_is
              ∙ ap (λ us. seated us (with_value (rows_without s.lower p) p updates.1.1.0) s.free s.hashes)
              (with_value-first p updates.1.1.0 found.0 (rows_without s.upper p) place ∙ ap (λ us. placed found.0.place found.0.key updates.1.1.0 found.0.weight ∷ us) (with_value-without p updates.1.1.0 s.upper))
              ∙ ap (λ ls. seated (placed found.0.place found.0.key updates.1.1.0 found.0.weight ∷ rows_without s.upper p) ls s.free s.hashes) (with_value-without p updates.1.1.0 s.lower)

          -- the upper segment is as heavy as before
          pub unlowered_updated : IsKept s mw me mp → (weight_in t.upper ≡ weight_in s.upper) × (length t.upper ≡ length s.upper) → Lowers mp (cond (eqb mp 0) 0 me) u u
          unlowered_updated k same =
              let heavy : weight_in u.upper ≡ weight_in t.upper =
              ap (λ (y : Seated K V S). weight_in y.upper) updated_is
              ∙ weight-cons (placed found.0.place found.0.key updates.1.1.0 found.0.weight) (rows_without s.upper p)
              ∙ sym (ap (λ (y : Seated K V S). weight_in y.upper) lifted_is ∙ weight-cons found.0 (rows_without s.upper p)) in
              let long : length u.upper ≡ length t.upper = ap (λ (y : Seated K V S). length y.upper) updated_is ∙ sym (ap (λ (y : Seated K V S). length y.upper) lifted_is) in
              unlowered k u (heavy ∙ same.0, long ∙ same.1)

          module _ (z : Seated K V S) (l : Lowers mp (cond (eqb mp 0) 0 me) u z) where
            pub kept_updated : IsKept s mw me mp → IsKept z mw me mp
            kept_updated k = kept_raised updates.1.1.0 u updated_is z l k

            pub view_updated : UpdatesEntry eq post cache query (Some answer) (segmented_in z mw me mp)
            view_updated = (
              entry_in found.0,
              (
                entry_is,
                (updates.1.1.0, (subst (λ (y : Placed K V). Updates post y.value y.weight answer updates.1.1.0) found_first updates.1.1.1.0, view_raised updates.1.1.0 u updated_is z l)),
              ),
            )

      -- ---- it goes last in the lower segment
      module _ (t : Seated K V S) (t_is : t ≡ sunk s p) where
        sunk_row : t ≡ seated (rows_without s.upper p) (rows_without s.lower p ++ found.0 ∷ []) s.free s.hashes
        sunk_row = t_is ∙ ap (λ o. option_map_or (λ y. seated (rows_without s.upper p) (rows_without s.lower p ++ y ∷ []) s.free s.hashes) o s) found.2

        sunk_places : length (rows_without s.upper p ++ (rows_without s.lower p ++ found.0 ∷ [])) + s.free ≡ length (rows s) + s.free
        sunk_places =
            omega (
              arith,
              one_fewer,
              length-append (rows_without s.upper p) (rows_without s.lower p),
              length-append (rows_without s.upper p) (rows_without s.lower p ++ found.0 ∷ []),
              length-append (rows_without s.lower p) (found.0 ∷ []),
            )

        pub view_demoted : segmented_in t mw me mp ≡ demoted eq cache query
        view_demoted =
            ap (λ (y : Seated K V S). segmented_in y mw me mp) sunk_row
            ∙ ap (λ es. record { upper = es; lower = entries_in (rows_without s.lower p ++ found.0 ∷ []); places = length (rows_without s.upper p ++ (rows_without s.lower p ++ found.0 ∷ [])) + s.free; most_weight = mw; most_entries = me; most_protected = mp; hashes = s.hashes }) upper_without
            ∙ ap (λ es. record { upper = without eq (entries_in s.upper) query; lower = es; places = length (rows_without s.upper p ++ (rows_without s.lower p ++ found.0 ∷ [])) + s.free; most_weight = mw; most_entries = me; most_protected = mp; hashes = s.hashes })
            (map-append entry_in (rows_without s.lower p) (found.0 ∷ []) ∙ ap (λ es. es ++ entry_in found.0 ∷ []) lower_without)
            ∙ ap (λ m. record { upper = without eq (entries_in s.upper) query; lower = without eq (entries_in s.lower) query ++ entry_in found.0 ∷ []; places = m; most_weight = mw; most_entries = me; most_protected = mp; hashes = s.hashes })
            sunk_places
            ∙ sym (ap (λ o. option_map_or (λ e. with_segments cache (without eq cache.upper query) (without eq cache.lower query ++ e ∷ [])) o cache) entry_is)

        pub kept_demoted : IsKept s mw me mp → IsKept t mw me mp
        kept_demoted k = subst (λ y. IsKept y mw me mp) (sym sunk_row) (record {
          fits = (
            omega (
              arith,
              k.fits.0,
              weight-without p (rows s) found.0 found.2 (v.places p),
              ap weight_in (without-append s.upper s.lower p),
              weight-append (rows_without s.upper p) (rows_without s.lower p),
              weight-append (rows_without s.upper p) (rows_without s.lower p ++ found.0 ∷ []),
              weight-append (rows_without s.lower p) (found.0 ∷ []),
              weight-cons found.0 [],
            ),
            omega (arith, k.fits.1, sunk_places),
          );
          protected = (omega (arith, k.protected.0, weight_less s.upper p), omega (arith, k.protected.1, length_less s.upper p));
        })

        pub demoted_answer : true ≡ is_some (entry_of eq (entries cache) query)
        demoted_answer = sym (ap is_some entry_is)

      -- ---- it is taken out
      module _ (row : Taken K V) (out : option_map taken (row_at (rows s) p) ≡ Some row) (t : Seated K V S) (t_is : t ≡ seated (rows_without s.upper p) (rows_without s.lower p) (s.free + 1) s.hashes) where
        pub out_entry : Some (entry row.key row.value row.weight) ≡ entry_of eq (entries cache) query
        out_entry =
            ap (λ (y : Taken K V). Some (entry y.key y.value y.weight)) (some_of row (taken found.0) (sym out ∙ ap (option_map taken) found.2)) ∙ sym entry_is

        pub view_out : segmented_in t mw me mp ≡ removed eq cache query
        view_out =
            ap (λ (y : Seated K V S). segmented_in y mw me mp) t_is
            ∙ ap (λ es. record { upper = es; lower = entries_in (rows_without s.lower p); places = length (rows_without s.upper p ++ rows_without s.lower p) + (s.free + 1); most_weight = mw; most_entries = me; most_protected = mp; hashes = s.hashes }) upper_without
            ∙ ap (λ es. record { upper = without eq (entries_in s.upper) query; lower = es; places = length (rows_without s.upper p ++ rows_without s.lower p) + (s.free + 1); most_weight = mw; most_entries = me; most_protected = mp; hashes = s.hashes }) lower_without
            ∙ ap (λ m. record { upper = without eq (entries_in s.upper) query; lower = without eq (entries_in s.lower) query; places = m; most_weight = mw; most_entries = me; most_protected = mp; hashes = s.hashes })
            (omega (arith, one_fewer))

  -- a key without an entry is not moved
  pub undemoted : {Q : Type 0} (eq : K → Q → Bool) (query : Q) → entry_of eq (entries (segmented_in s mw me mp)) query ≡ None → segmented_in s mw me mp ≡ demoted eq (segmented_in s mw me mp) query
  undemoted eq query none = sym (ap (λ o. option_map_or (λ e. with_segments cache (without eq cache.upper query) (without eq cache.lower query ++ e ∷ [])) o cache) none)

  -- a row less leaves a cache within its limits
  pub kept_out : (p : ℕ) (t : Seated K V S) → t ≡ seated (rows_without s.upper p) (rows_without s.lower p) (s.free + 1) s.hashes → IsKept s mw me mp → IsKept t mw me mp
  kept_out p t t_is k = subst (λ y. IsKept y mw me mp) (sym t_is) (record {
    fits = (
      omega (arith, k.fits.0, weight-append s.upper s.lower, weight-append (rows_without s.upper p) (rows_without s.lower p), weight_less s.upper p, weight_less s.lower p),
      omega (arith, k.fits.1, length-append s.upper s.lower, length-append (rows_without s.upper p) (rows_without s.lower p), length_less s.upper p, length_less s.lower p),
    );
    protected = (omega (arith, k.protected.0, weight_less s.upper p), omega (arith, k.protected.1, length_less s.upper p));
  })

  -- ---- the last entry goes
  pub none_last : None ≡ option_map (λ (x : Placed K V). x.place) (last_row (rows s)) → PopsLast cache None cache
  none_last told =
      let none = nil_append s.upper s.lower (sym (none_told (rows s) told)) in
      (ap entries_in none.0, (ap entries_in none.1, refl))

  pub last_at : (p : ℕ) → Some p ≡ option_map (λ (x : Placed K V). x.place) (last_row (rows s)) → Once (rows s) → IsAt (rows s) p
  last_at p told once =
      let last = last_told (rows s) p told in
      let at = row_last last.1.1.0 last.0 (λ q. subst (λ rs. places q rs ≤ 1) last.1.1.1 (once q)) in
      ap is_some (ap (row_at (rows s)) (sym last.1.0) ∙ ap (λ rs. row_at rs last.0.place) last.1.1.1 ∙ at)

  -- it is shown
  pub last_missing : None ≡ option_map (λ (x : Placed K V). x.place) (last_row (rows s)) → entries cache ≡ []
  last_missing told = entries_are ∙ ap entries_in (none_told (rows s) told)

  pub last_shown : (p : ℕ) → Some p ≡ option_map (λ (x : Placed K V). x.place) (last_row (rows s)) → Once (rows s) → (key : K) (v : V) (w : ℕ) → option_map (λ (x : Placed K V). x.key) (row_at (rows s) p) ≡ Some key →
      option_map (λ (x : Placed K V). x.value) (row_at (rows s) p) ≡ Some v → option_map (λ (x : Placed K V). x.weight) (row_at (rows s) p) ≡ Some w → (front : List (Entry K V)) × (entries cache ≡ front ++ entry key v w ∷ [])
  last_shown p told once key v w key_is value_is weight_is =
      let last = last_told (rows s) p told in
      let x = last.0 in
      let front = last.1.1.0 in
      let at : row_at (rows s) p ≡ Some x =
      ap (row_at (rows s)) (sym last.1.0) ∙ ap (λ rs. row_at rs x.place) last.1.1.1 ∙ row_last front x (λ q. subst (λ rs. places q rs ≤ 1) last.1.1.1 (once q)) in
      let same : entry_in x ≡ entry key v w =
      ap (λ y. entry y x.value x.weight) (some_of x.key key (sym (ap (option_map (λ (y : Placed K V). y.key)) at) ∙ key_is))
      ∙ ap (λ y. entry key y x.weight) (some_of x.value v (sym (ap (option_map (λ (y : Placed K V). y.value)) at) ∙ value_is))
      ∙ ap (entry key v) (some_of x.weight w (sym (ap (option_map (λ (y : Placed K V). y.weight)) at) ∙ weight_is)) in
      (entries_in front, entries_are ∙ ap entries_in last.1.1.1 ∙ map-append entry_in front (x ∷ []) ∙ ap (λ e. entries_in front ++ e ∷ []) same)

  module _ (p : ℕ) (told : Some p ≡ option_map (λ (x : Placed K V). x.place) (last_row (rows s))) (once : Once (rows s)) (row : Taken K V) (out : option_map taken (row_at (rows s) p) ≡ Some row)
      (t : Seated K V S) (t_is : t ≡ seated (rows_without s.upper p) (rows_without s.lower p) (s.free + 1) s.hashes) where
    pop_by : (ls : List (Placed K V)) → s.lower ≡ ls → PopsLast cache (Some (entry row.key row.value row.weight)) (segmented_in t mw me mp)
    pop_by [] none = from s.upper refl
      where
        from : (us : List (Placed K V)) → s.upper ≡ us → PopsLast cache (Some (entry row.key row.value row.weight)) (segmented_in t mw me mp)
        from [] e = absurd (false≢true (sym (ap is_some (told ∙ ap (λ rs. option_map (λ (x : Placed K V). x.place) (last_row (rs ++ s.lower))) e ∙ ap (λ rs. option_map (λ (x : Placed K V). x.place) (last_row rs)) none))))
        from (u ∷ us) e =
            let l = has_last u us in
            let front = l.0 in
            let x = l.1.0 in
            let upper : s.upper ≡ front ++ x ∷ [] = e ∙ l.1.1 in
            let whole : rows s ≡ front ++ x ∷ [] = ap (λ zs. s.upper ++ zs) none ∙ append-nil s.upper ∙ upper in
            let here : x.place ≡ p = some_of x.place p (sym (told ∙ ap (λ rs. option_map (λ (y : Placed K V). y.place) (last_row rs)) whole ∙ ap (option_map (λ (y : Placed K V). y.place)) (last_pushed front x))) in
            let once' : Once (front ++ x ∷ []) = λ q. subst (λ rs. places q rs ≤ 1) whole (once q) in
            let found = ap (row_at (rows s)) (sym here) ∙ ap (λ rs. row_at rs x.place) whole ∙ row_last front x once' in
            let is : entry row.key row.value row.weight ≡ entry_in x = ap (λ (y : Taken K V). entry y.key y.value y.weight) (some_of row (taken x) (sym out ∙ ap (option_map taken) found)) in
            let gone : rows_without s.upper p ≡ front = ap (rows_without s.upper) (sym here) ∙ ap (λ rs. rows_without rs x.place) upper ∙ without_last front x once' in
            inr (
              entries_in front,
              (
                ap entries_in none,
                (
                  ap entries_in upper ∙ map-append entry_in front (x ∷ []) ∙ ap (λ y. entries_in front ++ y ∷ []) (sym is),
                  ap (λ (y : Seated K V S). segmented_in y mw me mp) t_is
                      ∙ ap (λ rs. segmented_in (seated rs (rows_without s.lower p) (s.free + 1) s.hashes) mw me mp) gone
                      ∙ ap (λ rs. segmented_in (seated front (rows_without rs p) (s.free + 1) s.hashes) mw me mp) none
                      ∙ ap (λ m. record { upper = entries_in front; lower = []; places = m; most_weight = mw; most_entries = me; most_protected = mp; hashes = s.hashes })
                      (omega (arith, ap length whole, length-append front (x ∷ []), ap length (append-nil front))),
                ),
              ),
            )
    pop_by (y ∷ ys) e =
        let l = has_last y ys in
        let front = l.0 in
        let x = l.1.0 in
        let lower : s.lower ≡ front ++ x ∷ [] = e ∙ l.1.1 in
        let whole : rows s ≡ (s.upper ++ front) ++ x ∷ [] = ap (λ zs. s.upper ++ zs) lower ∙ sym (append_assoc s.upper front (x ∷ [])) in
        let here : x.place ≡ p = some_of x.place p (sym (told ∙ ap (λ rs. option_map (λ (z : Placed K V). z.place) (last_row rs)) whole ∙ ap (option_map (λ (z : Placed K V). z.place)) (last_pushed (s.upper ++ front) x))) in
        let once' : Once ((s.upper ++ front) ++ x ∷ []) = λ q. subst (λ rs. places q rs ≤ 1) whole (once q) in
        let once'' : Once (front ++ x ∷ []) = λ q. omega (arith, once q, places-append q s.upper s.lower, ap (places q) lower) in
        let absent : places x.place s.upper ≡ 0 = omega (arith, once x.place, places-append x.place s.upper s.lower, ap (places x.place) lower, places-append x.place front (x ∷ []), places_here x [] x.place refl) in
        let found = ap (row_at (rows s)) (sym here) ∙ ap (λ rs. row_at rs x.place) whole ∙ row_last (s.upper ++ front) x once' in
        let is : entry row.key row.value row.weight ≡ entry_in x = ap (λ (z : Taken K V). entry z.key z.value z.weight) (some_of row (taken x) (sym out ∙ ap (option_map taken) found)) in
        let gone : rows_without s.lower p ≡ front = ap (rows_without s.lower) (sym here) ∙ ap (λ rs. rows_without rs x.place) lower ∙ without_last front x once'' in
        let same : rows_without s.upper p ≡ s.upper = ap (rows_without s.upper) (sym here) ∙ without_absent x.place s.upper absent in
        inl (
          entries_in front,
          (
            ap entries_in lower ∙ map-append entry_in front (x ∷ []) ∙ ap (λ z. entries_in front ++ z ∷ []) (sym is),
            ap (λ (z : Seated K V S). segmented_in z mw me mp) t_is
                ∙ ap (λ rs. segmented_in (seated rs (rows_without s.lower p) (s.free + 1) s.hashes) mw me mp) same
                ∙ ap (λ rs. segmented_in (seated s.upper rs (s.free + 1) s.hashes) mw me mp) gone
                ∙ ap (λ m. record { upper = entries_in s.upper; lower = entries_in front; places = m; most_weight = mw; most_entries = me; most_protected = mp; hashes = s.hashes })
                (omega (arith, ap length whole, length-append (s.upper ++ front) (x ∷ []))),
          ),
        )

    pub view_popped : PopsLast cache (Some (entry row.key row.value row.weight)) (segmented_in t mw me mp)
    view_popped = pop_by s.lower refl

  -- ---- the first entry goes
  pub none_first : None ≡ option_map (λ (x : Placed K V). x.place) (first_row (rows s)) → PopsFirst cache None cache
  none_first told =
      let none = nil_append s.upper s.lower (sym (no_row (rows s) told)) in
      (ap entries_in none.0, (ap entries_in none.1, refl))
    where
      no_row : (rs : List (Placed K V)) → None ≡ option_map (λ (x : Placed K V). x.place) (first_row rs) → rs ≡ []
      no_row [] none = refl
      no_row (r ∷ rs) none = absurd (false≢true (ap is_some none))

  pub first_at : (p : ℕ) → Some p ≡ option_map (λ (x : Placed K V). x.place) (first_row (rows s)) → IsAt (rows s) p
  first_at p told =
      let first = first_told (rows s) p told in
      ap is_some (ap (λ rs. row_at rs p) first.1.1.0 ∙ row_first first.0 first.1.0 p first.1.1.1)

  module _ (p : ℕ) (told : Some p ≡ option_map (λ (x : Placed K V). x.place) (first_row (rows s))) (once : Once (rows s)) (row : Taken K V) (out : option_map taken (row_at (rows s) p) ≡ Some row)
      (t : Seated K V S) (t_is : t ≡ seated (rows_without s.upper p) (rows_without s.lower p) (s.free + 1) s.hashes) where
    -- the row that is first
    first_row_is : (x : Placed K V) (xs : List (Placed K V)) → rows s ≡ x ∷ xs → (x.place ≡ p) × ((entry row.key row.value row.weight ≡ entry_in x) × (places p xs ≡ 0))
    first_row_is x xs whole =
        let here : x.place ≡ p = some_of x.place p (sym (told ∙ ap (λ rs. option_map (λ (y : Placed K V). y.place) (first_row rs)) whole)) in
        let found = ap (λ rs. row_at rs p) whole ∙ row_first x xs p here in (
          here,
          (
            ap (λ (y : Taken K V). entry y.key y.value y.weight) (some_of row (taken x) (sym out ∙ ap (option_map taken) found)),
            omega (arith, once p, ap (places p) whole, places_here x xs p here),
          ),
        )

    pop_first_by : (us : List (Placed K V)) → s.upper ≡ us → PopsFirst cache (Some (entry row.key row.value row.weight)) (segmented_in t mw me mp)
    pop_first_by (u ∷ us) e =
        let f = first_row_is u (us ++ s.lower) (ap (λ zs. zs ++ s.lower) e) in
        let gone : rows_without s.upper p ≡ us = ap (λ zs. rows_without zs p) e ∙ without_first u us p f.0 (omega (arith, places_here u us p f.0, f.1.1, places-append p us s.lower)) in
        let same : rows_without s.lower p ≡ s.lower = without_absent p s.lower (omega (arith, f.1.1, places-append p us s.lower)) in
        inl (
          entries_in us,
          (
            ap entries_in e ∙ ap (λ y. y ∷ entries_in us) (sym f.1.0),
            ap (λ (y : Seated K V S). segmented_in y mw me mp) t_is
                ∙ ap (λ rs. segmented_in (seated rs (rows_without s.lower p) (s.free + 1) s.hashes) mw me mp) gone
                ∙ ap (λ rs. segmented_in (seated us rs (s.free + 1) s.hashes) mw me mp) same
                ∙ ap (λ m. record { upper = entries_in us; lower = entries_in s.lower; places = m; most_weight = mw; most_entries = me; most_protected = mp; hashes = s.hashes })
                (omega (arith, length-append us s.lower, length-append s.upper s.lower, ap length e)),
          ),
        )
    pop_first_by [] none = from s.lower refl
      where
        from : (ls : List (Placed K V)) → s.lower ≡ ls → PopsFirst cache (Some (entry row.key row.value row.weight)) (segmented_in t mw me mp)
        from [] e = absurd (false≢true (sym (ap is_some (told ∙ ap (λ rs. option_map (λ (x : Placed K V). x.place) (first_row (rs ++ s.lower))) none ∙ ap (λ rs. option_map (λ (x : Placed K V). x.place) (first_row rs)) e))))
        from (l ∷ ls) e =
            let f = first_row_is l ls (ap (λ zs. zs ++ s.lower) none ∙ e) in
            let gone : rows_without s.lower p ≡ ls = ap (λ zs. rows_without zs p) e ∙ without_first l ls p f.0 (omega (arith, places_here l ls p f.0, f.1.1)) in
            inr (
              entries_in ls,
              (
                ap entries_in none,
                (
                  ap entries_in e ∙ ap (λ y. y ∷ entries_in ls) (sym f.1.0),
                  ap (λ (y : Seated K V S). segmented_in y mw me mp) t_is
                      ∙ ap (λ rs. segmented_in (seated (rows_without rs p) (rows_without s.lower p) (s.free + 1) s.hashes) mw me mp) none
                      ∙ ap (λ rs. segmented_in (seated [] rs (s.free + 1) s.hashes) mw me mp) gone
                      ∙ ap (λ m. record { upper = []; lower = entries_in ls; places = m; most_weight = mw; most_entries = me; most_protected = mp; hashes = s.hashes })
                      (omega (arith, length-append s.upper s.lower, ap length none, ap length e)),
                ),
              ),
            )

    pub view_popped_first : PopsFirst cache (Some (entry row.key row.value row.weight)) (segmented_in t mw me mp)
    view_popped_first = pop_first_by s.upper refl

  -- ---- an entry more
  module _ (k : IsKept s mw me mp) (key : K) (v : V) (w : ℕ) where
    -- in the lower segment
    module _ (light : weight_of (entries (segmented_in s mw me mp)) + w ≤ mw) (few : length (entries (segmented_in s mw me mp)) < me) where
      pub kept_entered : (p : ℕ) (t : Seated K V S) → t ≡ seated s.upper (placed p key v w ∷ s.lower) (s.free - 1) s.hashes → IsKept t mw me mp
      kept_entered p t t_is = subst (λ y. IsKept y mw me mp) (sym t_is) (record {
        fits = (
          omega (arith, light, heavy, weight-append s.upper s.lower, weight-append s.upper (placed p key v w ∷ s.lower), weight-cons (placed p key v w) s.lower),
          omega (arith, few, long, length-append s.upper s.lower, length-append s.upper (placed p key v w ∷ s.lower)),
        );
        protected = k.protected;
      })

      pub view_entered : (p : ℕ) (t : Seated K V S) → t ≡ seated s.upper (placed p key v w ∷ s.lower) (s.free - 1) s.hashes → segmented_in t mw me mp ≡ with_more cache (entries_in s.upper) (entry key v w ∷ entries_in s.lower)
      view_entered p t t_is =
          ap (λ (y : Seated K V S). segmented_in y mw me mp) t_is
          ∙ ap (λ m. record { upper = entries_in s.upper; lower = entry key v w ∷ entries_in s.lower; places = m; most_weight = mw; most_entries = me; most_protected = mp; hashes = s.hashes })
          (omega (arith, length-append s.upper s.lower, length-append s.upper (placed p key v w ∷ s.lower), length-entries s.upper, length-entries s.lower))

      -- in the upper one
      module _ (p : ℕ) (t : Seated K V S) (t_is : t ≡ seated (placed p key v w ∷ s.upper) s.lower (s.free - 1) s.hashes) (placed_in : length (entries (segmented_in s mw me mp)) < length (rows s) + s.free)
          (z : Seated K V S) (l : Lowers mp (cond (eqb mp 0) 0 me) t z) where
        rejoined_length : length (rows z) ≡ length (rows s) + 1
        rejoined_length = lowered_length mp (cond (eqb mp 0) 0 me) t z l ∙ ap (λ (y : Seated K V S). length (rows y)) t_is ∙ omega arith

        rejoined_weight : weight_in (rows z) ≡ w + weight_in (rows s)
        rejoined_weight = lowered_weight mp (cond (eqb mp 0) 0 me) t z l ∙ ap (λ (y : Seated K V S). weight_in (rows y)) t_is ∙ weight-cons (placed p key v w) (rows s)

        pub kept_rejoined : IsKept z mw me mp
        kept_rejoined = record {
          fits = (omega (arith, light, heavy, rejoined_weight), omega (arith, few, long, rejoined_length));
          protected = lowered_upper mp (cond (eqb mp 0) 0 me) t z l;
        }

        pub view_rejoined : Rejoins cache (entry key v w) (segmented_in z mw me mp)
        view_rejoined = (
          entries_in l.front,
          (
            entries_in (l.back ++ t.lower),
            (
              record {
                back = entries_in l.back;
                leaves =
                    subst (λ es. Leaves mp (cond (eqb mp 0) 0 me) es (entries_in l.front) (entries_in l.back))
                    (ap (λ (y : Seated K V S). entries_in y.upper) t_is)
                    (leaves_in mp (cond (eqb mp 0) 0 me) t.upper l.front l.back l.parts l.fits l.needed);
                lower_is = map-append entry_in l.back t.lower ∙ ap (λ es. entries_in l.back ++ es) (ap (λ (y : Seated K V S). entries_in y.lower) t_is);
              },
              ap (λ (y : Seated K V S). segmented_in y mw me mp) l.left
                  ∙ ap (λ m. record { upper = entries_in l.front; lower = entries_in (l.back ++ t.lower); places = m; most_weight = mw; most_entries = me; most_protected = mp; hashes = t.hashes })
                  (omega (arith, rejoined_length, ap (λ (y : Seated K V S). length (rows y)) l.left, ap (λ (y : Seated K V S). y.free) t_is, placed_in, long))
                  ∙ ap (λ h. record { upper = entries_in l.front; lower = entries_in (l.back ++ t.lower); places = length (rows s) + s.free; most_weight = mw; most_entries = me; most_protected = mp; hashes = h })
                  (ap (λ (y : Seated K V S). y.hashes) t_is),
            ),
          ),
        )

  -- ---- other limits
  module _ (w n p : ℕ) (z : Seated K V S) (l : Lowers p (cond (eqb p 0) 0 n) s z) where
    pub kept_limited : Fit w n (entries (segmented_in s mw me mp)) → IsKept z w n p
    kept_limited fit = record {
      fits = (omega (arith, fit.0, heavy, lowered_weight p (cond (eqb p 0) 0 n) s z l), omega (arith, fit.1, long, lowered_length p (cond (eqb p 0) 0 n) s z l));
      protected = lowered_upper p (cond (eqb p 0) 0 n) s z l;
    }

    pub view_limited : (us : List (Entry K V)) × ((ls : List (Entry K V)) × (Balances (with_limits cache w n p) (entries_in s.upper) (entries_in s.lower) us ls × (segmented_in z w n p ≡ with_segments (with_limits cache w n p) us ls)))
    view_limited = (
      entries_in l.front,
      (
        entries_in (l.back ++ s.lower),
        (
          record {
            back = entries_in l.back;
            leaves = leaves_in p (cond (eqb p 0) 0 n) s.upper l.front l.back l.parts l.fits l.needed;
            lower_is = map-append entry_in l.back s.lower;
          },
          ap (λ (y : Seated K V S). segmented_in y w n p) l.left
              ∙ ap (λ m. record { upper = entries_in l.front; lower = entries_in (l.back ++ s.lower); places = m; most_weight = w; most_entries = n; most_protected = p; hashes = s.hashes })
              (omega (arith, lowered_length p (cond (eqb p 0) 0 n) s z l, ap (λ (y : Seated K V S). length (rows y)) l.left)),
        ),
      ),
    )

  -- why there is no place
  pub lacks_place : (none : NoPlace) → RowsLackPlace (recency (rows s) s.free) none → LacksPlace cache (cause_of none)
  lacks_place NoMemory lacks = (omega (arith, long, lacks.0), omega (arith, long, lacks.1))
  lacks_place NoMore lacks = long ∙ lacks

  -- there is one
  pub has_place : (none : NoPlace) → RowsLackPlace (recency (rows s) s.free) none → length (entries cache) < length (rows s) + s.free → length (entries cache) < most_rows → ⊥
  has_place NoMemory lacks placed_in short = absurd (omega (arith, long, lacks.1, placed_in))
  has_place NoMore lacks placed_in short = absurd (omega (arith, long, lacks, short))
