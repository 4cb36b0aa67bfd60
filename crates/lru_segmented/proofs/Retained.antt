-- The rows that stay in their segments, by what a test answers.
use Rattle.std.proofs.Common.{◌≡◌, ℕ, ◌+◌, ◌-◌, ◌<◌, ◌≤◌, cond, List, [], ◌∷◌, ◌++◌, length, map, Some, None, refl, sym, ap, ◌∙◌, subst, inl, inr, arith, true, false, append_assoc, append-nil}
use Rattle.std.specs.Prelude.{Bool, Option, ◌⊎◌, is_some, filter, reverse, min}
use Rattle.std.specs.Option.{option_map}
use Rattle.std.specs.Borrow.{Bor}
use Rattle.std.specs.List.{FoldsTo}
use Rattle.std.proofs.lemmas.List.{length-append, length-map, map-append, reverse-append}
use Rattle.std.proofs.lemmas.List.Elements.{filter-append}
use Rattle.lru_rows.specs.declared.rows.Taken.{Taken}
use Rattle.lru_rows.specs.Rows.{Placed, row_at, last_row, IsAt, IsRecency, taken, without as rows_without}
use Rattle.lru_pairs.specs.Beside.{row_after, row_before}
use Rattle.lru_owned_cache.specs.declared.entry.Entry.{Entry}
use Rattle.lru_owned_cache.specs.Entries.{entry, Asks, gone_of, kept_of, entry_in, entries_in, weight_in, weight_of}
use Rattle.lru_owned_cache.proofs.Lists.{shown_before}
use Rattle.lru_owned_cache.proofs.Rows.{some_of, by_bool, places, places_here, places-append, row_first, last_told, none_told, without_absent, by_place, length-entries, weight-entries, weight-append as rows_weight}
use Rattle.lru_segmented.specs.Segmented.{Segmented, entries, with_segments}
use Rattle.lru_segmented.specs.Seats.{Seated, seated, rows}
use Rattle.lru_segmented.specs.Representation.{segmented_in, IsKept}
use Rattle.lru_segmented.specs.Retained.{Retains, RetainsLast, RetainsLastRows, Asking}
use Rattle.lru_segmented.proofs.Lists.{nil_cons, weight-append, weight-cons}
use Rattle.lru_segmented.proofs.Sides.{Once, at_right, before_split, after_split, has_last, last_pushed, once_without, without-append}
use Rattle.lru_segmented.proofs.Caches.{long}

map_nil : {A B : Type 0} (f : A → B) (xs : List A) → map f xs ≡ [] → xs ≡ []
map_nil f [] is = refl
map_nil f (x ∷ xs) is = absurd (nil_cons (f x) (map f xs) (sym is))

module _ {K V : Type 0} where
  -- ---- a row between others, whose place no other has
  module _ (xs : List (Placed K V)) (x : Placed K V) (ys : List (Placed K V)) (once : Once (xs ++ x ∷ ys)) where
    none_before : places x.place xs ≡ 0
    none_before = omega (arith, once x.place, places-append x.place xs (x ∷ ys), places_here x ys x.place refl)

    none_behind : places x.place ys ≡ 0
    none_behind = omega (arith, once x.place, places-append x.place xs (x ∷ ys), places_here x ys x.place refl)

    at_here : row_at (xs ++ x ∷ ys) x.place ≡ Some x
    at_here = at_right xs (x ∷ ys) x.place none_before ∙ row_first x ys x.place refl

    without_here : rows_without (xs ++ x ∷ ys) x.place ≡ xs ++ ys
    without_here =
        without-append xs (x ∷ ys) x.place ∙ ap (λ zs. zs ++ rows_without (x ∷ ys) x.place) (without_absent x.place xs none_before)
        ∙ ap (λ zs. xs ++ zs) (by_place x.place x ys (λ zs. zs ≡ ys) (λ _. without_absent x.place ys none_behind) (λ ne. absurd (ne refl)))

    before_here : row_before (xs ++ x ∷ ys) x.place ≡ last_row xs
    before_here = from xs refl
      where
        from : (zs : List (Placed K V)) → xs ≡ zs → row_before (xs ++ x ∷ ys) x.place ≡ last_row xs
        from [] is =
            ap (λ zs. row_before (zs ++ x ∷ ys) x.place) is
            ∙ ap (λ zs. row_after zs x.place) (reverse-append (x ∷ []) ys)
            ∙ after_split (reverse ys) x [] x.place refl (places_reverse ys x.place ∙ none_behind)
            ∙ sym (ap last_row is)
          where
            places_reverse : (rs : List (Placed K V)) (p : ℕ) → places p (reverse rs) ≡ places p rs
            places_reverse [] p = refl
            places_reverse (r ∷ rs) p =
                omega (
                  arith,
                  ap (places p) (reverse-append (r ∷ []) rs),
                  places-append p (reverse rs) (r ∷ []),
                  places_reverse rs p,
                  places-append p (r ∷ []) rs,
                )
        from (z ∷ zs) is =
            let end = has_last z zs in
            let parts : xs ≡ end.0 ++ end.1.0 ∷ [] = is ∙ end.1.1 in
            ap (λ rs. row_before (rs ++ x ∷ ys) x.place) parts ∙ before_split end.0 end.1.0 x ys x.place refl none_behind
            ∙ sym (ap last_row parts ∙ last_pushed end.0 end.1.0)

  -- ---- what was asked
  kept-append : (xs ys : List (Entry K V × Bool)) → kept_of (xs ++ ys) ≡ kept_of xs ++ kept_of ys
  kept-append xs ys = ap (map (λ (a : Entry K V × Bool). a.0)) (filter-append (λ (a : Entry K V × Bool). a.1) xs ys) ∙ map-append (λ (a : Entry K V × Bool). a.0) (filter (λ a. a.1) xs) (filter (λ a. a.1) ys)

  -- what stays is no heavier and no longer
  kept_light : (asked : List (Entry K V × Bool)) → weight_of (kept_of asked) ≤ weight_of (map (λ a. a.0) asked)
  kept_light [] = omega arith
  kept_light (a ∷ rest) =
      by_bool a.1
      (λ is. omega (
        arith,
        kept_light rest,
        ap (λ b. weight_of (map (λ (x : Entry K V × Bool). x.0) (cond b (a ∷ filter (λ (x : Entry K V × Bool). x.1) rest) (filter (λ (x : Entry K V × Bool). x.1) rest)))) is,
        weight-cons a.0 (kept_of rest),
        weight-cons a.0 (map (λ (x : Entry K V × Bool). x.0) rest),
      ))
      (λ is. omega (
        arith,
        kept_light rest,
        ap (λ b. weight_of (map (λ (x : Entry K V × Bool). x.0) (cond b (a ∷ filter (λ (x : Entry K V × Bool). x.1) rest) (filter (λ (x : Entry K V × Bool). x.1) rest)))) is,
        weight-cons a.0 (map (λ (x : Entry K V × Bool). x.0) rest),
      ))

  kept_few : (asked : List (Entry K V × Bool)) → length (kept_of asked) ≤ length (map (λ a. a.0) asked)
  kept_few [] = omega arith
  kept_few (a ∷ rest) =
      by_bool a.1
      (λ is. omega (arith, kept_few rest, ap (λ b. length (map (λ (x : Entry K V × Bool). x.0) (cond b (a ∷ filter (λ (x : Entry K V × Bool). x.1) rest) (filter (λ (x : Entry K V × Bool). x.1) rest)))) is))
      (λ is. omega (arith, kept_few rest, ap (λ b. length (map (λ (x : Entry K V × Bool). x.0) (cond b (a ∷ filter (λ (x : Entry K V × Bool). x.1) rest) (filter (λ (x : Entry K V × Bool). x.1) rest)))) is))

pub none_asked : {K V F G S : Type 0} (step : F → Bor K → Bor V → ℕ → Bool → F → Type 0) (keep : F) (Step : G → Entry K V → G → Type 0) (visit : G) (most : ℕ) (old : Seated K V S) (eq : K → K → Bool)
    (next : Option ℕ) (left : ℕ) → next ≡ option_map (λ (r : Placed K V). r.place) (last_row (rows old)) → IsRecency eq (rows old) → left ≡ min most (length (rows old)) → Asking step keep keep Step visit visit most old old next left
none_asked step keep Step visit most old eq next left next_is valid left_is = record {
  upper_rest = old.upper;
  lower_rest = old.lower;
  upper_kept = [];
  lower_kept = [];
  upper_asked = [];
  lower_asked = [];
  upper_now = sym (append-nil old.upper);
  lower_now = sym (append-nil old.lower);
  upper_parts = sym (append-nil (entries_in old.upper));
  lower_parts = sym (append-nil (entries_in old.lower));
  upper_are = refl;
  lower_are = refl;
  lower_first = inl refl;
  next_is = next_is;
  left_is = omega (arith, left_is);
  called = refl;
  shown = refl;
  once = valid.places;
  free_is = refl;
  hashes_are = refl;
}

module _ {K V F G S : Type 0} {step : F → Bor K → Bor V → ℕ → Bool → F → Type 0} {keep : F} {Step : G → Entry K V → G → Type 0} {visit : G} {most : ℕ} {old : Seated K V S} where
  module _ {last : F} {seen : G} {now : Seated K V S} {next : Option ℕ} {left : ℕ} (s : Asking step keep last Step visit seen most old now next left) where
    old_long : length (rows old) ≡ length s.upper_rest + length s.lower_rest + length s.upper_asked + length s.lower_asked
    old_long =
        omega (
          arith,
          length-append old.upper old.lower,
          length-entries old.upper,
          length-entries old.lower,
          ap length s.upper_parts,
          ap length s.lower_parts,
          length-append (entries_in s.upper_rest) (map (λ (a : Entry K V × Bool). a.0) s.upper_asked),
          length-append (entries_in s.lower_rest) (map (λ (a : Entry K V × Bool). a.0) s.lower_asked),
          length-entries s.upper_rest,
          length-entries s.lower_rest,
          length-map s.upper_asked (λ (a : Entry K V × Bool). a.0),
          length-map s.lower_asked (λ (a : Entry K V × Bool). a.0),
        )

    -- while some are to be asked of, there is a next
    pub not_untold : 0 < left → next ≡ None → ⊥
    not_untold more none = absurd (omega (
      arith,
      more,
      s.left_is,
      old_long,
      ap length (none_told (s.upper_rest ++ s.lower_rest) (sym none ∙ s.next_is)),
      length-append s.upper_rest s.lower_rest,
    ))

    -- the row that is asked of: the last of the lower segment's that are left, or of the upper one's where there are none
    pub record Asked (p : ℕ) : Type 0 where
      pub row : Placed K V
      pub place_is : row.place ≡ p
      pub before : List (Placed K V)
      pub behind : List (Placed K V)
      pub now_is : rows now ≡ before ++ row ∷ behind
      pub upper_others : List (Placed K V)
      pub lower_others : List (Placed K V)
      pub before_is : before ≡ upper_others ++ lower_others
      pub stands :
          ((s.lower_rest ≡ lower_others ++ row ∷ []) × ((s.upper_rest ≡ upper_others) × (s.upper_asked ≡ [])))
          ⊎ ((s.lower_rest ≡ []) × ((lower_others ≡ []) × (s.upper_rest ≡ upper_others ++ row ∷ [])))

    nothing_kept : s.upper_asked ≡ [] → s.upper_kept ≡ []
    nothing_kept none = map_nil entry_in s.upper_kept (s.upper_are ∙ ap kept_of none)

    pub asked_row : (p : ℕ) → next ≡ Some p → Asked p
    asked_row p told = from s.lower_rest refl
      where
        whole : (x : Placed K V) × ((x.place ≡ p) × ((front : List (Placed K V)) × (s.upper_rest ++ s.lower_rest ≡ front ++ x ∷ [])))
        whole = last_told (s.upper_rest ++ s.lower_rest) p (sym told ∙ s.next_is)

        last_place : (front : List (Placed K V)) (x : Placed K V) → s.upper_rest ++ s.lower_rest ≡ front ++ x ∷ [] → x.place ≡ p
        last_place front x is =
            some_of x.place p (sym (sym told ∙ s.next_is ∙ ap (λ rs. option_map (λ (r : Placed K V). r.place) (last_row rs)) is ∙ ap (option_map (λ (r : Placed K V). r.place)) (last_pushed front x)))

        from : (ls : List (Placed K V)) → s.lower_rest ≡ ls → Asked p
        from (l ∷ ls) is =
            let end = has_last l ls in
            let lower : s.lower_rest ≡ end.0 ++ end.1.0 ∷ [] = is ∙ end.1.1 in
            let none : s.upper_asked ≡ [] = elim s.lower_first [ inl none ↦ none | inr none ↦ absurd (nil_cons l ls (sym none ∙ is)) ] in
            record {
              row = end.1.0;
              place_is = last_place (s.upper_rest ++ end.0) end.1.0 (ap (λ rs. s.upper_rest ++ rs) lower ∙ sym (append_assoc s.upper_rest end.0 (end.1.0 ∷ [])));
              before = s.upper_rest ++ end.0;
              behind = s.lower_kept;
              now_is =
                  ap (λ rs. rs ++ now.lower) (s.upper_now ∙ ap (λ rs. s.upper_rest ++ rs) (nothing_kept none) ∙ append-nil s.upper_rest)
                  ∙ ap (λ rs. s.upper_rest ++ rs) (s.lower_now ∙ ap (λ rs. rs ++ s.lower_kept) lower ∙ append_assoc end.0 (end.1.0 ∷ []) s.lower_kept)
                  ∙ sym (append_assoc s.upper_rest end.0 (end.1.0 ∷ s.lower_kept));
              upper_others = s.upper_rest;
              lower_others = end.0;
              before_is = refl;
              stands = inl (lower, (refl, none));
            }
        from [] none =
            let alone : s.upper_rest ≡ whole.1.1.0 ++ whole.0 ∷ [] = sym (append-nil s.upper_rest) ∙ ap (λ rs. s.upper_rest ++ rs) (sym none) ∙ whole.1.1.1 in
            record {
              row = whole.0;
              place_is = whole.1.0;
              before = whole.1.1.0;
              behind = s.upper_kept ++ now.lower;
              now_is =
                  ap (λ rs. rs ++ now.lower) (s.upper_now ∙ ap (λ rs. rs ++ s.upper_kept) alone ∙ append_assoc whole.1.1.0 (whole.0 ∷ []) s.upper_kept)
                  ∙ append_assoc whole.1.1.0 (whole.0 ∷ s.upper_kept) now.lower;
              upper_others = whole.1.1.0;
              lower_others = [];
              before_is = sym (append-nil whole.1.1.0);
              stands = inr (none, (refl, alone));
            }

    module _ {p : ℕ} (a : Asked p) where
      once_parts : Once (a.before ++ a.row ∷ a.behind)
      once_parts = subst Once a.now_is s.once

      at : row_at (rows now) p ≡ Some a.row
      at = ap (row_at (rows now)) (sym a.place_is) ∙ ap (λ rs. row_at rs a.row.place) a.now_is ∙ at_here a.before a.row a.behind once_parts

      pub row_stands : IsAt (rows now) p
      row_stands = ap is_some at

      -- which row is the next
      then_next : (o : Option ℕ) → o ≡ option_map (λ (r : Placed K V). r.place) (row_before (rows now) p) → o ≡ option_map (λ (r : Placed K V). r.place) (last_row (a.upper_others ++ a.lower_others))
      then_next o is =
          is
          ∙ ap (option_map (λ (r : Placed K V). r.place))
          (ap (row_before (rows now)) (sym a.place_is) ∙ ap (λ rs. row_before rs a.row.place) a.now_is ∙ before_here a.before a.row a.behind once_parts ∙ ap last_row a.before_is)

      -- what the test was given is the entry
      pub asks : (k : Bor K) (v : Bor V) (w : ℕ) → option_map (λ (x : Placed K V). x.key) (row_at (rows now) p) ≡ Some k.now → option_map (λ (x : Placed K V). x.value) (row_at (rows now) p) ≡ Some v.now →
          option_map (λ (x : Placed K V). x.weight) (row_at (rows now) p) ≡ Some w → (answer : Bool) (after : F) → step last k v w answer after → Asks step last (entry_in a.row) answer after
      asks k v w key_is value_is weight_is answer after called = record {
        key = k;
        value = v;
        shows_key = sym (some_of a.row.key k.now (sym (ap (option_map (λ (x : Placed K V). x.key)) at) ∙ key_is));
        shows_value = sym (some_of a.row.value v.now (sym (ap (option_map (λ (x : Placed K V). x.value)) at) ∙ value_is));
        called = subst (λ n. step last k v n answer after) (sym (some_of a.row.weight w (sym (ap (option_map (λ (x : Placed K V). x.weight)) at) ∙ weight_is))) called;
      }

      -- what was asked, with this one
      more_called : (answer : Bool) (after : F) → Asks step last (entry_in a.row) answer after → FoldsTo (λ p x q. Asks step p x.0 x.1 q) keep (reverse ((entry_in a.row, answer) ∷ s.upper_asked ++ s.lower_asked)) after
      more_called answer after asked = shown_before (λ p x q. Asks step p x.0 x.1 q) keep last (s.upper_asked ++ s.lower_asked) (entry_in a.row, answer) after (entry_in a.row, answer) refl asked s.called

      -- the entries that were not asked of yet, with one less
      parts_less : (all : List (Entry K V)) (rest others : List (Placed K V)) (asked : List (Entry K V × Bool)) (answer : Bool) → all ≡ entries_in rest ++ map (λ (x : Entry K V × Bool). x.0) asked → rest ≡ others ++ a.row ∷ [] →
          all ≡ entries_in others ++ map (λ (x : Entry K V × Bool). x.0) ((entry_in a.row, answer) ∷ asked)
      parts_less all rest others asked answer parts is =
          parts ∙ ap (λ rs. entries_in rs ++ map (λ (x : Entry K V × Bool). x.0) asked) is
          ∙ ap (λ es. es ++ map (λ (x : Entry K V × Bool). x.0) asked) (map-append entry_in others (a.row ∷ []))
          ∙ append_assoc (entries_in others) (entry_in a.row ∷ []) (map (λ (x : Entry K V × Bool). x.0) asked)

      -- a row that stays
      module _ (more : 0 < left) (later : Option ℕ) (then_is : later ≡ option_map (λ (r : Placed K V). r.place) (row_before (rows now) p)) (after : F) (asked : Asks step last (entry_in a.row) true after) where
        kept_lower : s.lower_rest ≡ a.lower_others ++ a.row ∷ [] → s.upper_rest ≡ a.upper_others → s.upper_asked ≡ [] → Asking step keep after Step visit seen most old now later (left - 1)
        kept_lower lower upper none = record {
          upper_rest = a.upper_others;
          lower_rest = a.lower_others;
          upper_kept = s.upper_kept;
          lower_kept = a.row ∷ s.lower_kept;
          upper_asked = [];
          lower_asked = (entry_in a.row, true) ∷ s.lower_asked;
          upper_now = s.upper_now ∙ ap (λ rs. rs ++ s.upper_kept) upper;
          lower_now = s.lower_now ∙ ap (λ rs. rs ++ s.lower_kept) lower ∙ append_assoc a.lower_others (a.row ∷ []) s.lower_kept;
          upper_parts = s.upper_parts ∙ ap (λ rs. entries_in rs ++ map (λ (x : Entry K V × Bool). x.0) s.upper_asked) upper ∙ ap (λ es. entries_in a.upper_others ++ map (λ (x : Entry K V × Bool). x.0) es) none;
          lower_parts = parts_less (entries_in old.lower) s.lower_rest a.lower_others s.lower_asked true s.lower_parts lower;
          upper_are = s.upper_are ∙ ap kept_of none;
          lower_are = ap (λ es. entry_in a.row ∷ es) s.lower_are;
          lower_first = inl refl;
          next_is = then_next later then_is;
          left_is = omega (arith, more, s.left_is, ap length none);
          called = subst (λ es. FoldsTo (λ p x q. Asks step p x.0 x.1 q) keep (reverse ((entry_in a.row, true) ∷ es ++ s.lower_asked)) after) none (more_called true after asked);
          shown = subst (λ es. FoldsTo Step visit (reverse (gone_of (es ++ s.lower_asked))) seen) none s.shown;
          once = s.once;
          free_is = s.free_is;
          hashes_are = s.hashes_are;
        }

        kept_upper : s.lower_rest ≡ [] → a.lower_others ≡ [] → s.upper_rest ≡ a.upper_others ++ a.row ∷ [] → Asking step keep after Step visit seen most old now later (left - 1)
        kept_upper none others upper = record {
          upper_rest = a.upper_others;
          lower_rest = a.lower_others;
          upper_kept = a.row ∷ s.upper_kept;
          lower_kept = s.lower_kept;
          upper_asked = (entry_in a.row, true) ∷ s.upper_asked;
          lower_asked = s.lower_asked;
          upper_now = s.upper_now ∙ ap (λ rs. rs ++ s.upper_kept) upper ∙ append_assoc a.upper_others (a.row ∷ []) s.upper_kept;
          lower_now = s.lower_now ∙ ap (λ rs. rs ++ s.lower_kept) (none ∙ sym others);
          upper_parts = parts_less (entries_in old.upper) s.upper_rest a.upper_others s.upper_asked true s.upper_parts upper;
          lower_parts = s.lower_parts ∙ ap (λ rs. entries_in rs ++ map (λ (x : Entry K V × Bool). x.0) s.lower_asked) (none ∙ sym others);
          upper_are = ap (λ es. entry_in a.row ∷ es) s.upper_are;
          lower_are = s.lower_are;
          lower_first = inr others;
          next_is = then_next later then_is;
          left_is = omega (arith, more, s.left_is);
          called = more_called true after asked;
          shown = s.shown;
          once = s.once;
          free_is = s.free_is;
          hashes_are = s.hashes_are;
        }

        pub one_kept : Asking step keep after Step visit seen most old now later (left - 1)
        one_kept =
            elim a.stands [
              | inl (lower, (upper, none)) ↦ kept_lower lower upper none
              | inr (none, (others, upper)) ↦ kept_upper none others upper
            ]

      -- a row that goes
      module _ (more : 0 < left) (later : Option ℕ) (then_is : later ≡ option_map (λ (r : Placed K V). r.place) (row_before (rows now) p)) (after : F) (asked : Asks step last (entry_in a.row) false after)
          (t : Taken K V) (out : option_map taken (row_at (rows now) p) ≡ Some t) (new : Seated K V S) (new_is : new ≡ seated (rows_without now.upper p) (rows_without now.lower p) (now.free + 1) now.hashes)
          (sight : G) (visited : Step seen (entry t.key t.value t.weight) sight) where
        gone_is : entry t.key t.value t.weight ≡ entry_in a.row
        gone_is = ap (λ (x : Taken K V). entry x.key x.value x.weight) (some_of t (taken a.row) (sym out ∙ ap (option_map taken) at))

        more_shown : FoldsTo Step visit (reverse (entry_in a.row ∷ gone_of (s.upper_asked ++ s.lower_asked))) sight
        more_shown = shown_before Step visit seen (gone_of (s.upper_asked ++ s.lower_asked)) (entry_in a.row) sight (entry t.key t.value t.weight) gone_is visited s.shown

        -- the rows later
        upper_is : new.upper ≡ rows_without now.upper p
        upper_is = ap (λ (x : Seated K V S). x.upper) new_is

        lower_is : new.lower ≡ rows_without now.lower p
        lower_is = ap (λ (x : Seated K V S). x.lower) new_is

        rows_are : rows new ≡ a.before ++ a.behind
        rows_are =
            ap (λ (x : Seated K V S). rows x) new_is ∙ sym (without-append now.upper now.lower p)
            ∙ ap (rows_without (rows now)) (sym a.place_is) ∙ ap (λ rs. rows_without rs a.row.place) a.now_is ∙ without_here a.before a.row a.behind once_parts

        once_then : Once (rows new)
        once_then = subst Once (without-append now.upper now.lower p ∙ sym (ap (λ (x : Seated K V S). rows x) new_is)) (once_without (rows now) p s.once)

        free_later : length (rows new) + new.free ≡ length (rows old) + old.free
        free_later =
            omega (
              arith,
              s.free_is,
              ap length a.now_is,
              length-append a.before (a.row ∷ a.behind),
              ap length rows_are,
              length-append a.before a.behind,
              ap (λ (x : Seated K V S). x.free) new_is,
            )

        once_upper : Once now.upper
        once_upper q = omega (arith, s.once q, places-append q now.upper now.lower)

        once_lower : Once now.lower
        once_lower q = omega (arith, s.once q, places-append q now.upper now.lower)

        -- it was one of this segment, and of no other
        out_of : (all rest others kept : List (Placed K V)) → Once all → all ≡ rest ++ kept → rest ≡ others ++ a.row ∷ [] → (rows_without all p ≡ others ++ kept) × (1 ≤ places p all)
        out_of all rest others kept once is parts =
            let whole : all ≡ others ++ a.row ∷ kept = is ∙ ap (λ rs. rs ++ kept) parts ∙ append_assoc others (a.row ∷ []) kept in (
              ap (rows_without all) (sym a.place_is) ∙ ap (λ rs. rows_without rs a.row.place) whole ∙ without_here others a.row kept (subst Once whole once),
              omega (arith, ap (places p) whole, places-append p others (a.row ∷ kept), places_here a.row kept p a.place_is),
            )

        gone_lower : s.lower_rest ≡ a.lower_others ++ a.row ∷ [] → s.upper_rest ≡ a.upper_others → s.upper_asked ≡ [] → Asking step keep after Step visit sight most old new later (left - 1)
        gone_lower lower upper none =
            let out_lower = out_of now.lower s.lower_rest a.lower_others s.lower_kept once_lower s.lower_now lower in
            let absent : places p now.upper ≡ 0 = omega (arith, s.once p, places-append p now.upper now.lower, out_lower.1) in
            record {
              upper_rest = a.upper_others;
              lower_rest = a.lower_others;
              upper_kept = s.upper_kept;
              lower_kept = s.lower_kept;
              upper_asked = [];
              lower_asked = (entry_in a.row, false) ∷ s.lower_asked;
              upper_now = upper_is ∙ without_absent p now.upper absent ∙ s.upper_now ∙ ap (λ rs. rs ++ s.upper_kept) upper;
              lower_now = lower_is ∙ out_lower.0;
              upper_parts = s.upper_parts ∙ ap (λ rs. entries_in rs ++ map (λ (x : Entry K V × Bool). x.0) s.upper_asked) upper ∙ ap (λ es. entries_in a.upper_others ++ map (λ (x : Entry K V × Bool). x.0) es) none;
              lower_parts = parts_less (entries_in old.lower) s.lower_rest a.lower_others s.lower_asked false s.lower_parts lower;
              upper_are = s.upper_are ∙ ap kept_of none;
              lower_are = s.lower_are;
              lower_first = inl refl;
              next_is = then_next later then_is;
              left_is = omega (arith, more, s.left_is, ap length none);
              called = subst (λ es. FoldsTo (λ p x q. Asks step p x.0 x.1 q) keep (reverse ((entry_in a.row, false) ∷ es ++ s.lower_asked)) after) none (more_called false after asked);
              shown = subst (λ es. FoldsTo Step visit (reverse (entry_in a.row ∷ gone_of (es ++ s.lower_asked))) sight) none more_shown;
              once = once_then;
              free_is = free_later;
              hashes_are = ap (λ (x : Seated K V S). x.hashes) new_is ∙ s.hashes_are;
            }

        gone_upper : s.lower_rest ≡ [] → a.lower_others ≡ [] → s.upper_rest ≡ a.upper_others ++ a.row ∷ [] → Asking step keep after Step visit sight most old new later (left - 1)
        gone_upper none others upper =
            let out_upper = out_of now.upper s.upper_rest a.upper_others s.upper_kept once_upper s.upper_now upper in
            let absent : places p now.lower ≡ 0 = omega (arith, s.once p, places-append p now.upper now.lower, out_upper.1) in
            record {
              upper_rest = a.upper_others;
              lower_rest = a.lower_others;
              upper_kept = s.upper_kept;
              lower_kept = s.lower_kept;
              upper_asked = (entry_in a.row, false) ∷ s.upper_asked;
              lower_asked = s.lower_asked;
              upper_now = upper_is ∙ out_upper.0;
              lower_now = lower_is ∙ without_absent p now.lower absent ∙ s.lower_now ∙ ap (λ rs. rs ++ s.lower_kept) (none ∙ sym others);
              upper_parts = parts_less (entries_in old.upper) s.upper_rest a.upper_others s.upper_asked false s.upper_parts upper;
              lower_parts = s.lower_parts ∙ ap (λ rs. entries_in rs ++ map (λ (x : Entry K V × Bool). x.0) s.lower_asked) (none ∙ sym others);
              upper_are = s.upper_are;
              lower_are = s.lower_are;
              lower_first = inr others;
              next_is = then_next later then_is;
              left_is = omega (arith, more, s.left_is);
              called = more_called false after asked;
              shown = more_shown;
              once = once_then;
              free_is = free_later;
              hashes_are = ap (λ (x : Seated K V S). x.hashes) new_is ∙ s.hashes_are;
            }

        pub one_gone : Asking step keep after Step visit sight most old new later (left - 1)
        one_gone =
            elim a.stands [
              | inl (lower, (upper, none)) ↦ gone_lower lower upper none
              | inr (none, (others, upper)) ↦ gone_upper none others upper
            ]

    pub all_asked : left ≡ 0 → RetainsLastRows step keep Step visit most old now
    all_asked over = record {
      upper_front = entries_in s.upper_rest;
      lower_front = entries_in s.lower_rest;
      upper_asked = s.upper_asked;
      lower_asked = s.lower_asked;
      left = last;
      upper_parts = s.upper_parts;
      lower_parts = s.lower_parts;
      lower_first = elim s.lower_first [ inl none ↦ inl none | inr none ↦ inr (ap entries_in none) ];
      many = omega (arith, over, s.left_is, length-append s.upper_asked s.lower_asked);
      called = s.called;
      shown = (seen, s.shown);
      upper_kept = ap entries_in s.upper_now ∙ map-append entry_in s.upper_rest s.upper_kept ∙ ap (λ es. entries_in s.upper_rest ++ es) s.upper_are;
      lower_kept = ap entries_in s.lower_now ∙ map-append entry_in s.lower_rest s.lower_kept ∙ ap (λ es. entries_in s.lower_rest ++ es) s.lower_are;
      free_is = s.free_is;
      hashes_are = s.hashes_are;
    }

  -- ---- what the cache is later
  module _ {new : Seated K V S} (s : RetainsLastRows step keep Step visit most old new) where
    upper_light : weight_in new.upper ≤ weight_in old.upper
    upper_light =
        omega (
          arith,
          weight-entries new.upper,
          weight-entries old.upper,
          ap weight_of s.upper_kept,
          ap weight_of s.upper_parts,
          weight-append s.upper_front (kept_of s.upper_asked),
          weight-append s.upper_front (map (λ (a : Entry K V × Bool). a.0) s.upper_asked),
          kept_light s.upper_asked,
        )

    upper_few : length new.upper ≤ length old.upper
    upper_few =
        omega (
          arith,
          length-entries new.upper,
          length-entries old.upper,
          ap length s.upper_kept,
          ap length s.upper_parts,
          length-append s.upper_front (kept_of s.upper_asked),
          length-append s.upper_front (map (λ (a : Entry K V × Bool). a.0) s.upper_asked),
          kept_few s.upper_asked,
        )

    lower_light : weight_in new.lower ≤ weight_in old.lower
    lower_light =
        omega (
          arith,
          weight-entries new.lower,
          weight-entries old.lower,
          ap weight_of s.lower_kept,
          ap weight_of s.lower_parts,
          weight-append s.lower_front (kept_of s.lower_asked),
          weight-append s.lower_front (map (λ (a : Entry K V × Bool). a.0) s.lower_asked),
          kept_light s.lower_asked,
        )

    lower_few : length new.lower ≤ length old.lower
    lower_few =
        omega (
          arith,
          length-entries new.lower,
          length-entries old.lower,
          ap length s.lower_kept,
          ap length s.lower_parts,
          length-append s.lower_front (kept_of s.lower_asked),
          length-append s.lower_front (map (λ (a : Entry K V × Bool). a.0) s.lower_asked),
          kept_few s.lower_asked,
        )

    module _ (mw me mp : ℕ) where
      pub kept_retained : IsKept old mw me mp → IsKept new mw me mp
      kept_retained k = record {
        fits = (
          omega (arith, k.fits.0, rows_weight new.upper new.lower, rows_weight old.upper old.lower, upper_light, lower_light),
          omega (arith, k.fits.1, length-append new.upper new.lower, length-append old.upper old.lower, upper_few, lower_few),
        );
        protected = (omega (arith, k.protected.0, upper_light), omega (arith, k.protected.1, upper_few));
      }

      pub view_retained : (c : Segmented K V S) → segmented_in old mw me mp ≡ c → RetainsLast step keep Step visit most c (segmented_in new mw me mp)
      view_retained c view = record {
        upper_front = s.upper_front;
        lower_front = s.lower_front;
        upper_asked = s.upper_asked;
        lower_asked = s.lower_asked;
        left = s.left;
        upper_parts = ap (λ (x : Segmented K V S). x.upper) (sym view) ∙ s.upper_parts;
        lower_parts = ap (λ (x : Segmented K V S). x.lower) (sym view) ∙ s.lower_parts;
        lower_first = s.lower_first;
        many = s.many ∙ ap (min most) (sym (long old mw me mp) ∙ ap (λ (x : Segmented K V S). length (entries x)) view);
        called = s.called;
        shown = s.shown;
        kept =
            ap (λ es. record { upper = es; lower = entries_in new.lower; places = length (rows new) + new.free; most_weight = mw; most_entries = me; most_protected = mp; hashes = new.hashes }) s.upper_kept
            ∙ ap (λ es. record { upper = s.upper_front ++ kept_of s.upper_asked; lower = es; places = length (rows new) + new.free; most_weight = mw; most_entries = me; most_protected = mp; hashes = new.hashes }) s.lower_kept
            ∙ ap (λ n. record { upper = s.upper_front ++ kept_of s.upper_asked; lower = s.lower_front ++ kept_of s.lower_asked; places = n; most_weight = mw; most_entries = me; most_protected = mp; hashes = new.hashes }) s.free_is
            ∙ ap (λ h. record { upper = s.upper_front ++ kept_of s.upper_asked; lower = s.lower_front ++ kept_of s.lower_asked; places = length (rows old) + old.free; most_weight = mw; most_entries = me; most_protected = mp; hashes = h }) s.hashes_are
            ∙ ap (λ (x : Segmented K V S). with_segments x (s.upper_front ++ kept_of s.upper_asked) (s.lower_front ++ kept_of s.lower_asked)) view;
      }

-- where it was asked of all, those that stay are all that is left
pub retains_all : {K V F G S : Type 0} (step : F → Bor K → Bor V → ℕ → Bool → F → Type 0) (keep : F) (Step : G → Entry K V → G → Type 0) (visit : G) (most : ℕ) (old new : Segmented K V S) →
    RetainsLast step keep Step visit most old new → length (entries old) ≤ most → Retains step keep old new
retains_all {K} {V} {F} {G} {S} step keep Step visit most old new s all = record {
  upper_asked = s.upper_asked;
  lower_asked = s.lower_asked;
  left = s.left;
  upper_all = sym (s.upper_parts ∙ ap (λ es. es ++ map (λ a. a.0) s.upper_asked) (no_front s.upper_front (omega (arith, fronts))));
  lower_all = sym (s.lower_parts ∙ ap (λ es. es ++ map (λ a. a.0) s.lower_asked) (no_front s.lower_front (omega (arith, fronts))));
  called = s.called;
  kept =
      s.kept ∙ ap (λ es. with_segments old (es ++ kept_of s.upper_asked) (s.lower_front ++ kept_of s.lower_asked)) (no_front s.upper_front (omega (arith, fronts)))
      ∙ ap (λ es. with_segments old (kept_of s.upper_asked) (es ++ kept_of s.lower_asked)) (no_front s.lower_front (omega (arith, fronts)));
}
  where
    fronts : length s.upper_front + length s.lower_front ≡ 0
    fronts =
        omega (
          arith,
          all,
          s.many,
          length-append s.upper_asked s.lower_asked,
          length-append old.upper old.lower,
          ap length s.upper_parts,
          ap length s.lower_parts,
          length-append s.upper_front (map (λ (a : Entry K V × Bool). a.0) s.upper_asked),
          length-append s.lower_front (map (λ (a : Entry K V × Bool). a.0) s.lower_asked),
          length-map s.upper_asked (λ (a : Entry K V × Bool). a.0),
          length-map s.lower_asked (λ (a : Entry K V × Bool). a.0),
        )

    no_front : (es : List (Entry K V)) → length es ≡ 0 → es ≡ []
    no_front [] none = refl
    no_front (e ∷ es) none = absurd (omega (arith, none))
