-- What the calls of seats do to their rows, as the segments are seen.
use Rattle.std.proofs.Common.{◌≡◌, ℕ, ◌+◌, ◌-◌, ◌<◌, ◌≤◌, cond, not, eqb, List, [], ◌∷◌, ◌++◌, length, map, Some, None, refl, sym, ap, ◌∙◌, subst, inl, inr, arith, true, false, append_assoc}
use Rattle.std.specs.Prelude.{Option, Bool, is_some, count_by, filter, slice_get, reverse, IfSome}
use Rattle.std.specs.Option.{option_map, option_map_or}
use Rattle.std.proofs.lemmas.Bool.{cases_eq, eq-eqb, ne_eqb, false≢true}
use Rattle.std.proofs.lemmas.List.{length-append, length-map, map-append, append-nil, reverse-append}
use Rattle.std.proofs.lemmas.List.Elements.{filter-append}
use Rattle.std.proofs.lemmas.List.Sums.{sum_by-cons}
use Rattle.std.proofs.lemmas.Option.{slice_get-map}
use Rattle.lru_rows.specs.declared.rows.NoPlace.{NoPlace}
use Rattle.lru_rows.specs.declared.rows.NoPlace.TheVariants.{Memory, Full}
use Rattle.lru_rows.specs.declared.rows.Taken.{Taken}
use Rattle.lru_rows.specs.Rows.{Placed, placed, Recency, recency, row_at, row_of, IsAt, IsRecency, Finds, without, promoted, demoted, with_value, first_row, last_row, taken, most_rows, LacksPlace, entry_of as rows_entry_of}
use Rattle.lru_owned_cache.specs.Entries.{weight_in}
use Rattle.lru_owned_cache.proofs.Rows.{some_of, places, places_here, places-append, without_absent, row_first, row_place, by_place, weight-cons, weight-append, weight-without, length-without}
use Rattle.lru_pairs.specs.Beside.{row_after, row_before, put_before}
use Rattle.lru_segmented.specs.declared.seat.RankedValue.{RankedValue}
use Rattle.lru_segmented.specs.Seats.{Seated, seated, rows, lifted, sunk, LowersLast}
use Rattle.lru_segmented.specs.Representation.{seat, bare, row_in, rows_in, seated_in, AllSay, IsSeated, passed, begun, upper_end, Marks}
use Rattle.lru_segmented.proofs.Lists.{by_test}
use Rattle.lru_segmented.proofs.Sides.{nowhere, Once, Side, side, without-append, places_without, once_without, once_first, once_more, places_value, value_absent, value-append, value_first, last_pushed, has_last, after_split, before_split, put_between, at_right}

module _ {K V : Type 0} where
  abbrev place_of : Option (Placed K (RankedValue V)) → Option ℕ
  place_of o = option_map (λ (x : Placed K (RankedValue V)). x.place) o

  abbrev is_upper : Placed K (RankedValue V) → Bool
  is_upper x = x.value.upper

  abbrev is_lower : Placed K (RankedValue V) → Bool
  is_lower x = not x.value.upper

  -- ---- the rows of seats
  pub in-append : (xs ys : List (Placed K (RankedValue V))) → rows_in (xs ++ ys) ≡ rows_in xs ++ rows_in ys
  in-append xs ys = map-append row_in xs ys

  pub in-length : (xs : List (Placed K (RankedValue V))) → length (rows_in xs) ≡ length xs
  in-length xs = length-map xs row_in

  pub in-weight : (xs : List (Placed K (RankedValue V))) → weight_in (rows_in xs) ≡ weight_in xs
  in-weight [] = refl
  in-weight (x ∷ xs) = weight-cons (row_in x) (rows_in xs) ∙ ap (λ n. x.weight + n) (in-weight xs) ∙ sym (weight-cons x xs)

  pub in-at : (xs : List (Placed K (RankedValue V))) (p : ℕ) → row_at (rows_in xs) p ≡ option_map row_in (row_at xs p)
  in-at [] p = refl
  in-at (x ∷ xs) p =
      let rest = in-at xs p in
      by_test (eqb x.place p) (λ b. cond b (Some (row_in x)) (row_at (rows_in xs) p) ≡ option_map row_in (cond b (Some x) (row_at xs p))) (λ _. refl) (λ _. rest)

  in-of : {Q : Type 0} (eq : K → Q → Bool) (xs : List (Placed K (RankedValue V))) (q : Q) → row_of eq (rows_in xs) q ≡ option_map row_in (row_of eq xs q)
  in-of eq [] q = refl
  in-of eq (x ∷ xs) q =
      let rest = in-of eq xs q in
      by_test (eq x.key q) (λ b. cond b (Some (row_in x)) (row_of eq (rows_in xs) q) ≡ option_map row_in (cond b (Some x) (row_of eq xs q))) (λ _. refl) (λ _. rest)

  pub in-without : (xs : List (Placed K (RankedValue V))) (p : ℕ) → rows_in (without xs p) ≡ without (rows_in xs) p
  in-without [] p = refl
  in-without (x ∷ xs) p =
      let rest = in-without xs p in
      by_test (eqb x.place p) (λ b. rows_in (cond (not b) (x ∷ without xs p) (without xs p)) ≡ cond (not b) (row_in x ∷ without (rows_in xs) p) (without (rows_in xs) p)) (λ _. rest) (λ _. ap (λ zs. row_in x ∷ zs) rest)

  in-value : (xs : List (Placed K (RankedValue V))) (p : ℕ) (d : RankedValue V) → rows_in (with_value xs p d) ≡ with_value (rows_in xs) p d.value
  in-value [] p d = refl
  in-value (x ∷ xs) p d =
      let rest = in-value xs p d in
      by_test (eqb x.place p) (λ t. rows_in (cond t (placed x.place x.key d x.weight) x ∷ with_value xs p d) ≡ cond t (placed x.place x.key d.value x.weight) (row_in x) ∷ with_value (rows_in xs) p d.value)
      (λ _. ap (λ zs. placed x.place x.key d.value x.weight ∷ zs) rest) (λ _. ap (λ zs. row_in x ∷ zs) rest)

  weight_value : (xs : List (Placed K (RankedValue V))) (p : ℕ) (d : RankedValue V) → weight_in (with_value xs p d) ≡ weight_in xs
  weight_value [] p d = refl
  weight_value (x ∷ xs) p d =
      let rest = weight_value xs p d in
      by_test (eqb x.place p) (λ t. weight_in (cond t (placed x.place x.key d x.weight) x ∷ with_value xs p d) ≡ weight_in (x ∷ xs))
      (λ _. omega (arith, rest, weight-cons (placed x.place x.key d x.weight) (with_value xs p d), weight-cons x xs)) (λ _. omega (arith, rest, weight-cons x (with_value xs p d), weight-cons x xs))

  length_value : (xs : List (Placed K (RankedValue V))) (p : ℕ) (d : RankedValue V) → length (with_value xs p d) ≡ length xs
  length_value xs p d = length-map xs (λ x. cond (eqb x.place p) (placed x.place x.key d x.weight) x)

  first_value : (xs : List (Placed K (RankedValue V))) (p : ℕ) (d : RankedValue V) → place_of (first_row (with_value xs p d)) ≡ place_of (first_row xs)
  first_value [] p d = refl
  first_value (x ∷ xs) p d = by_test (eqb x.place p) (λ t. place_of (Some (cond t (placed x.place x.key d x.weight) x)) ≡ Some x.place) (λ _. refl) (λ _. refl)

  in-places : (xs : List (Placed K (RankedValue V))) (p : ℕ) → places p (rows_in xs) ≡ places p xs
  in-places [] p = refl
  in-places (x ∷ xs) p =
      sum_by-cons (λ (y : Placed K V). cond (eqb y.place p) 1 0) (row_in x) (rows_in xs) ∙ ap (λ n. cond (eqb x.place p) 1 0 + n) (in-places xs p)
      ∙ sym (sum_by-cons (λ (y : Placed K (RankedValue V)). cond (eqb y.place p) 1 0) x xs)

  in-keys : (eq : K → K → Bool) (xs : List (Placed K (RankedValue V))) (key : K) → count_by (λ (y : Placed K V). eq y.key key) (rows_in xs) ≡ count_by (λ (y : Placed K (RankedValue V)). eq y.key key) xs
  in-keys eq [] key = refl
  in-keys eq (x ∷ xs) key =
      sum_by-cons (λ (y : Placed K V). cond (eq y.key key) 1 0) (row_in x) (rows_in xs) ∙ ap (λ n. cond (eq x.key key) 1 0 + n) (in-keys eq xs key)
      ∙ sym (sum_by-cons (λ (y : Placed K (RankedValue V)). cond (eq y.key key) 1 0) x xs)

  in-last : (xs : List (Placed K (RankedValue V))) → last_row (rows_in xs) ≡ option_map row_in (last_row xs)
  in-last xs = ap (λ n. slice_get (rows_in xs) (n - 1)) (in-length xs) ∙ slice_get-map row_in xs (length xs - 1)

  place_in : (o : Option (Placed K (RankedValue V))) → option_map (λ (x : Placed K V). x.place) (option_map row_in o) ≡ place_of o
  place_in None = refl
  place_in (Some x) = refl

  -- ---- the row behind another, and before it
  in-reverse : (xs : List (Placed K (RankedValue V))) → rows_in (reverse xs) ≡ reverse (rows_in xs)
  in-reverse [] = refl
  in-reverse (x ∷ xs) =
      ap rows_in (reverse-append (x ∷ []) xs) ∙ in-append (reverse xs) (x ∷ []) ∙ ap (λ ys. ys ++ row_in x ∷ []) (in-reverse xs) ∙ sym (reverse-append (row_in x ∷ []) (rows_in xs))

  in-first : (xs : List (Placed K (RankedValue V))) → first_row (rows_in xs) ≡ option_map row_in (first_row xs)
  in-first [] = refl
  in-first (x ∷ xs) = refl

  in-after : (xs : List (Placed K (RankedValue V))) (p : ℕ) → row_after (rows_in xs) p ≡ option_map row_in (row_after xs p)
  in-after [] p = refl
  in-after (x ∷ xs) p =
      let rest = in-after xs p in
      by_test (eqb x.place p) (λ b. cond b (first_row (rows_in xs)) (row_after (rows_in xs) p) ≡ option_map row_in (cond b (first_row xs) (row_after xs p))) (λ _. in-first xs) (λ _. rest)

  -- ---- what seats say
  all_upper : (xs : List (Placed K (RankedValue V))) → AllSay true xs → (filter is_upper xs ≡ xs) × (filter is_lower xs ≡ [])
  all_upper [] say = (refl, refl)
  all_upper (x ∷ xs) say =
      let rest = all_upper xs say.1 in (
        ap (λ b. cond b (x ∷ filter is_upper xs) (filter is_upper xs)) say.0 ∙ ap (λ zs. x ∷ zs) rest.0,
        ap (λ b. cond (not b) (x ∷ filter is_lower xs) (filter is_lower xs)) say.0 ∙ rest.1,
      )

  all_lower : (xs : List (Placed K (RankedValue V))) → AllSay false xs → (filter is_upper xs ≡ []) × (filter is_lower xs ≡ xs)
  all_lower [] say = (refl, refl)
  all_lower (x ∷ xs) say =
      let rest = all_lower xs say.1 in (
        ap (λ b. cond b (x ∷ filter is_upper xs) (filter is_upper xs)) say.0 ∙ rest.0,
        ap (λ b. cond (not b) (x ∷ filter is_lower xs) (filter is_lower xs)) say.0 ∙ ap (λ zs. x ∷ zs) rest.1,
      )

  say_without : (b : Bool) (xs : List (Placed K (RankedValue V))) (p : ℕ) → AllSay b xs → AllSay b (without xs p)
  say_without b [] p say = tt
  say_without b (x ∷ xs) p say = by_place p x xs (λ ys. AllSay b ys) (λ _. say_without b xs p say.1) (λ _. (say.0, say_without b xs p say.1))

  say_at : (b : Bool) (xs : List (Placed K (RankedValue V))) (p : ℕ) (x : Placed K (RankedValue V)) → AllSay b xs → row_at xs p ≡ Some x → x.value.upper ≡ b
  say_at b [] p x say found = absurd (false≢true (ap is_some found))
  say_at b (y ∷ ys) p x say found =
      elim (cases_eq y.place p) [
        | inl e ↦ ap is_upper (some_of x y (sym found ∙ row_first y ys p e)) ∙ say.0
        | inr ne ↦ say_at b ys p x say.1 (sym (ap (λ t. cond t (Some y) (row_at ys p)) (ne_eqb y.place p ne)) ∙ found)
      ]

  say_value : (b : Bool) (xs : List (Placed K (RankedValue V))) (p : ℕ) (d : RankedValue V) → d.upper ≡ b → AllSay b xs → AllSay b (with_value xs p d)
  say_value b [] p d is say = tt
  say_value b (x ∷ xs) p d is say =
      let rest = say_value b xs p d is say.1 in
      by_test (eqb x.place p) (λ t. AllSay b (cond t (placed x.place x.key d x.weight) x ∷ with_value xs p d)) (λ _. (is, rest)) (λ _. (say.0, rest))

  say_front : (b : Bool) (front : List (Placed K (RankedValue V))) (x : Placed K (RankedValue V)) → AllSay b (front ++ x ∷ []) → AllSay b front
  say_front b [] x say = tt
  say_front b (y ∷ ys) x say = (say.0, say_front b ys x say.1)

  -- the segments are those of which the seats say it
  pub shows : {S : Type 0} (r : Recency K (RankedValue V)) (hashes : S) (us ls : List (Placed K (RankedValue V))) → r.rows ≡ us ++ ls → AllSay true us → AllSay false ls → seated_in r hashes ≡ seated (rows_in us) (rows_in ls) r.free hashes
  shows r hashes us ls parts uppers lowers =
      let up = all_upper us uppers in
      let low = all_lower ls lowers in
      ap (λ rs. seated (rows_in (filter is_upper rs)) (rows_in (filter is_lower rs)) r.free hashes) parts
      ∙ ap (λ rs. seated (rows_in rs) (rows_in (filter is_lower (us ++ ls))) r.free hashes)
      (filter-append is_upper us ls ∙ ap (λ zs. zs ++ filter is_upper ls) up.0 ∙ ap (λ zs. us ++ zs) low.0 ∙ append-nil us)
      ∙ ap (λ rs. seated (rows_in us) (rows_in rs) r.free hashes)
      (filter-append is_lower us ls ∙ ap (λ zs. zs ++ filter is_lower ls) up.1 ∙ low.1)

  -- ---- the boundary, where a place's row goes elsewhere
  pass_by : (us ls : List (Placed K (RankedValue V))) (boundary : Option ℕ) (p : ℕ) → boundary ≡ place_of (first_row ls) → Once (us ++ ls) → passed (us ++ ls) boundary p ≡ place_of (first_row (without ls p))
  pass_by us [] boundary p is once = ap (λ b. passed (us ++ []) b p) is
  pass_by us (y ∷ ys) boundary p is once =
      ap (λ b. passed (us ++ y ∷ ys) b p) is
      ∙ elim (cases_eq y.place p) [
        | inl e ↦
            let none : places p ys ≡ 0 = omega (arith, once p, places-append p us (y ∷ ys), places_here y ys p e) in
            ap (λ b. cond b (place_of (row_after (us ++ y ∷ ys) p)) (Some y.place)) (eq-eqb y.place p e)
            ∙ ap place_of (after_split us y ys p e (omega (arith, once p, places-append p us (y ∷ ys), places_here y ys p e)))
            ∙ sym (ap (λ zs. place_of (first_row zs)) (by_place p y ys (λ zs. zs ≡ ys) (λ _. without_absent p ys none) (λ ne. absurd (ne e))))
        | inr ne ↦
            ap (λ b. cond b (place_of (row_after (us ++ y ∷ ys) p)) (Some y.place)) (ne_eqb y.place p ne)
            ∙ sym (ap (λ zs. place_of (first_row zs)) (by_place p y ys (λ zs. zs ≡ y ∷ without ys p) (λ e. absurd (ne e)) (λ _. refl)))
      ]

  some_there : (o : Option (Placed K (RankedValue V))) → is_some (option_map row_in o) ≡ true → (x : Placed K (RankedValue V)) × (o ≡ Some x)
  some_there None h = absurd (false≢true h)
  some_there (Some x) h = (x, refl)

module _ {K V S : Type 0} (r : Recency K (RankedValue V)) (hashes : S) (boundary : Option ℕ) (w uw ul : ℕ) (k : IsSeated r boundary w uw ul) (s : Seated K V S) (view : seated_in r hashes ≡ s) where
  shown : seated (rows_in k.us) (rows_in k.ls) r.free hashes ≡ s
  shown = sym (shows r hashes k.us k.ls k.parts k.uppers k.lowers) ∙ view

  upper_is : rows_in k.us ≡ s.upper
  upper_is = ap (λ (x : Seated K V S). x.upper) shown

  lower_is : rows_in k.ls ≡ s.lower
  lower_is = ap (λ (x : Seated K V S). x.lower) shown

  free_is : r.free ≡ s.free
  free_is = ap (λ (x : Seated K V S). x.free) shown

  hashes_are : hashes ≡ s.hashes
  hashes_are = ap (λ (x : Seated K V S). x.hashes) shown

  rows_are : rows_in r.rows ≡ rows s
  rows_are = ap rows_in k.parts ∙ in-append k.us k.ls ∙ ap (λ (x : Seated K V S). rows x) shown

  once_parts : Once (k.us ++ k.ls)
  once_parts p = subst (λ rs. places p rs ≤ 1) k.parts (k.once p)

  -- ---- looks
  pub len_is : (n : ℕ) → n ≡ length r.rows → n ≡ length (rows s)
  len_is n is = is ∙ sym (in-length r.rows) ∙ ap length rows_are

  pub weighs : w ≡ weight_in (rows s)
  weighs = k.weight_is ∙ sym (in-weight r.rows) ∙ ap weight_in rows_are

  pub upper_weighs : uw ≡ weight_in s.upper
  upper_weighs = k.upper_weight_is ∙ sym (in-weight k.us) ∙ ap weight_in upper_is

  pub upper_long : ul ≡ length s.upper
  upper_long = k.upper_len_is ∙ sym (in-length k.us) ∙ ap length upper_is

  pub valid : (eq : K → K → Bool) → IsRecency eq r.rows → IsRecency eq (rows s)
  valid eq v = subst (IsRecency eq) rows_are (record {
    places = λ p. omega (arith, in-places r.rows p, v.places p);
    keys = λ key. omega (arith, in-keys eq r.rows key, v.keys key);
    short = omega (arith, in-length r.rows, v.short);
  })

  at_is : (p : ℕ) → row_at (rows s) p ≡ option_map row_in (row_at r.rows p)
  at_is p = ap (λ rs. row_at rs p) (sym rows_are) ∙ in-at r.rows p

  of_is : {Q : Type 0} (eq : K → Q → Bool) (q : Q) → row_of eq (rows s) q ≡ option_map row_in (row_of eq r.rows q)
  of_is eq q = ap (λ rs. row_of eq rs q) (sym rows_are) ∙ in-of eq r.rows q

  pub finds : {Q : Type 0} (eq : K → Q → Bool) (q : Q) (o : Option ℕ) → Finds eq r.rows q o → Finds eq (rows s) q o
  finds eq q None none = of_is eq q ∙ ap (option_map row_in) none
  finds eq q (Some p) found = (row_in found.0, of_is eq q ∙ ap (option_map row_in) found.1, at_is p ∙ ap (option_map row_in) found.2)

  -- a key that has no row has no seat
  pub unseated : (eq : K → K → Bool) (key : K) → row_of eq (rows s) key ≡ None → row_of eq r.rows key ≡ None
  unseated eq key none = from (row_of eq r.rows key) refl
    where
      from : (o : Option (Placed K (RankedValue V))) → row_of eq r.rows key ≡ o → row_of eq r.rows key ≡ None
      from None is = is
      from (Some x) is = absurd (false≢true (ap is_some (sym none ∙ of_is eq key ∙ ap (option_map row_in) is)))

  pub last_is : (o : Option ℕ) → o ≡ place_of (last_row r.rows) → o ≡ option_map (λ (x : Placed K V). x.place) (last_row (rows s))
  last_is o is = is ∙ sym (place_in (last_row r.rows)) ∙ ap (option_map (λ (x : Placed K V). x.place)) (sym (in-last r.rows) ∙ ap last_row rows_are)

  pub first_is : (o : Option ℕ) → o ≡ place_of (first_row r.rows) → o ≡ option_map (λ (x : Placed K V). x.place) (first_row (rows s))
  first_is o is = is ∙ sym (place_in (first_row r.rows)) ∙ ap (option_map (λ (x : Placed K V). x.place)) (sym (in-first r.rows) ∙ ap first_row rows_are)

  pub there : (p : ℕ) → IsAt (rows s) p → (x : Placed K (RankedValue V)) × (row_at r.rows p ≡ Some x)
  there p at = some_there (row_at r.rows p) (ap is_some (sym (at_is p)) ∙ at)

  pub seat_stands : (p : ℕ) → IsAt (rows s) p → IsAt r.rows p
  seat_stands p at = ap is_some (there p at).1

  pub value_is : (p : ℕ) → IsAt (rows s) p → (d : RankedValue V) → option_map (λ (x : Placed K (RankedValue V)). x.value) (row_at r.rows p) ≡ Some d → option_map (λ (x : Placed K V). x.value) (row_at (rows s) p) ≡ Some d.value
  value_is p at d is =
      let x = there p at in
      let same : x.0.value ≡ d = some_of x.0.value d (sym (ap (option_map (λ (y : Placed K (RankedValue V)). y.value)) x.1) ∙ is) in
      ap (option_map (λ (y : Placed K V). y.value)) (at_is p ∙ ap (option_map row_in) x.1) ∙ ap (λ (y : RankedValue V). Some y.value) same

  pub key_is : (p : ℕ) → IsAt (rows s) p → (key : K) → option_map (λ (x : Placed K (RankedValue V)). x.key) (row_at r.rows p) ≡ Some key → option_map (λ (x : Placed K V). x.key) (row_at (rows s) p) ≡ Some key
  key_is p at key is =
      let x = there p at in
      ap (option_map (λ (y : Placed K V). y.key)) (at_is p ∙ ap (option_map row_in) x.1) ∙ sym (ap (option_map (λ (y : Placed K (RankedValue V)). y.key)) x.1) ∙ is

  pub before_is : (p : ℕ) (o : Option ℕ) → o ≡ place_of (row_before r.rows p) → o ≡ option_map (λ (x : Placed K V). x.place) (row_before (rows s) p)
  before_is p o is =
      is ∙ sym (place_in (row_before r.rows p))
      ∙ ap (option_map (λ (x : Placed K V). x.place))
      (sym (in-after (reverse r.rows) p) ∙ ap (λ rs. row_after rs p) (in-reverse r.rows) ∙ ap (λ rs. row_before rs p) rows_are)

  pub weight_is : (p : ℕ) → IsAt (rows s) p → (n : ℕ) → option_map (λ (x : Placed K (RankedValue V)). x.weight) (row_at r.rows p) ≡ Some n → option_map (λ (x : Placed K V). x.weight) (row_at (rows s) p) ≡ Some n
  weight_is p at n is =
      let x = there p at in
      ap (option_map (λ (y : Placed K V). y.weight)) (at_is p ∙ ap (option_map row_in) x.1) ∙ sym (ap (option_map (λ (y : Placed K (RankedValue V)). y.weight)) x.1) ∙ is

  pub few_rows : length r.rows < most_rows → length (rows s) < most_rows
  few_rows few = omega (arith, few, len_is (length r.rows) refl)

  -- why there is no place
  pub lacks : (cause : NoPlace) → LacksPlace r cause → LacksPlace (recency (rows s) s.free) cause
  lacks Memory none = (omega (arith, none.0, len_is (length r.rows) refl), omega (arith, none.1, free_is))
  lacks Full none = omega (arith, none, len_is (length r.rows) refl)

  -- nothing has changed
  pub unchanged : (r1 : Recency K (RankedValue V)) → r1 ≡ r → (h : S) → h ≡ hashes → seated_in r1 h ≡ s
  unchanged r1 same h h_is = ap (λ y. seated_in y h) same ∙ ap (seated_in r) h_is ∙ view

  pub kept_same : (r1 : Recency K (RankedValue V)) → r1 ≡ r → IsSeated r1 boundary w uw ul
  kept_same r1 same = subst (λ y. IsSeated y boundary w uw ul) (sym same) k

  -- the counts are no wider than numbers
  pub counted : (uw ≤ w) × (ul ≤ length r.rows)
  counted = (
    omega (arith, k.upper_weight_is, k.weight_is, ap weight_in k.parts, weight-append k.us k.ls),
    omega (arith, k.upper_len_is, ap length k.parts, length-append k.us k.ls),
  )

  -- what an iterator shows
  bare_rows : (xs : List (Placed K (RankedValue V))) → map bare (map rows_entry_of xs) ≡ map rows_entry_of (rows_in xs)
  bare_rows [] = refl
  bare_rows (x ∷ xs) = ap (λ zs. (x.key, x.value.value, x.weight) ∷ zs) (bare_rows xs)

  pub shown_are : map bare (map rows_entry_of r.rows) ≡ map rows_entry_of (rows s)
  shown_are = bare_rows r.rows ∙ ap (map rows_entry_of) rows_are

  -- the boundary stands, where there is one
  pub boundary_stands : IfSome boundary (IsAt r.rows)
  boundary_stands = from k.ls refl
    where
      from : (ls : List (Placed K (RankedValue V))) → k.ls ≡ ls → IfSome boundary (IsAt r.rows)
      from [] e = subst (λ b. IfSome b (IsAt r.rows)) (sym (k.boundary_is ∙ ap (λ zs. place_of (first_row zs)) e)) tt
      from (y ∷ ys) e =
          let parts = k.parts ∙ ap (λ zs. k.us ++ zs) e in
          let none : places y.place k.us ≡ 0 = omega (arith, k.once y.place, ap (places y.place) parts, places-append y.place k.us (y ∷ ys), places_here y ys y.place refl) in
          subst (λ b. IfSome b (IsAt r.rows)) (sym (k.boundary_is ∙ ap (λ zs. place_of (first_row zs)) e))
          (ap is_some (ap (λ rs. row_at rs y.place) parts ∙ at_right k.us (y ∷ ys) y.place none ∙ row_first y ys y.place refl))

  -- ---- the row at a place
  module _ (p : ℕ) (at : IsAt (rows s) p) where
    abbrev x : Placed K (RankedValue V)
    x = (there p at).0

    found : row_at r.rows p ≡ Some (there p at).0
    found = (there p at).1

    place : (there p at).0.place ≡ p
    place = row_place r.rows p x found

    stands : Side k.us k.ls p x
    stands = side k.us k.ls p x once_parts (ap (λ rs. row_at rs p) (sym k.parts) ∙ found)

    pub boundary_passed : (b : Option ℕ) → b ≡ passed r.rows boundary p → b ≡ place_of (first_row (without k.ls p))
    boundary_passed b is = is ∙ ap (λ rs. passed rs boundary p) k.parts ∙ pass_by k.us k.ls boundary p k.boundary_is once_parts

    parts_without : without r.rows p ≡ without k.us p ++ without k.ls p
    parts_without = ap (λ rs. without rs p) k.parts ∙ without-append k.us k.ls p

    weight_with : w ≡ x.weight + weight_in (without r.rows p)
    weight_with = k.weight_is ∙ weight-without p r.rows x found (k.once p)

    -- a row that says that it is of the upper segment is counted there
    upper_with : x.value.upper ≡ true → (uw ≡ x.weight + weight_in (without k.us p)) × (ul ≡ 1 + length (without k.us p))
    upper_with says =
        elim stands [
          | inl (here, none) ↦
              let once : places p k.us ≤ 1 = omega (arith, once_parts p, places-append p k.us k.ls) in
              (k.upper_weight_is ∙ weight-without p k.us x here once, k.upper_len_is ∙ length-without p k.us (ap is_some here) once)
          | inr (none, here) ↦ absurd (false≢true (sym (say_at false k.ls p x k.lowers here) ∙ says))
        ]

    -- and another is not
    lower_with : x.value.upper ≡ false → (without k.us p ≡ k.us) × (x.weight + uw ≤ w) × (ul + 1 ≤ length r.rows)
    lower_with says =
        elim stands [
          | inl (here, none) ↦ absurd (false≢true (sym says ∙ say_at true k.us p x k.uppers here))
          | inr (none, here) ↦
              let once : places p k.ls ≤ 1 = omega (arith, once_parts p, places-append p k.us k.ls) in (
                without_absent p k.us none,
                omega (arith, k.weight_is, ap weight_in k.parts, weight-append k.us k.ls, k.upper_weight_is, weight-without p k.ls x here once),
                omega (arith, ap length k.parts, length-append k.us k.ls, k.upper_len_is, length-without p k.ls (ap is_some here) once),
              )
        ]

    row_is : row_at (rows s) p ≡ Some (row_in x)
    row_is = at_is p ∙ ap (option_map row_in) found

    -- ---- it has another value
    module _ (y : Placed K (RankedValue V)) (y_at : row_at r.rows p ≡ Some y) (d : RankedValue V) (same : d.upper ≡ y.value.upper) (r1 : Recency K (RankedValue V)) (r1_is : r1 ≡ recency (with_value r.rows p d) r.free) where
      as_before : d.upper ≡ (there p at).0.value.upper
      as_before = same ∙ ap is_upper (some_of y x (sym y_at ∙ found))

      value_parts : r1.rows ≡ with_value k.us p d ++ with_value k.ls p d
      value_parts = ap (λ (z : Recency K (RankedValue V)). z.rows) r1_is ∙ ap (λ rs. with_value rs p d) k.parts ∙ value-append k.us k.ls p d

      uppers_say : AllSay true (with_value k.us p d)
      uppers_say =
          elim stands [
            | inl (here, none) ↦ say_value true k.us p d (as_before ∙ say_at true k.us p x k.uppers here) k.uppers
            | inr (none, here) ↦ subst (AllSay true) (sym (value_absent k.us p d none)) k.uppers
          ]

      lowers_say : AllSay false (with_value k.ls p d)
      lowers_say =
          elim stands [
            | inl (here, none) ↦ subst (AllSay false) (sym (value_absent k.ls p d none)) k.lowers
            | inr (none, here) ↦ say_value false k.ls p d (as_before ∙ say_at false k.ls p x k.lowers here) k.lowers
          ]

      pub kept_value : IsSeated r1 boundary w uw ul
      kept_value = record {
        us = with_value k.us p d;
        ls = with_value k.ls p d;
        parts = value_parts;
        once = λ q. omega (arith, k.once q, ap (λ (z : Recency K (RankedValue V)). places q z.rows) r1_is, places_value r.rows p d q);
        short = omega (arith, k.short, ap (λ (z : Recency K (RankedValue V)). length z.rows) r1_is, length_value r.rows p d);
        uppers = uppers_say;
        lowers = lowers_say;
        boundary_is = k.boundary_is ∙ sym (first_value k.ls p d);
        weight_is = omega (arith, k.weight_is, ap (λ (z : Recency K (RankedValue V)). weight_in z.rows) r1_is, weight_value r.rows p d);
        upper_weight_is = omega (arith, k.upper_weight_is, weight_value k.us p d);
        upper_len_is = omega (arith, k.upper_len_is, length_value k.us p d);
      }

      pub view_value : (h : S) → h ≡ hashes → seated_in r1 h ≡ seated (with_value s.upper p d.value) (with_value s.lower p d.value) s.free s.hashes
      view_value h h_is =
          shows r1 h (with_value k.us p d) (with_value k.ls p d) value_parts uppers_say lowers_say
          ∙ ap (λ us. seated us (rows_in (with_value k.ls p d)) r1.free h) (in-value k.us p d ∙ ap (λ us. with_value us p d.value) upper_is)
          ∙ ap (λ ls. seated (with_value s.upper p d.value) ls r1.free h) (in-value k.ls p d ∙ ap (λ ls. with_value ls p d.value) lower_is)
          ∙ ap (λ n. seated (with_value s.upper p d.value) (with_value s.lower p d.value) n h) (ap (λ (z : Recency K (RankedValue V)). z.free) r1_is ∙ free_is)
          ∙ ap (seated (with_value s.upper p d.value) (with_value s.lower p d.value) s.free) (h_is ∙ hashes_are)

      pub seen_there : row_at (rows s) p ≡ Some (row_in y)
      seen_there = at_is p ∙ ap (option_map row_in) y_at

    -- ---- it goes first in the upper segment
    abbrev raised : Placed K (RankedValue V)
    raised = placed x.place x.key (seat x.value.value true) x.weight

    -- what its seat says
    pub seat_says : (v : RankedValue V) → option_map (λ (y : Placed K (RankedValue V)). y.value) (row_at r.rows p) ≡ Some v → v.upper ≡ (there p at).0.value.upper
    seat_says v read = ap (λ (y : RankedValue V). y.upper) (some_of v x.value (sym read ∙ ap (option_map (λ (y : Placed K (RankedValue V)). y.value)) found))

    module _ (r1 : Recency K (RankedValue V)) (r1_is : r1 ≡ recency (promoted r.rows p) r.free) where
      rows1 : r1.rows ≡ x ∷ without r.rows p
      rows1 = ap (λ (y : Recency K (RankedValue V)). y.rows) r1_is ∙ ap (λ o. option_map_or (λ y. y ∷ without r.rows p) o r.rows) found

      first_at : row_at r1.rows p ≡ Some x
      first_at = ap (λ rs. row_at rs p) rows1 ∙ row_first x (without r.rows p) p place

      pub first_stands : IsAt r1.rows p
      first_stands = ap is_some first_at

      pub first_weight : (n : ℕ) → option_map (λ (y : Placed K (RankedValue V)). y.weight) (row_at r1.rows p) ≡ Some n → n ≡ x.weight
      first_weight n is = some_of n x.weight (sym is ∙ ap (option_map (λ (y : Placed K (RankedValue V)). y.weight)) first_at)

      -- it stood there
      module _ (says_upper : (there p at).0.value.upper ≡ true) where
        not_behind_it : without k.ls p ≡ k.ls
        not_behind_it =
            elim stands [
              | inl (here, none) ↦ without_absent p k.ls none
              | inr (none, here) ↦ absurd (false≢true (sym (say_at false k.ls p x k.lowers here) ∙ says_upper))
            ]

        moved_parts : r1.rows ≡ (x ∷ without k.us p) ++ k.ls
        moved_parts = rows1 ∙ ap (λ zs. x ∷ zs) (parts_without ∙ ap (λ zs. without k.us p ++ zs) not_behind_it)

        pub kept_moved : IsSeated r1 boundary w uw ul
        kept_moved = record {
          us = x ∷ without k.us p;
          ls = k.ls;
          parts = moved_parts;
          once = λ q. subst (λ rs. places q rs ≤ 1) (ap (λ n. x ∷ without r.rows n) place ∙ sym rows1) (once_first r.rows x k.once q);
          short = omega (arith, k.short, ap length rows1, length-without p r.rows (ap is_some found) (k.once p));
          uppers = (says_upper, say_without true k.us p k.uppers);
          lowers = k.lowers;
          boundary_is = k.boundary_is;
          weight_is = omega (arith, weight_with, ap weight_in rows1, weight-cons x (without r.rows p));
          upper_weight_is = omega (arith, (upper_with says_upper).0, weight-cons x (without k.us p));
          upper_len_is = omega (arith, (upper_with says_upper).1);
        }

        pub view_moved : (h : S) → h ≡ hashes → seated_in r1 h ≡ lifted s p
        view_moved h h_is =
            shows r1 h (x ∷ without k.us p) k.ls moved_parts (says_upper, say_without true k.us p k.uppers) k.lowers
            ∙ ap (λ us. seated (row_in x ∷ us) (rows_in k.ls) r1.free h) (in-without k.us p ∙ ap (λ us. without us p) upper_is)
            ∙ ap (λ ls. seated (row_in x ∷ without s.upper p) ls r1.free h) (ap rows_in (sym not_behind_it) ∙ in-without k.ls p ∙ ap (λ ls. without ls p) lower_is)
            ∙ ap (λ n. seated (row_in x ∷ without s.upper p) (without s.lower p) n h) (ap (λ (y : Recency K (RankedValue V)). y.free) r1_is ∙ free_is)
            ∙ ap (seated (row_in x ∷ without s.upper p) (without s.lower p) s.free) (h_is ∙ hashes_are)
            ∙ sym (ap (λ o. option_map_or (λ y. seated (y ∷ without s.upper p) (without s.lower p) s.free s.hashes) o s) row_is)

        -- the segment is as heavy as it was
        pub moved_weight : (h : S) → h ≡ hashes → (weight_in (seated_in r1 h).upper ≡ weight_in s.upper) × (length (seated_in r1 h).upper ≡ length s.upper)
        moved_weight h h_is =
            let us : (seated_in r1 h).upper ≡ rows_in (x ∷ without k.us p) =
            ap (λ (y : Seated K V S). y.upper) (shows r1 h (x ∷ without k.us p) k.ls moved_parts (says_upper, say_without true k.us p k.uppers) k.lowers) in (
              omega (arith, ap weight_in us, in-weight (x ∷ without k.us p), weight-cons x (without k.us p), (upper_with says_upper).0, upper_weighs),
              omega (arith, ap length us, in-length (x ∷ without k.us p), (upper_with says_upper).1, upper_long),
            )

      module _ (was : Bool) (r2 : Recency K (RankedValue V)) (marks : Marks r1 p true was r2) where
        pub says : was ≡ (there p at).0.value.upper
        says = marks.1.1.0 ∙ ap is_upper (some_of marks.0 x (sym marks.1.0 ∙ first_at))

        r2_is : r2 ≡ recency (raised ∷ without r.rows p) r.free
        r2_is =
            marks.1.1.1 ∙ ap (λ (y : Placed K (RankedValue V)). recency (with_value r1.rows p (seat y.value.value true)) r1.free) (some_of marks.0 x (sym marks.1.0 ∙ first_at))
            ∙ ap (λ rs. recency (with_value rs p (seat x.value.value true)) r1.free) rows1
            ∙ ap (λ rs. recency rs r1.free) (value_first x (without r.rows p) p (seat x.value.value true) place (places_without r.rows p))
            ∙ ap (recency (raised ∷ without r.rows p)) (ap (λ (y : Recency K (RankedValue V)). y.free) r1_is)

        parts2 : r2.rows ≡ (raised ∷ without k.us p) ++ without k.ls p
        parts2 = ap (λ (y : Recency K (RankedValue V)). y.rows) r2_is ∙ ap (λ zs. raised ∷ zs) parts_without

        once2 : Once r2.rows
        once2 q = subst (λ rs. places q rs ≤ 1) (ap (λ n. raised ∷ without r.rows n) place ∙ sym (ap (λ (y : Recency K (RankedValue V)). y.rows) r2_is)) (once_first r.rows raised k.once q)

        long2 : length r2.rows ≡ length r.rows
        long2 = ap (λ (y : Recency K (RankedValue V)). length y.rows) r2_is ∙ sym (length-without p r.rows (ap is_some found) (k.once p) ∙ omega arith)

        weight2 : w ≡ weight_in r2.rows
        weight2 = omega (arith, weight_with, ap (λ (y : Recency K (RankedValue V)). weight_in y.rows) r2_is, weight-cons raised (without r.rows p))

        pub lifted_fits : (n : ℕ) → n ≡ x.weight → was ≡ false → (uw + n ≤ w) × (ul + 1 ≤ most_rows)
        lifted_fits n n_is false_was = let l = lower_with (sym says ∙ false_was) in (omega (arith, l.1, n_is), omega (arith, l.2, k.short))

        pub kept_raised : (b : Option ℕ) → b ≡ passed r.rows boundary p → was ≡ false → (n : ℕ) → n ≡ x.weight → IsSeated r2 b w (uw + n) (ul + 1)
        kept_raised b b_is false_was n n_is = record {
          us = raised ∷ without k.us p;
          ls = without k.ls p;
          parts = parts2;
          once = once2;
          short = omega (arith, long2, k.short);
          uppers = (refl, say_without true k.us p k.uppers);
          lowers = say_without false k.ls p k.lowers;
          boundary_is = boundary_passed b b_is;
          weight_is = weight2;
          upper_weight_is = omega (arith, n_is, k.upper_weight_is, weight-cons raised (without k.us p), ap weight_in (lower_with (sym says ∙ false_was)).0);
          upper_len_is = omega (arith, k.upper_len_is, ap length (lower_with (sym says ∙ false_was)).0);
        }

        pub view_lifted : (h : S) → h ≡ hashes → seated_in r2 h ≡ lifted s p
        view_lifted h h_is =
            shows r2 h (raised ∷ without k.us p) (without k.ls p) parts2 (refl, say_without true k.us p k.uppers) (say_without false k.ls p k.lowers)
            ∙ ap (λ us. seated (row_in x ∷ us) (rows_in (without k.ls p)) r2.free h) (in-without k.us p ∙ ap (λ us. without us p) upper_is)
            ∙ ap (λ ls. seated (row_in x ∷ without s.upper p) ls r2.free h) (in-without k.ls p ∙ ap (λ ls. without ls p) lower_is)
            ∙ ap (λ n. seated (row_in x ∷ without s.upper p) (without s.lower p) n h) (ap (λ (y : Recency K (RankedValue V)). y.free) r2_is ∙ free_is)
            ∙ ap (seated (row_in x ∷ without s.upper p) (without s.lower p) s.free) (h_is ∙ hashes_are)
            ∙ sym (ap (λ o. option_map_or (λ y. seated (y ∷ without s.upper p) (without s.lower p) s.free s.hashes) o s) row_is)

    -- ---- it goes last in the lower segment
    abbrev lowest : Placed K (RankedValue V)
    lowest = placed x.place x.key (seat x.value.value false) x.weight

    module _ (r1 : Recency K (RankedValue V)) (r1_is : r1 ≡ recency (demoted r.rows p) r.free) where
      last1 : r1.rows ≡ without r.rows p ++ x ∷ []
      last1 = ap (λ (y : Recency K (RankedValue V)). y.rows) r1_is ∙ ap (λ o. option_map_or (λ y. without r.rows p ++ y ∷ []) o r.rows) found

      last_at1 : row_at r1.rows p ≡ Some x
      last_at1 = ap (λ rs. row_at rs p) last1 ∙ at_right (without r.rows p) (x ∷ []) p (places_without r.rows p) ∙ row_first x [] p place

      pub sunk_stands : IsAt r1.rows p
      sunk_stands = ap is_some last_at1

      pub sunk_weight : (n : ℕ) → option_map (λ (y : Placed K (RankedValue V)). y.weight) (row_at r1.rows p) ≡ Some n → n ≡ x.weight
      sunk_weight n is = some_of n x.weight (sym is ∙ ap (option_map (λ (y : Placed K (RankedValue V)). y.weight)) last_at1)

      module _ (was : Bool) (r2 : Recency K (RankedValue V)) (marks : Marks r1 p false was r2) where
        sunk_says : was ≡ (there p at).0.value.upper
        sunk_says = marks.1.1.0 ∙ ap is_upper (some_of marks.0 x (sym marks.1.0 ∙ last_at1))

        sunk_is : r2 ≡ recency (without r.rows p ++ lowest ∷ []) r.free
        sunk_is =
            marks.1.1.1 ∙ ap (λ (y : Placed K (RankedValue V)). recency (with_value r1.rows p (seat y.value.value false)) r1.free) (some_of marks.0 x (sym marks.1.0 ∙ last_at1))
            ∙ ap (λ rs. recency (with_value rs p (seat x.value.value false)) r1.free) last1
            ∙ ap (λ rs. recency rs r1.free)
            (value-append (without r.rows p) (x ∷ []) p (seat x.value.value false)
            ∙ ap (λ zs. zs ++ with_value (x ∷ []) p (seat x.value.value false)) (value_absent (without r.rows p) p (seat x.value.value false) (places_without r.rows p))
            ∙ ap (λ zs. without r.rows p ++ zs) (value_first x [] p (seat x.value.value false) place refl))
            ∙ ap (recency (without r.rows p ++ lowest ∷ [])) (ap (λ (y : Recency K (RankedValue V)). y.free) r1_is)

        sunk_parts : r2.rows ≡ without k.us p ++ (without k.ls p ++ lowest ∷ [])
        sunk_parts = ap (λ (y : Recency K (RankedValue V)). y.rows) sunk_is ∙ ap (λ zs. zs ++ lowest ∷ []) parts_without ∙ append_assoc (without k.us p) (without k.ls p) (lowest ∷ [])

        sunk_once : Once r2.rows
        sunk_once q =
            omega (
              arith,
              ap (λ (y : Recency K (RankedValue V)). places q y.rows) sunk_is,
              places-append q (without r.rows p) (lowest ∷ []),
              places-append q (lowest ∷ []) (without r.rows p),
              ap (λ n. places q (lowest ∷ without r.rows n)) place,
              once_first r.rows lowest k.once q,
            )

        sunk_long : length r2.rows ≡ length r.rows
        sunk_long =
            omega (arith, ap (λ (y : Recency K (RankedValue V)). length y.rows) sunk_is, length-append (without r.rows p) (lowest ∷ []), length-without p r.rows (ap is_some found) (k.once p))

        sunk_heavy : w ≡ weight_in r2.rows
        sunk_heavy =
            omega (arith, weight_with, ap (λ (y : Recency K (RankedValue V)). weight_in y.rows) sunk_is, weight-append (without r.rows p) (lowest ∷ []), weight-cons lowest [])

        say_last : (ls : List (Placed K (RankedValue V))) → AllSay false ls → AllSay false (ls ++ lowest ∷ [])
        say_last [] say = (refl, tt)
        say_last (y ∷ ys) say = (say.0, say_last ys say.1)

        begins_at : (b : Option ℕ) → b ≡ passed r.rows boundary p → begun b p ≡ place_of (first_row (without k.ls p ++ lowest ∷ []))
        begins_at b b_is = ap (λ o. begun o p) (boundary_passed b b_is) ∙ from (without k.ls p)
          where
            from : (ls : List (Placed K (RankedValue V))) → begun (place_of (first_row ls)) p ≡ place_of (first_row (ls ++ lowest ∷ []))
            from [] = ap (λ q. Some q) (sym place)
            from (y ∷ ys) = refl

        -- it stood in the lower segment
        pub kept_sunk_lower : (b : Option ℕ) → b ≡ passed r.rows boundary p → (b1 : Option ℕ) → b1 ≡ begun b p → was ≡ false → IsSeated r2 b1 w uw ul
        kept_sunk_lower b b_is b1 b1_is false_was = record {
          us = without k.us p;
          ls = without k.ls p ++ lowest ∷ [];
          parts = sunk_parts;
          once = sunk_once;
          short = omega (arith, k.short, sunk_long);
          uppers = say_without true k.us p k.uppers;
          lowers = say_last (without k.ls p) (say_without false k.ls p k.lowers);
          boundary_is = b1_is ∙ begins_at b b_is;
          weight_is = sunk_heavy;
          upper_weight_is = omega (arith, k.upper_weight_is, ap weight_in (lower_with (sym sunk_says ∙ false_was)).0);
          upper_len_is = omega (arith, k.upper_len_is, ap length (lower_with (sym sunk_says ∙ false_was)).0);
        }

        -- it stood in the upper one
        pub sunk_fits : (n : ℕ) → n ≡ x.weight → was ≡ true → (n ≤ uw) × (1 ≤ ul)
        sunk_fits n n_is true_was = let u = upper_with (sym sunk_says ∙ true_was) in (omega (arith, u.0, n_is), omega (arith, u.1))

        pub kept_sunk_upper : (b : Option ℕ) → b ≡ passed r.rows boundary p → (b1 : Option ℕ) → b1 ≡ begun b p → was ≡ true → (n : ℕ) → n ≡ x.weight → IsSeated r2 b1 w (uw - n) (ul - 1)
        kept_sunk_upper b b_is b1 b1_is true_was n n_is = record {
          us = without k.us p;
          ls = without k.ls p ++ lowest ∷ [];
          parts = sunk_parts;
          once = sunk_once;
          short = omega (arith, k.short, sunk_long);
          uppers = say_without true k.us p k.uppers;
          lowers = say_last (without k.ls p) (say_without false k.ls p k.lowers);
          boundary_is = b1_is ∙ begins_at b b_is;
          weight_is = sunk_heavy;
          upper_weight_is = omega (arith, (upper_with (sym sunk_says ∙ true_was)).0, n_is);
          upper_len_is = omega (arith, (upper_with (sym sunk_says ∙ true_was)).1);
        }

        pub view_sunk : (h : S) → h ≡ hashes → seated_in r2 h ≡ sunk s p
        view_sunk h h_is =
            shows r2 h (without k.us p) (without k.ls p ++ lowest ∷ []) sunk_parts (say_without true k.us p k.uppers) (say_last (without k.ls p) (say_without false k.ls p k.lowers))
            ∙ ap (λ us. seated us (rows_in (without k.ls p ++ lowest ∷ [])) r2.free h) (in-without k.us p ∙ ap (λ us. without us p) upper_is)
            ∙ ap (λ ls. seated (without s.upper p) ls r2.free h) (in-append (without k.ls p) (lowest ∷ []) ∙ ap (λ ls. ls ++ row_in x ∷ []) (in-without k.ls p ∙ ap (λ ls. without ls p) lower_is))
            ∙ ap (λ n. seated (without s.upper p) (without s.lower p ++ row_in x ∷ []) n h) (ap (λ (y : Recency K (RankedValue V)). y.free) sunk_is ∙ free_is)
            ∙ ap (seated (without s.upper p) (without s.lower p ++ row_in x ∷ []) s.free) (h_is ∙ hashes_are)
            ∙ sym (ap (λ o. option_map_or (λ y. seated (without s.upper p) (without s.lower p ++ y ∷ []) s.free s.hashes) o s) row_is)

    -- ---- it goes
    module _ (t : Taken K (RankedValue V)) (out : option_map taken (row_at r.rows p) ≡ Some t) (r1 : Recency K (RankedValue V)) (r1_is : r1 ≡ recency (without r.rows p) (r.free + 1)) where
      t_is : t ≡ taken x
      t_is = some_of t (taken x) (sym out ∙ ap (option_map taken) found)

      out_weight : t.weight ≡ x.weight
      out_weight = ap (λ (y : Taken K (RankedValue V)). y.weight) t_is

      out_says : t.value.upper ≡ x.value.upper
      out_says = ap (λ (y : Taken K (RankedValue V)). y.value.upper) t_is

      out_parts : r1.rows ≡ without k.us p ++ without k.ls p
      out_parts = ap (λ (y : Recency K (RankedValue V)). y.rows) r1_is ∙ parts_without

      out_once : Once r1.rows
      out_once q = subst (λ rs. places q rs ≤ 1) (sym (ap (λ (y : Recency K (RankedValue V)). y.rows) r1_is)) (once_without r.rows p k.once q)

      pub out_light : t.weight ≤ w
      out_light = omega (arith, out_weight, weight_with)

      out_weighs : w - t.weight ≡ weight_in r1.rows
      out_weighs = omega (arith, out_weight, weight_with, ap (λ (y : Recency K (RankedValue V)). weight_in y.rows) r1_is)

      pub out_upper : t.value.upper ≡ true → (t.weight ≤ uw) × (1 ≤ ul)
      out_upper true_was = let u = upper_with (sym out_says ∙ true_was) in (omega (arith, u.0, out_weight), omega (arith, u.1))

      pub kept_upper_out : (b : Option ℕ) → b ≡ passed r.rows boundary p → t.value.upper ≡ true → IsSeated r1 b (w - t.weight) (uw - t.weight) (ul - 1)
      kept_upper_out b b_is true_was = record {
        us = without k.us p;
        ls = without k.ls p;
        parts = out_parts;
        once = out_once;
        short = omega (arith, k.short, ap (λ (y : Recency K (RankedValue V)). length y.rows) r1_is, length-without p r.rows (ap is_some found) (k.once p));
        uppers = say_without true k.us p k.uppers;
        lowers = say_without false k.ls p k.lowers;
        boundary_is = boundary_passed b b_is;
        weight_is = out_weighs;
        upper_weight_is = omega (arith, (upper_with (sym out_says ∙ true_was)).0, out_weight);
        upper_len_is = omega (arith, (upper_with (sym out_says ∙ true_was)).1);
      }

      pub kept_lower_out : (b : Option ℕ) → b ≡ passed r.rows boundary p → t.value.upper ≡ false → IsSeated r1 b (w - t.weight) uw ul
      kept_lower_out b b_is false_was = record {
        us = without k.us p;
        ls = without k.ls p;
        parts = out_parts;
        once = out_once;
        short = omega (arith, k.short, ap (λ (y : Recency K (RankedValue V)). length y.rows) r1_is, length-without p r.rows (ap is_some found) (k.once p));
        uppers = say_without true k.us p k.uppers;
        lowers = say_without false k.ls p k.lowers;
        boundary_is = boundary_passed b b_is;
        weight_is = out_weighs;
        upper_weight_is = omega (arith, k.upper_weight_is, ap weight_in (lower_with (sym out_says ∙ false_was)).0);
        upper_len_is = omega (arith, k.upper_len_is, ap length (lower_with (sym out_says ∙ false_was)).0);
      }

      pub taken_is : option_map taken (row_at (rows s) p) ≡ Some (record { key = t.key; value = t.value.value; weight = t.weight })
      taken_is = ap (option_map taken) row_is ∙ ap (λ (y : Taken K (RankedValue V)). Some (record { key = y.key; value = y.value.value; weight = y.weight })) (sym t_is)

      pub view_out : (h : S) → h ≡ hashes → seated_in r1 h ≡ seated (without s.upper p) (without s.lower p) (s.free + 1) s.hashes
      view_out h h_is =
          shows r1 h (without k.us p) (without k.ls p) out_parts (say_without true k.us p k.uppers) (say_without false k.ls p k.lowers)
          ∙ ap (λ us. seated us (rows_in (without k.ls p)) r1.free h) (in-without k.us p ∙ ap (λ us. without us p) upper_is)
          ∙ ap (λ ls. seated (without s.upper p) ls r1.free h) (in-without k.ls p ∙ ap (λ ls. without ls p) lower_is)
          ∙ ap (λ n. seated (without s.upper p) (without s.lower p) n h) (ap (λ (y : Recency K (RankedValue V)). y.free) r1_is ∙ ap (λ n. n + 1) free_is)
          ∙ ap (seated (without s.upper p) (without s.lower p) (s.free + 1)) (h_is ∙ hashes_are)

  -- ---- the last row of the upper segment
  module _ (some : 0 < length s.upper) where
    last_parts : (us : List (Placed K (RankedValue V))) → k.us ≡ us → (front : List (Placed K (RankedValue V))) × ((x : Placed K (RankedValue V)) × (k.us ≡ front ++ x ∷ []))
    last_parts [] e = absurd (omega (arith, some, ap length upper_is, in-length k.us, ap length e))
    last_parts (u ∷ us) e = let l = has_last u us in (l.0, (l.1.0, e ∙ l.1.1))

    abbrev front : List (Placed K (RankedValue V))
    front = (last_parts k.us refl).0

    abbrev last : Placed K (RankedValue V)
    last = (last_parts k.us refl).1.0

    us_are : k.us ≡ front ++ last ∷ []
    us_are = (last_parts k.us refl).1.1

    rows_with : r.rows ≡ front ++ last ∷ k.ls
    rows_with = k.parts ∙ ap (λ zs. zs ++ k.ls) us_are ∙ append_assoc front (last ∷ []) k.ls

    not_before : places last.place front ≡ 0
    not_before = omega (arith, k.once last.place, ap (places last.place) rows_with, places-append last.place front (last ∷ k.ls), places_here last k.ls last.place refl)

    not_behind : places last.place k.ls ≡ 0
    not_behind = omega (arith, k.once last.place, ap (places last.place) rows_with, places-append last.place front (last ∷ k.ls), places_here last k.ls last.place refl)

    end_is : upper_end r.rows boundary ≡ Some (last_parts k.us refl).1.0.place
    end_is = from k.ls refl
      where
        from : (ls : List (Placed K (RankedValue V))) → k.ls ≡ ls → upper_end r.rows boundary ≡ Some (last_parts k.us refl).1.0.place
        from [] e =
            ap (upper_end r.rows) (k.boundary_is ∙ ap (λ zs. place_of (first_row zs)) e)
            ∙ ap (λ rs. place_of (last_row rs)) (k.parts ∙ ap (λ zs. k.us ++ zs) e ∙ append-nil k.us ∙ us_are) ∙ ap place_of (last_pushed front last)
        from (y ∷ ys) e =
            let whole = k.parts ∙ ap (λ zs. k.us ++ zs) e ∙ ap (λ zs. zs ++ y ∷ ys) us_are in
            let none : places y.place ys ≡ 0 = omega (arith, k.once y.place, ap (places y.place) whole, places-append y.place (front ++ last ∷ []) (y ∷ ys), places_here y ys y.place refl) in
            ap (upper_end r.rows) (k.boundary_is ∙ ap (λ zs. place_of (first_row zs)) e)
            ∙ ap (λ rs. place_of (row_before rs y.place)) whole ∙ ap place_of (before_split front last y ys y.place refl none)

    pub end_there : upper_end r.rows boundary ≡ None → ⊥
    end_there none = false≢true (ap is_some (sym none ∙ end_is))

    module _ (p : ℕ) (p_is : Some p ≡ upper_end r.rows boundary) where
      at_last : last.place ≡ p
      at_last = some_of last.place p (sym end_is ∙ sym p_is)

      last_found : row_at r.rows p ≡ Some last
      last_found =
          ap (row_at r.rows) (sym at_last) ∙ ap (λ rs. row_at rs last.place) rows_with ∙ at_right front (last ∷ k.ls) last.place not_before ∙ row_first last k.ls last.place refl

      pub last_stands : IsAt r.rows p
      last_stands = ap is_some last_found

      module _ (n : ℕ) (read : option_map (λ (y : Placed K (RankedValue V)). y.weight) (row_at r.rows p) ≡ Some n) where
        n_is : n ≡ last.weight
        n_is = some_of n last.weight (sym read ∙ ap (option_map (λ (y : Placed K (RankedValue V)). y.weight)) last_found)

        upper_weighs_with : uw ≡ weight_in front + n
        upper_weighs_with = omega (arith, k.upper_weight_is, ap weight_in us_are, weight-append front (last ∷ []), weight-cons last [], n_is)

        upper_long_with : ul ≡ length front + 1
        upper_long_with = omega (arith, k.upper_len_is, ap length us_are, length-append front (last ∷ []))

        pub lowered_fits : (n ≤ uw) × (1 ≤ ul)
        lowered_fits = (omega (arith, upper_weighs_with), omega (arith, upper_long_with))

        abbrev lowered : Placed K (RankedValue V)
        lowered = placed last.place last.key (seat last.value.value false) last.weight

        module _ (was : Bool) (r1 : Recency K (RankedValue V)) (marks : Marks r p false was r1) where
          r1_is : r1 ≡ recency (front ++ lowered ∷ k.ls) r.free
          r1_is =
              marks.1.1.1 ∙ ap (λ (y : Placed K (RankedValue V)). recency (with_value r.rows p (seat y.value.value false)) r.free) (some_of marks.0 last (sym marks.1.0 ∙ last_found))
              ∙ ap (λ q. recency (with_value r.rows q (seat last.value.value false)) r.free) (sym at_last)
              ∙ ap (λ rs. recency (with_value rs last.place (seat last.value.value false)) r.free) rows_with
              ∙ ap (λ rs. recency rs r.free)
              (value-append front (last ∷ k.ls) last.place (seat last.value.value false) ∙ ap (λ zs. zs ++ with_value (last ∷ k.ls) last.place (seat last.value.value false)) (value_absent front last.place (seat last.value.value false) not_before)
              ∙ ap (λ zs. front ++ zs) (value_first last k.ls last.place (seat last.value.value false) refl not_behind))

          lowered_parts : r1.rows ≡ front ++ lowered ∷ k.ls
          lowered_parts = ap (λ (y : Recency K (RankedValue V)). y.rows) r1_is

          lowered_once : Once r1.rows
          lowered_once q =
              omega (arith, k.once q, ap (λ (y : Recency K (RankedValue V)). places q y.rows) marks.1.1.1, places_value r.rows p (seat marks.0.value.value false) q)

          front_say : AllSay true front
          front_say = say_front true front last (subst (AllSay true) us_are k.uppers)

          pub kept_lowered : IsSeated r1 (Some p) w (uw - n) (ul - 1)
          kept_lowered = record {
            us = front;
            ls = lowered ∷ k.ls;
            parts = lowered_parts;
            once = lowered_once;
            short = omega (arith, k.short, ap length rows_with, length-append front (last ∷ k.ls), ap length lowered_parts, length-append front (lowered ∷ k.ls));
            uppers = front_say;
            lowers = (refl, k.lowers);
            boundary_is = ap (λ q. Some q) (sym at_last);
            weight_is = omega (
              arith,
              k.weight_is,
              ap weight_in rows_with,
              weight-append front (last ∷ k.ls),
              weight-cons last k.ls,
              ap weight_in lowered_parts,
              weight-append front (lowered ∷ k.ls),
              weight-cons lowered k.ls,
            );
            upper_weight_is = omega (arith, upper_weighs_with);
            upper_len_is = omega (arith, upper_long_with);
          }

          pub view_lowered : (h : S) → h ≡ hashes → LowersLast s (seated_in r1 h)
          view_lowered h h_is = record {
            front = rows_in front;
            row = row_in last;
            parts = sym upper_is ∙ ap rows_in us_are ∙ in-append front (last ∷ []);
            left =
                shows r1 h front (lowered ∷ k.ls) lowered_parts front_say (refl, k.lowers)
                ∙ ap (λ ls. seated (rows_in front) (row_in last ∷ ls) r1.free h) lower_is
                ∙ ap (λ m. seated (rows_in front) (row_in last ∷ s.lower) m h) (ap (λ (y : Recency K (RankedValue V)). y.free) r1_is ∙ free_is)
                ∙ ap (seated (rows_in front) (row_in last ∷ s.lower) s.free) (h_is ∙ hashes_are);
          }

  -- ---- one more
  module _ (key : K) (v : V) (n p : ℕ) (few : length r.rows < most_rows) (none : row_at r.rows p ≡ None) where
    no_place : places p (k.us ++ k.ls) ≡ 0
    no_place = ap (places p) (sym k.parts) ∙ nowhere r.rows p none

    pub no_seat : row_at (rows s) p ≡ None
    no_seat = at_is p ∙ ap (option_map row_in) none

    abbrev in_upper : Placed K (RankedValue V)
    in_upper = placed p key (seat v true) n

    abbrev in_lower : Placed K (RankedValue V)
    in_lower = placed p key (seat v false) n

    -- in the upper segment
    module _ (r1 : Recency K (RankedValue V)) (r1_is : r1 ≡ recency (in_upper ∷ r.rows) (r.free - 1)) where
      upper_parts : r1.rows ≡ (in_upper ∷ k.us) ++ k.ls
      upper_parts = ap (λ (y : Recency K (RankedValue V)). y.rows) r1_is ∙ ap (λ zs. in_upper ∷ zs) k.parts

      pub kept_upper_more : IsSeated r1 boundary (w + n) (uw + n) (ul + 1)
      kept_upper_more = record {
        us = in_upper ∷ k.us;
        ls = k.ls;
        parts = upper_parts;
        once = λ q. subst (λ rs. places q rs ≤ 1) (sym upper_parts) (once_more [] (k.us ++ k.ls) in_upper once_parts no_place q);
        short = omega (arith, few, ap (λ (y : Recency K (RankedValue V)). length y.rows) r1_is);
        uppers = (refl, k.uppers);
        lowers = k.lowers;
        boundary_is = k.boundary_is;
        weight_is = omega (arith, k.weight_is, ap (λ (y : Recency K (RankedValue V)). weight_in y.rows) r1_is, weight-cons in_upper r.rows);
        upper_weight_is = omega (arith, k.upper_weight_is, weight-cons in_upper k.us);
        upper_len_is = omega (arith, k.upper_len_is);
      }

      pub view_upper_more : (h : S) → h ≡ hashes → seated_in r1 h ≡ seated (placed p key v n ∷ s.upper) s.lower (s.free - 1) s.hashes
      view_upper_more h h_is =
          shows r1 h (in_upper ∷ k.us) k.ls upper_parts (refl, k.uppers) k.lowers
          ∙ ap (λ us. seated (placed p key v n ∷ us) (rows_in k.ls) r1.free h) upper_is
          ∙ ap (λ ls. seated (placed p key v n ∷ s.upper) ls r1.free h) lower_is
          ∙ ap (λ m. seated (placed p key v n ∷ s.upper) s.lower m h) (ap (λ (y : Recency K (RankedValue V)). y.free) r1_is ∙ ap (λ m. m - 1) free_is)
          ∙ ap (seated (placed p key v n ∷ s.upper) s.lower (s.free - 1)) (h_is ∙ hashes_are)

    -- in the lower one
    module _ (r1 : Recency K (RankedValue V)) (r1_is : r1 ≡ recency (put_before r.rows boundary in_lower) (r.free - 1)) where
      lower_parts : r1.rows ≡ k.us ++ in_lower ∷ k.ls
      lower_parts =
          ap (λ (y : Recency K (RankedValue V)). y.rows) r1_is ∙ ap (λ rs. put_before rs boundary in_lower) k.parts
          ∙ put_between k.us k.ls boundary in_lower k.boundary_is once_parts

      pub kept_lower_more : IsSeated r1 (Some p) (w + n) uw ul
      kept_lower_more = record {
        us = k.us;
        ls = in_lower ∷ k.ls;
        parts = lower_parts;
        once = λ q. subst (λ rs. places q rs ≤ 1) (sym lower_parts) (once_more k.us k.ls in_lower once_parts no_place q);
        short = omega (arith, few, ap length k.parts, length-append k.us k.ls, ap length lower_parts, length-append k.us (in_lower ∷ k.ls));
        uppers = k.uppers;
        lowers = (refl, k.lowers);
        boundary_is = refl;
        weight_is = omega (arith, k.weight_is, ap weight_in k.parts, weight-append k.us k.ls, ap weight_in lower_parts, weight-append k.us (in_lower ∷ k.ls), weight-cons in_lower k.ls);
        upper_weight_is = k.upper_weight_is;
        upper_len_is = k.upper_len_is;
      }

      pub view_lower_more : (h : S) → h ≡ hashes → seated_in r1 h ≡ seated s.upper (placed p key v n ∷ s.lower) (s.free - 1) s.hashes
      view_lower_more h h_is =
          shows r1 h k.us (in_lower ∷ k.ls) lower_parts k.uppers (refl, k.lowers)
          ∙ ap (λ us. seated us (placed p key v n ∷ rows_in k.ls) r1.free h) upper_is
          ∙ ap (λ ls. seated s.upper (placed p key v n ∷ ls) r1.free h) lower_is
          ∙ ap (λ m. seated s.upper (placed p key v n ∷ s.lower) m h) (ap (λ (y : Recency K (RankedValue V)). y.free) r1_is ∙ ap (λ m. m - 1) free_is)
          ∙ ap (seated s.upper (placed p key v n ∷ s.lower) (s.free - 1)) (h_is ∙ hashes_are)
