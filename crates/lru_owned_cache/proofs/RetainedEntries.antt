-- The rows that stay, by what a test answers.
use Rattle.std.proofs.Common.{◌≡◌, ℕ, ◌+◌, ◌-◌, ◌<◌, ◌≤◌, List, [], ◌∷◌, ◌++◌, length, map, Some, None, refl, sym, ap, ◌∙◌, subst, arith, true, false, append_assoc, append-nil}
use Rattle.std.specs.Prelude.{Bool, is_some, reverse, count_by, ◌==◌, min}
use Rattle.std.specs.Option.{option_map, option_map_or}
use Rattle.std.specs.Borrow.{Bor}
use Rattle.std.specs.List.{FoldsTo}
use Rattle.std.proofs.lemmas.List.{length-append, length-map, map-append}
use Rattle.lru_rows.specs.declared.rows.Taken.{Taken}
use Rattle.lru_rows.specs.Rows.{Placed, Recency, recency, row_at, last_row, IsAt, IsRecency, promoted, PopsLast, without as rows_without}
use Rattle.lru_owned_cache.specs.declared.entry.Entry.{Entry}
use Rattle.lru_owned_cache.specs.Entries.{entry, Asks, gone_of, entry_in, entries_in, weight_in}
use Rattle.lru_owned_cache.specs.Partings.{Asking, AsksLast, PutsBack, RetainsLastRows, RetainsRows}
use Rattle.lru_owned_cache.proofs.Lists.{same_head, same_tail, shown_before}
use Rattle.lru_owned_cache.proofs.Rows.{length-entries, some_of, row_last, without_last, last_told, none_told, weight-append, weight-cons}

-- lists that end alike are alike before that
same_front : {A : Type 0} (xs ys : List A) (a b : A) → xs ++ a ∷ [] ≡ ys ++ b ∷ [] → (xs ≡ ys) × (a ≡ b)
same_front [] [] a b e = (refl, same_head a b [] [] e)
same_front [] (y ∷ ys) a b e = absurd (omega (arith, ap length e, length-append ys (b ∷ [])))
same_front (x ∷ xs) [] a b e = absurd (omega (arith, ap length e, length-append xs (a ∷ [])))
same_front (x ∷ xs) (y ∷ ys) a b e =
    let rest = same_front xs ys a b (same_tail x y (xs ++ a ∷ []) (ys ++ b ∷ []) e) in
    (ap (λ zs. x ∷ zs) rest.0 ∙ ap (λ z. z ∷ ys) (same_head x y (xs ++ a ∷ []) (ys ++ b ∷ []) e), rest.1)

-- the last of two lists is that of the second, if it has any
split_end : {A : Type 0} (kept rest front : List A) (x : A) → kept ++ rest ≡ front ++ x ∷ [] → length kept < length (kept ++ rest) → (others : List A) × ((rest ≡ others ++ x ∷ []) × (front ≡ kept ++ others))
split_end [] rest front x e short = (front, (e, refl))
split_end (k ∷ ks) rest [] x e short = absurd (omega (arith, ap length e, short))
split_end (k ∷ ks) rest (f ∷ fs) x e short =
    let tail = split_end ks rest fs x (same_tail k f (ks ++ rest) (fs ++ x ∷ []) e) (omega (arith, short)) in
    (tail.0, (tail.1.0, ap (λ y. y ∷ fs) (sym (same_head k f (ks ++ rest) (fs ++ x ∷ []) e)) ∙ ap (λ ys. k ∷ ys) tail.1.1))

-- lists of as many items that go on alike begin alike
same_parts : {A : Type 0} (xs zs ys ws : List A) → xs ++ ys ≡ zs ++ ws → length xs ≡ length zs → (xs ≡ zs) × (ys ≡ ws)
same_parts [] [] ys ws e long = (refl, e)
same_parts [] (z ∷ zs) ys ws e long = absurd (omega (arith, long))
same_parts (x ∷ xs) [] ys ws e long = absurd (omega (arith, long))
same_parts (x ∷ xs) (z ∷ zs) ys ws e long =
    let rest = same_parts xs zs ys ws (same_tail x z (xs ++ ys) (zs ++ ws) e) (omega (arith, long)) in
    (ap (λ bs. x ∷ bs) rest.0 ∙ ap (λ a. a ∷ zs) (same_head x z (xs ++ ys) (zs ++ ws) e), rest.1)

pub none_asked : {K V F G : Type 0} (step : F → Bor K → Bor V → ℕ → Bool → F → Type 0) (keep : F) (Step : G → Entry K V → G → Type 0) (visit : G) (most : ℕ) (old : Recency K V)
    (used left : ℕ) → used ≡ weight_in old.rows → left ≡ min most (length old.rows) → Asking step keep keep Step visit visit most old old used left 0
none_asked step keep Step visit most old used left is left_is = record {
  kept = [];
  rest = old.rows;
  done = [];
  asked = [];
  now_is = refl;
  parts = sym (append-nil old.rows);
  all = refl;
  left_is = omega (arith, left_is);
  called = refl;
  shown = refl;
  are_kept = refl;
  count_is = refl;
  used_is = is;
  free_is = refl;
}

module _ {K V F G : Type 0} {step : F → Bor K → Bor V → ℕ → Bool → F → Type 0} {keep : F} {Step : G → Entry K V → G → Type 0} {visit : G} {most : ℕ} {old : Recency K V} where
  module _ {last : F} {seen : G} {now : Recency K V} {used left count : ℕ} (s : Asking step keep last Step visit seen most old now used left count) where
    long : length old.rows ≡ length s.rest + length s.done
    long = ap length s.parts ∙ length-append s.rest s.done

    now_long : length now.rows ≡ length s.kept + length s.rest
    now_long = ap length s.now_is ∙ length-append s.kept s.rest

    -- what is not told has no rows
    pub not_untold : 0 < left → None ≡ option_map (λ (x : Placed K V). x.place) (last_row now.rows) → ⊥
    not_untold more told = absurd (omega (arith, more, s.left_is, long, now_long, ap length (none_told now.rows told)))

    -- as many are kept as rows stand at most
    pub few_kept : (bound : ℕ) → 0 < left → length now.rows ≤ bound → count < bound
    few_kept bound more short = omega (arith, more, short, s.left_is, long, now_long, s.count_is)

    pub all_asked : left ≡ 0 → AsksLast step keep Step visit most old now count
    all_asked over = record {
      kept = s.kept;
      rest = s.rest;
      asked = s.asked;
      left = last;
      all = ap entries_in s.parts ∙ map-append entry_in s.rest s.done ∙ ap (λ es. entries_in s.rest ++ es) (sym s.all);
      many = omega (arith, over, s.left_is, length-map s.asked (λ (a : Entry K V × Bool). a.0), ap length s.all, length-entries s.done);
      called = s.called;
      shown = (seen, s.shown);
      now_is = s.now_is;
      are_kept = s.are_kept;
      count_is = s.count_is;
      free_is = s.free_is;
    }

    -- the row that is asked of
    pub record Asked (p : ℕ) : Type 0 where
      pub row : Placed K V
      pub others : List (Placed K V)
      pub place_is : row.place ≡ p
      pub rest_is : s.rest ≡ others ++ row ∷ []
      pub now_is : now.rows ≡ (s.kept ++ others) ++ row ∷ []
      pub at : row_at now.rows p ≡ Some row
      pub without_is : rows_without now.rows p ≡ s.kept ++ others

    pub asked_row : (eq : K → K → Bool) → IsRecency eq now.rows → 0 < left → (p : ℕ) → Some p ≡ option_map (λ (x : Placed K V). x.place) (last_row now.rows) → Asked p
    asked_row eq valid more p told =
        let told_last = last_told now.rows p told in
        let x = told_last.0 in
        let front = told_last.1.1.0 in
        let rows_are : now.rows ≡ front ++ x ∷ [] = told_last.1.1.1 in
        let parts = split_end s.kept s.rest front x (sym s.now_is ∙ rows_are) (omega (arith, more, s.left_is, long, ap length s.now_is, now_long)) in
        let once : (q : ℕ) → count_by (λ (y : Placed K V). y.place == q) (front ++ x ∷ []) ≤ 1 = λ q. subst (λ rs. count_by (λ (y : Placed K V). y.place == q) rs ≤ 1) rows_are (valid.places q) in
        record {
          row = x;
          others = parts.0;
          place_is = told_last.1.0;
          rest_is = parts.1.0;
          now_is = rows_are ∙ ap (λ rs. rs ++ x ∷ []) parts.1.1;
          at = ap (λ rs. row_at rs p) rows_are ∙ ap (row_at (front ++ x ∷ [])) (sym told_last.1.0) ∙ row_last front x once;
          without_is = ap (λ rs. rows_without rs p) rows_are ∙ ap (rows_without (front ++ x ∷ [])) (sym told_last.1.0) ∙ without_last front x once ∙ parts.1.1;
        }

    module _ {p : ℕ} (a : Asked p) where
      pub row_stands : IsAt now.rows p
      row_stands = ap is_some a.at

      -- what the test was given is the entry
      pub asks : (k : Bor K) (v : Bor V) (w : ℕ) → option_map (λ (x : Placed K V). x.key) (row_at now.rows p) ≡ Some k.now → option_map (λ (x : Placed K V). x.value) (row_at now.rows p) ≡ Some v.now →
          option_map (λ (x : Placed K V). x.weight) (row_at now.rows p) ≡ Some w → (answer : Bool) (next : F) → step last k v w answer next → Asks step last (entry_in a.row) answer next
      asks k v w key_is value_is weight_is answer next called = record {
        key = k;
        value = v;
        shows_key = sym (some_of a.row.key k.now (sym (ap (option_map (λ (x : Placed K V). x.key)) a.at) ∙ key_is));
        shows_value = sym (some_of a.row.value v.now (sym (ap (option_map (λ (x : Placed K V). x.value)) a.at) ∙ value_is));
        called = subst (λ n. step last k v n answer next) (sym (some_of a.row.weight w (sym (ap (option_map (λ (x : Placed K V). x.weight)) a.at) ∙ weight_is))) called;
      }

      front_heavy : weight_in now.rows ≡ weight_in (s.kept ++ a.others) + a.row.weight
      front_heavy = omega (arith, ap weight_in a.now_is, weight-append (s.kept ++ a.others) (a.row ∷ []), weight-cons a.row [])

      front_long : length now.rows ≡ length (s.kept ++ a.others) + 1
      front_long = ap length a.now_is ∙ length-append (s.kept ++ a.others) (a.row ∷ [])

      parts_now : old.rows ≡ a.others ++ a.row ∷ s.done
      parts_now = s.parts ∙ ap (λ rs. rs ++ s.done) a.rest_is ∙ append_assoc a.others (a.row ∷ []) s.done

      called_now : (answer : Bool) (next : F) → Asks step last (entry_in a.row) answer next → FoldsTo (λ p x q. Asks step p x.0 x.1 q) keep (reverse ((entry_in a.row, answer) ∷ s.asked)) next
      called_now answer next asks = shown_before (λ p x q. Asks step p x.0 x.1 q) keep last s.asked (entry_in a.row, answer) next (entry_in a.row, answer) refl asks s.called

      -- a row that stays goes first
      module _ (more : 0 < left) (then : Recency K V) (is : then ≡ recency (promoted now.rows p) now.free) where
        first : then.rows ≡ a.row ∷ (s.kept ++ a.others)
        first =
            ap (λ (x : Recency K V). x.rows) is ∙ ap (λ o. option_map_or (λ x. x ∷ rows_without now.rows p) o now.rows) a.at
            ∙ ap (λ rs. a.row ∷ rs) a.without_is

        pub one_kept : (next : F) → Asks step last (entry_in a.row) true next → Asking step keep next Step visit seen most old then used (left - 1) (count + 1)
        one_kept next asks = record {
          kept = a.row ∷ s.kept;
          rest = a.others;
          done = a.row ∷ s.done;
          asked = (entry_in a.row, true) ∷ s.asked;
          now_is = first;
          parts = parts_now;
          all = ap (λ es. entry_in a.row ∷ es) s.all;
          left_is = omega (arith, more, s.left_is);
          called = called_now true next asks;
          shown = s.shown;
          are_kept = ap (λ es. entry_in a.row ∷ es) s.are_kept;
          count_is = omega (arith, s.count_is);
          used_is = omega (arith, s.used_is, front_heavy, ap weight_in first, weight-cons a.row (s.kept ++ a.others));
          free_is = omega (arith, s.free_is, front_long, ap length first, ap (λ (x : Recency K V). x.free) is);
        }

      pub not_none : now.rows ≡ [] → ⊥
      not_none none = absurd (omega (arith, front_long, ap length none))

      -- a row that goes is the last
      module _ {t : Taken K V} {then : Recency K V} (pops : PopsLast now (Some t) then) where
        same : (pops.1 ≡ s.kept ++ a.others) × (pops.0 ≡ a.row)
        same = same_front pops.1 (s.kept ++ a.others) pops.0 a.row (sym pops.2 ∙ a.now_is)

        gone_rows : then.rows ≡ s.kept ++ a.others
        gone_rows = ap (λ (x : Recency K V). x.rows) pops.4 ∙ same.0

        gone_is : entry t.key t.value t.weight ≡ entry_in a.row
        gone_is = ap (λ (x : Taken K V). entry x.key x.value x.weight) pops.3 ∙ ap entry_in same.1

        gone_weight : t.weight ≡ a.row.weight
        gone_weight = ap (λ (e : Entry K V). e.weight) gone_is

        pub gone_light : t.weight ≤ used
        gone_light = omega (arith, s.used_is, front_heavy, gone_weight)

        pub one_gone : 0 < left → (next : F) → Asks step last (entry_in a.row) false next → (after : G) → Step seen (entry t.key t.value t.weight) after → Asking step keep next Step visit after most old then (used - t.weight) (left - 1) count
        one_gone more next asks after visited = record {
          kept = s.kept;
          rest = a.others;
          done = a.row ∷ s.done;
          asked = (entry_in a.row, false) ∷ s.asked;
          now_is = gone_rows;
          parts = parts_now;
          all = ap (λ es. entry_in a.row ∷ es) s.all;
          left_is = omega (arith, more, s.left_is);
          called = called_now false next asks;
          shown = shown_before Step visit seen (gone_of s.asked) (entry_in a.row) after (entry t.key t.value t.weight) gone_is visited s.shown;
          are_kept = s.are_kept;
          count_is = s.count_is;
          used_is = omega (arith, s.used_is, front_heavy, gone_weight, ap weight_in gone_rows);
          free_is = omega (arith, s.free_is, front_long, ap length gone_rows, ap (λ (x : Recency K V). x.free) pops.4);
        }

  -- where it was asked of all, those that stay are all that is left
  module _ {now : Recency K V} {count : ℕ} (s : AsksLast step keep Step visit most old now count) where
    parts_long : length old.rows ≡ length s.rest + length s.asked
    parts_long = sym (length-entries old.rows) ∙ ap length s.all ∙ length-append (entries_in s.rest) (map (λ (a : Entry K V × Bool). a.0) s.asked) ∙ omega (arith, length-entries s.rest, length-map s.asked (λ (a : Entry K V × Bool). a.0))

    pub retains_rows : length old.rows ≤ most → RetainsRows step keep old now
    retains_rows all = from s.rest refl
      where
        from : (rest : List (Placed K V)) → s.rest ≡ rest → RetainsRows step keep old now
        from (x ∷ xs) is = absurd (omega (arith, all, s.many, parts_long, ap length is))
        from [] is = record {
          asked = s.asked;
          left = s.left;
          all = sym (s.all ∙ ap (λ rs. entries_in rs ++ map (λ (a : Entry K V × Bool). a.0) s.asked) is);
          called = s.called;
          kept = ap entries_in (s.now_is ∙ ap (λ rs. s.kept ++ rs) is ∙ append-nil s.kept) ∙ s.are_kept;
          free_is = s.free_is;
        }

    pub count_fits : count ≤ length now.rows
    count_fits = omega (arith, s.count_is, ap length s.now_is, length-append s.kept s.rest)

    -- else they go back behind the others
    module _ {new : Recency K V} (b : PutsBack count now new) where
      back : (b.moved ≡ s.kept) × (b.rest ≡ s.rest)
      back = same_parts b.moved s.kept b.rest s.rest (sym b.parts ∙ s.now_is) (b.count_is ∙ s.count_is)

      rows_back : new.rows ≡ s.rest ++ s.kept
      rows_back = ap (λ (x : Recency K V). x.rows) b.left ∙ ap (λ rs. rs ++ b.moved) back.1 ∙ ap (λ rs. s.rest ++ rs) back.0

      back_long : length now.rows ≡ length new.rows
      back_long = omega (arith, ap length s.now_is, length-append s.kept s.rest, ap length rows_back, length-append s.rest s.kept)

      pub as_heavy : weight_in now.rows ≡ weight_in new.rows
      as_heavy = omega (arith, ap weight_in s.now_is, weight-append s.kept s.rest, ap weight_in rows_back, weight-append s.rest s.kept)

      pub retains_last_rows : RetainsLastRows step keep Step visit most old new
      retains_last_rows = record {
        front = entries_in s.rest;
        asked = s.asked;
        left = s.left;
        all = s.all;
        many = s.many;
        called = s.called;
        shown = s.shown;
        kept = ap entries_in rows_back ∙ map-append entry_in s.rest s.kept ∙ ap (λ es. entries_in s.rest ++ es) s.are_kept;
        free_is = omega (arith, s.free_is, back_long, ap (λ (x : Recency K V). x.free) b.left);
      }
