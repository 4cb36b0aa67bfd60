-- What a test that answers by what it is shown leaves of the last entries of both segments.
use Rattle.std.proofs.Common.{◌≡◌, ℕ, ◌+◌, ◌-◌, cond, not, List, [], ◌∷◌, ◌++◌, length, map, take, drop, refl, sym, ap, ◌∙◌, subst, inl, inr, arith, true, false, append_assoc, append-nil}
use Rattle.std.specs.Prelude.{Bool, filter, reverse, nat_lt}
use Rattle.std.specs.Borrow.{Bor}
use Rattle.std.specs.List.{FoldsTo}
use Rattle.std.proofs.lemmas.List.{length-append, length-map, reverse-reverse, reverse-append, map-append}
use Rattle.lru_owned_cache.specs.declared.entry.Entry.{Entry}
use Rattle.lru_owned_cache.specs.Entries.{Asks, kept_of, gone_of}
use Rattle.lru_owned_cache.proofs.Lists.{same_head, same_tail}
use Rattle.lru_owned_cache.proofs.Rows.{by_bool}
use Rattle.lru_deadlines.specs.declared.deadlines.Until.{Until}
use Rattle.lru_deadlines.specs.Deadlines.{is_past, last_of, before_last}
use Rattle.lru_segmented.specs.Segmented.{Segmented, entries, with_segments}
use Rattle.lru_segmented.specs.Retained.{RetainsLast}
use Rattle.lru_segmented.specs.SegmentedDeadlines.{swept, Sweeps}

not_not : (b : Bool) → not (not b) ≡ b
not_not true = refl
not_not false = refl

map_reverse : {A B : Type 0} (f : A → B) (xs : List A) → map f (reverse xs) ≡ reverse (map f xs)
map_reverse f [] = refl
map_reverse f (x ∷ xs) =
    ap (map f) (reverse-append (x ∷ []) xs) ∙ map-append f (reverse xs) (x ∷ []) ∙ ap (λ ys. ys ++ f x ∷ []) (map_reverse f xs) ∙ sym (reverse-append (f x ∷ []) (map f xs))

before : {A : Type 0} (xs ys : List A) → take (length xs) (xs ++ ys) ≡ xs
before [] ys = refl
before (x ∷ xs) ys = ap (λ zs. x ∷ zs) (before xs ys)

after : {A : Type 0} (xs ys : List A) → drop (length xs) (xs ++ ys) ≡ ys
after [] ys = refl
after (x ∷ xs) ys = after xs ys

-- what is alike of two lists together is alike of each
both_alike : {A B : Type 0} (f g : A → B) (xs ys : List A) → map f (xs ++ ys) ≡ map g (xs ++ ys) → (map f xs ≡ map g xs) × (map f ys ≡ map g ys)
both_alike f g [] ys e = (refl, e)
both_alike f g (x ∷ xs) ys e =
    let rest = both_alike f g xs ys (same_tail (f x) (g x) (map f (xs ++ ys)) (map g (xs ++ ys)) e) in
    (ap (λ b. b ∷ map f xs) (same_head (f x) (g x) (map f (xs ++ ys)) (map g (xs ++ ys)) e) ∙ ap (λ bs. g x ∷ bs) rest.0, rest.1)

-- a test that stays as it is, and answers so of each
module _ {A F : Type 0} (R : F → A × Bool → F → Type 0) (test : A → Bool) (f : F) (each : (a : A × Bool) (q : F) → R f a q → (q ≡ f) × (a.1 ≡ test a.0)) where
  answers : (xs : List (A × Bool)) (p q : F) → p ≡ f → FoldsTo R p xs q → map (λ a. a.1) xs ≡ map (λ a. test a.0) xs
  answers [] p q is steps = refl
  answers (x ∷ xs) p q is (j, called, steps) =
      let told = each x j (subst (λ s. R s x j) is called) in
      ap (λ b. b ∷ map (λ a. a.1) xs) told.1 ∙ ap (λ bs. test x.0 ∷ bs) (answers xs j q told.0 steps)

  answers_back : (xs : List (A × Bool)) (q : F) → FoldsTo R f (reverse xs) q → map (λ a. a.1) xs ≡ map (λ a. test a.0) xs
  answers_back xs q steps =
      sym (reverse-reverse (map (λ a. a.1) xs)) ∙ ap reverse (sym (map_reverse (λ a. a.1) xs) ∙ answers (reverse xs) f q refl steps ∙ map_reverse (λ a. test a.0) xs)
      ∙ reverse-reverse (map (λ a. test a.0) xs)

module _ {K V : Type 0} (time : ℕ) where
  abbrev stays : Entry K (Until V) → Bool
  stays e = not (is_past time e)

  kept_are : (asked : List (Entry K (Until V) × Bool)) → map (λ a. a.1) asked ≡ map (λ a. stays a.0) asked → kept_of asked ≡ filter stays (map (λ a. a.0) asked)
  kept_are [] is = refl
  kept_are (a ∷ rest) is =
      let here : a.1 ≡ stays a.0 = same_head a.1 (stays a.0) (map (λ x. x.1) rest) (map (λ x. stays x.0) rest) is in
      let others = kept_are rest (same_tail a.1 (stays a.0) (map (λ x. x.1) rest) (map (λ x. stays x.0) rest) is) in
      ap (λ b. map (λ (x : Entry K (Until V) × Bool). x.0) (cond b (a ∷ filter (λ x. x.1) rest) (filter (λ x. x.1) rest))) here
      ∙ by_bool (stays a.0)
      (λ yes. ap (λ b. map (λ (x : Entry K (Until V) × Bool). x.0) (cond b (a ∷ filter (λ x. x.1) rest) (filter (λ x. x.1) rest))) yes ∙ ap (λ es. a.0 ∷ es) others
      ∙ sym (ap (λ b. cond b (a.0 ∷ filter stays (map (λ x. x.0) rest)) (filter stays (map (λ x. x.0) rest))) yes))
      (λ no. ap (λ b. map (λ (x : Entry K (Until V) × Bool). x.0) (cond b (a ∷ filter (λ x. x.1) rest) (filter (λ x. x.1) rest))) no ∙ others
      ∙ sym (ap (λ b. cond b (a.0 ∷ filter stays (map (λ x. x.0) rest)) (filter stays (map (λ x. x.0) rest))) no))

  gone_are : (asked : List (Entry K (Until V) × Bool)) → map (λ a. a.1) asked ≡ map (λ a. stays a.0) asked → gone_of asked ≡ filter (is_past time) (map (λ a. a.0) asked)
  gone_are [] is = refl
  gone_are (a ∷ rest) is =
      let here : not a.1 ≡ is_past time a.0 = ap not (same_head a.1 (stays a.0) (map (λ x. x.1) rest) (map (λ x. stays x.0) rest) is) ∙ not_not (is_past time a.0) in
      let others = gone_are rest (same_tail a.1 (stays a.0) (map (λ x. x.1) rest) (map (λ x. stays x.0) rest) is) in
      ap (λ b. map (λ (x : Entry K (Until V) × Bool). x.0) (cond b (a ∷ filter (λ x. not x.1) rest) (filter (λ x. not x.1) rest))) here
      ∙ by_bool (is_past time a.0)
      (λ yes. ap (λ b. map (λ (x : Entry K (Until V) × Bool). x.0) (cond b (a ∷ filter (λ x. not x.1) rest) (filter (λ x. not x.1) rest))) yes ∙ ap (λ es. a.0 ∷ es) others
      ∙ sym (ap (λ b. cond b (a.0 ∷ filter (is_past time) (map (λ x. x.0) rest)) (filter (is_past time) (map (λ x. x.0) rest))) yes))
      (λ no. ap (λ b. map (λ (x : Entry K (Until V) × Bool). x.0) (cond b (a ∷ filter (λ x. not x.1) rest) (filter (λ x. not x.1) rest))) no ∙ others
      ∙ sym (ap (λ b. cond b (a.0 ∷ filter (is_past time) (map (λ x. x.0) rest)) (filter (is_past time) (map (λ x. x.0) rest))) no))

  -- what is left of a segment whose last entries were asked of
  swept_are : (most : ℕ) (all front : List (Entry K (Until V))) (asked : List (Entry K (Until V) × Bool)) → all ≡ front ++ map (λ a. a.0) asked → length front ≡ length all - most →
      map (λ a. a.1) asked ≡ map (λ a. stays a.0) asked → front ++ kept_of asked ≡ swept time most all
  swept_are most all front asked parts long told =
      let front_is : before_last most all ≡ front = ap (λ n. take n all) (sym long) ∙ ap (take (length front)) parts ∙ before front (map (λ a. a.0) asked) in
      let back_is : last_of most all ≡ map (λ a. a.0) asked = ap (λ n. drop n all) (sym long) ∙ ap (drop (length front)) parts ∙ after front (map (λ a. a.0) asked) in
      ap (λ es. es ++ kept_of asked) (sym front_is) ∙ ap (λ es. before_last most all ++ es) (kept_are asked told ∙ ap (filter stays) (sym back_is))

  -- so the entries go that are past their deadline, of those that were asked of
  module _ {F G S : Type 0} (step : F → Bor K → Bor (Until V) → ℕ → Bool → F → Type 0) (keep : F) (Step : G → Entry K (Until V) → G → Type 0) (visit : G) (most : ℕ) (old new : Segmented K (Until V) S)
      (s : RetainsLast step keep Step visit most old new) (each : (k : Bor K) (u : Bor (Until V)) (w : ℕ) (b : Bool) (q : F) → step keep k u w b q → (q ≡ keep) × (b ≡ not (nat_lt u.now.deadline time))) where
    told : map (λ a. a.1) (s.upper_asked ++ s.lower_asked) ≡ map (λ a. stays a.0) (s.upper_asked ++ s.lower_asked)
    told =
        answers_back (λ p a q. Asks step p a.0 a.1 q) stays keep
        (λ a q asks.
        let step_is = each asks.key asks.value a.0.weight a.1 q asks.called in
        (step_is.0, step_is.1 ∙ ap (λ (u : Until V). not (nat_lt u.deadline time)) asks.shows_value)) (s.upper_asked ++ s.lower_asked) s.left s.called

    told_each : (map (λ a. a.1) s.upper_asked ≡ map (λ a. stays a.0) s.upper_asked) × (map (λ a. a.1) s.lower_asked ≡ map (λ a. stays a.0) s.lower_asked)
    told_each = both_alike (λ a. a.1) (λ a. stays a.0) s.upper_asked s.lower_asked told

    upper_long : length old.upper ≡ length s.upper_front + length s.upper_asked
    upper_long = omega (arith, ap length s.upper_parts, length-append s.upper_front (map (λ a. a.0) s.upper_asked), length-map s.upper_asked (λ (a : Entry K (Until V) × Bool). a.0))

    lower_long : length old.lower ≡ length s.lower_front + length s.lower_asked
    lower_long = omega (arith, ap length s.lower_parts, length-append s.lower_front (map (λ a. a.0) s.lower_asked), length-map s.lower_asked (λ (a : Entry K (Until V) × Bool). a.0))

    asked_long : length s.upper_asked + length s.lower_asked ≡ length (s.upper_asked ++ s.lower_asked)
    asked_long = sym (length-append s.upper_asked s.lower_asked)

    upper_front_long : length s.upper_front ≡ length old.upper - (most - length old.lower)
    upper_front_long =
        elim s.lower_first [
          | inl none ↦ omega (arith, s.many, asked_long, upper_long, lower_long, length-append old.upper old.lower, ap length none)
          | inr none ↦ omega (arith, s.many, asked_long, upper_long, lower_long, length-append old.upper old.lower, ap length none)
        ]

    lower_front_long : length s.lower_front ≡ length old.lower - most
    lower_front_long =
        elim s.lower_first [
          | inl none ↦ omega (arith, s.many, asked_long, upper_long, lower_long, length-append old.upper old.lower, ap length none)
          | inr none ↦ omega (arith, s.many, asked_long, upper_long, lower_long, length-append old.upper old.lower, ap length none)
        ]

    -- the entries that were asked of are the last of all
    whole : (front : List (Entry K (Until V))) × ((entries old ≡ front ++ map (λ a. a.0) (s.upper_asked ++ s.lower_asked)) × (length front ≡ length s.upper_front + length s.lower_front))
    whole =
        elim s.lower_first [
          | inl none ↦ (
            s.upper_front ++ s.lower_front,
            (
              ap (λ es. es ++ old.lower) (s.upper_parts ∙ ap (λ xs. s.upper_front ++ map (λ a. a.0) xs) none ∙ append-nil s.upper_front)
                  ∙ ap (λ es. s.upper_front ++ es) s.lower_parts
                  ∙ sym (append_assoc s.upper_front s.lower_front (map (λ a. a.0) s.lower_asked))
                  ∙ ap (λ xs. (s.upper_front ++ s.lower_front) ++ map (λ a. a.0) (xs ++ s.lower_asked)) (sym none),
              length-append s.upper_front s.lower_front,
            ),
          )
          | inr none ↦ (
            s.upper_front,
            (
              ap (λ es. es ++ old.lower) s.upper_parts
                  ∙ ap (λ es. (s.upper_front ++ map (λ a. a.0) s.upper_asked) ++ es) (s.lower_parts ∙ ap (λ es. es ++ map (λ a. a.0) s.lower_asked) none)
                  ∙ append_assoc s.upper_front (map (λ a. a.0) s.upper_asked) (map (λ a. a.0) s.lower_asked)
                  ∙ ap (λ es. s.upper_front ++ es) (sym (map-append (λ a. a.0) s.upper_asked s.lower_asked)),
              omega (arith, ap length none),
            ),
          )
        ]

    back_is : last_of most (entries old) ≡ map (λ a. a.0) (s.upper_asked ++ s.lower_asked)
    back_is =
        ap (λ n. drop n (entries old)) (omega (arith, whole.1.1, s.many, asked_long, upper_long, lower_long, length-append old.upper old.lower))
        ∙ ap (drop (length whole.0)) whole.1.0 ∙ after whole.0 (map (λ a. a.0) (s.upper_asked ++ s.lower_asked))

    gone_is : gone_of (s.upper_asked ++ s.lower_asked) ≡ filter (is_past time) (last_of most (entries old))
    gone_is = gone_are (s.upper_asked ++ s.lower_asked) told ∙ ap (filter (is_past time)) (sym back_is)

    pub sweeps : Sweeps Step visit time most old new
    sweeps = (
      (s.shown.0, subst (λ es. FoldsTo Step visit (reverse es) s.shown.0) gone_is s.shown.1),
      s.kept
          ∙ ap (λ es. with_segments old es (s.lower_front ++ kept_of s.lower_asked)) (swept_are (most - length old.lower) old.upper s.upper_front s.upper_asked s.upper_parts upper_front_long told_each.0)
          ∙ ap (with_segments old (swept time (most - length old.lower) old.upper)) (swept_are most old.lower s.lower_front s.lower_asked s.lower_parts lower_front_long told_each.1),
    )
