-- What a test that answers by what it is shown leaves of the last entries.
use Rattle.std.proofs.Common.{◌≡◌, ℕ, ◌-◌, cond, not, List, [], ◌∷◌, ◌++◌, length, map, take, drop, refl, sym, ap, ◌∙◌, subst, arith, true, false}
use Rattle.std.specs.Prelude.{Bool, filter, reverse, nat_lt}
use Rattle.std.specs.Borrow.{Bor}
use Rattle.std.specs.List.{FoldsTo}
use Rattle.std.proofs.lemmas.List.{length-append, length-map, reverse-reverse, reverse-append, map-append}
use Rattle.lru_owned_cache.specs.declared.entry.Entry.{Entry}
use Rattle.lru_owned_cache.specs.Cache.{Cached, RetainsLast, with_entries}
use Rattle.lru_owned_cache.specs.Entries.{Asks, kept_of, gone_of}
use Rattle.lru_deadlines.specs.declared.deadlines.Until.{Until}
use Rattle.lru_deadlines.specs.Deadlines.{is_past, last_of, before_last, Sweeps}

by_bool : {P : Type 0} (b : Bool) → (b ≡ true → P) → (b ≡ false → P) → P
by_bool true here other = here refl
by_bool false here other = other refl

not_not : (b : Bool) → not (not b) ≡ b
not_not true = refl
not_not false = refl

same_head : {A : Type 0} (a b : A) (xs ys : List A) → a ∷ xs ≡ b ∷ ys → a ≡ b
same_head a b xs ys e = cc

same_tail : {A : Type 0} (a b : A) (xs ys : List A) → a ∷ xs ≡ b ∷ ys → xs ≡ ys
same_tail a b xs ys e = cc

map_reverse : {A B : Type 0} (f : A → B) (xs : List A) → map f (reverse xs) ≡ reverse (map f xs)
map_reverse f [] = refl
map_reverse f (x ∷ xs) =
    ap (map f) (reverse-append (x ∷ []) xs) ∙ map-append f (reverse xs) (x ∷ []) ∙ ap (λ ys. ys ++ f x ∷ []) (map_reverse f xs) ∙ sym (reverse-append (f x ∷ []) (map f xs))

before : {A : Type 0} (xs ys : List A) → take (length xs) (xs ++ ys) ≡ xs
before [] ys = refl
before (x ∷ xs) ys = ap (λ zs. x ∷ zs) (before xs ys)

after : {A : Type 0} (xs ys : List A) → drop (length xs) (xs ++ ys) ≡ ys
after [] ys = refl
after (x ∷ xs) ys = after xs ys

-- a test that stays as it is, and answers so of each
module _ {A F : Type 0} (R : F → A × Bool → F → Type 0) (test : A → Bool) (f : F) (each : (a : A × Bool) (q : F) → R f a q → (q ≡ f) × (a.1 ≡ test a.0)) where
  answers : (xs : List (A × Bool)) (p q : F) → p ≡ f → FoldsTo R p xs q → map (λ a. a.1) xs ≡ map (λ a. test a.0) xs
  answers [] p q is steps = refl
  answers (x ∷ xs) p q is (j, called, steps) =
      let told = each x j (subst (λ s. R s x j) is called) in
      ap (λ b. b ∷ map (λ a. a.1) xs) told.1 ∙ ap (λ bs. test x.0 ∷ bs) (answers xs j q told.0 steps)

  answers_back : (xs : List (A × Bool)) (q : F) → FoldsTo R f (reverse xs) q → map (λ a. a.1) xs ≡ map (λ a. test a.0) xs
  answers_back xs q steps =
      sym (reverse-reverse (map (λ a. a.1) xs)) ∙ ap reverse (sym (map_reverse (λ a. a.1) xs) ∙ answers (reverse xs) f q refl steps ∙ map_reverse (λ a. test a.0) xs)
      ∙ reverse-reverse (map (λ a. test a.0) xs)

module _ {K V : Type 0} (time : ℕ) where
  abbrev stays : Entry K (Until V) → Bool
  stays e = not (is_past time e)

  kept_are : (asked : List (Entry K (Until V) × Bool)) → map (λ a. a.1) asked ≡ map (λ a. stays a.0) asked → kept_of asked ≡ filter stays (map (λ a. a.0) asked)
  kept_are [] is = refl
  kept_are (a ∷ rest) is =
      let here : a.1 ≡ stays a.0 = same_head a.1 (stays a.0) (map (λ x. x.1) rest) (map (λ x. stays x.0) rest) is in
      let others = kept_are rest (same_tail a.1 (stays a.0) (map (λ x. x.1) rest) (map (λ x. stays x.0) rest) is) in
      ap (λ b. map (λ (x : Entry K (Until V) × Bool). x.0) (cond b (a ∷ filter (λ x. x.1) rest) (filter (λ x. x.1) rest))) here
      ∙ by_bool (stays a.0)
      (λ yes. ap (λ b. map (λ (x : Entry K (Until V) × Bool). x.0) (cond b (a ∷ filter (λ x. x.1) rest) (filter (λ x. x.1) rest))) yes ∙ ap (λ es. a.0 ∷ es) others
      ∙ sym (ap (λ b. cond b (a.0 ∷ filter stays (map (λ x. x.0) rest)) (filter stays (map (λ x. x.0) rest))) yes))
      (λ no. ap (λ b. map (λ (x : Entry K (Until V) × Bool). x.0) (cond b (a ∷ filter (λ x. x.1) rest) (filter (λ x. x.1) rest))) no ∙ others
      ∙ sym (ap (λ b. cond b (a.0 ∷ filter stays (map (λ x. x.0) rest)) (filter stays (map (λ x. x.0) rest))) no))

  gone_are : (asked : List (Entry K (Until V) × Bool)) → map (λ a. a.1) asked ≡ map (λ a. stays a.0) asked → gone_of asked ≡ filter (is_past time) (map (λ a. a.0) asked)
  gone_are [] is = refl
  gone_are (a ∷ rest) is =
      let here : not a.1 ≡ is_past time a.0 = ap not (same_head a.1 (stays a.0) (map (λ x. x.1) rest) (map (λ x. stays x.0) rest) is) ∙ not_not (is_past time a.0) in
      let others = gone_are rest (same_tail a.1 (stays a.0) (map (λ x. x.1) rest) (map (λ x. stays x.0) rest) is) in
      ap (λ b. map (λ (x : Entry K (Until V) × Bool). x.0) (cond b (a ∷ filter (λ x. not x.1) rest) (filter (λ x. not x.1) rest))) here
      ∙ by_bool (is_past time a.0)
      (λ yes. ap (λ b. map (λ (x : Entry K (Until V) × Bool). x.0) (cond b (a ∷ filter (λ x. not x.1) rest) (filter (λ x. not x.1) rest))) yes ∙ ap (λ es. a.0 ∷ es) others
      ∙ sym (ap (λ b. cond b (a.0 ∷ filter (is_past time) (map (λ x. x.0) rest)) (filter (is_past time) (map (λ x. x.0) rest))) yes))
      (λ no. ap (λ b. map (λ (x : Entry K (Until V) × Bool). x.0) (cond b (a ∷ filter (λ x. not x.1) rest) (filter (λ x. not x.1) rest))) no ∙ others
      ∙ sym (ap (λ b. cond b (a.0 ∷ filter (is_past time) (map (λ x. x.0) rest)) (filter (is_past time) (map (λ x. x.0) rest))) no))

  -- so the entries go that are past their deadline, of those that were asked of
  module _ {F G S : Type 0} (step : F → Bor K → Bor (Until V) → ℕ → Bool → F → Type 0) (keep : F) (Step : G → Entry K (Until V) → G → Type 0) (visit : G) (most : ℕ) (old new : Cached K (Until V) S)
      (s : RetainsLast step keep Step visit most old new) (each : (k : Bor K) (u : Bor (Until V)) (w : ℕ) (b : Bool) (q : F) → step keep k u w b q → (q ≡ keep) × (b ≡ not (nat_lt u.now.deadline time))) where
    told : map (λ a. a.1) s.asked ≡ map (λ a. stays a.0) s.asked
    told =
        answers_back (λ p a q. Asks step p a.0 a.1 q) stays keep
        (λ a q asks.
        let step_is = each asks.key asks.value a.0.weight a.1 q asks.called in
        (step_is.0, step_is.1 ∙ ap (λ (u : Until V). not (nat_lt u.deadline time)) asks.shows_value)) s.asked s.left s.called

    front_long : length s.front ≡ length old.entries - most
    front_long = omega (arith, s.many, ap length s.all, length-append s.front (map (λ a. a.0) s.asked), length-map s.asked (λ (a : Entry K (Until V) × Bool). a.0))

    front_is : before_last most old.entries ≡ s.front
    front_is = ap (λ n. take n old.entries) (sym front_long) ∙ ap (take (length s.front)) s.all ∙ before s.front (map (λ a. a.0) s.asked)

    back_is : last_of most old.entries ≡ map (λ a. a.0) s.asked
    back_is = ap (λ n. drop n old.entries) (sym front_long) ∙ ap (drop (length s.front)) s.all ∙ after s.front (map (λ a. a.0) s.asked)

    gone_is : gone_of s.asked ≡ filter (is_past time) (last_of most old.entries)
    gone_is = gone_are s.asked told ∙ ap (filter (is_past time)) (sym back_is)

    pub sweeps : Sweeps Step visit time most old new
    sweeps = (
      (s.shown.0, subst (λ es. FoldsTo Step visit (reverse es) s.shown.0) gone_is s.shown.1),
      s.kept ∙ ap (λ es. with_entries old (es ++ kept_of s.asked)) (sym front_is)
          ∙ ap (λ es. with_entries old (before_last most old.entries ++ es)) (kept_are s.asked told ∙ ap (filter stays) (sym back_is)),
    )
