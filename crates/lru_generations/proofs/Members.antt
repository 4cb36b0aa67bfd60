-- What is in a list, and what a loop puts into another one.
use Rattle.std.proofs.Common.{◌≡◌, ◌⊎◌, inl, inr, ⊎_elim, ℕ, zero, suc, ◌+◌, ◌<◌, ◌≤◌, get_or, Bool, true, false, cond, List, [], ◌∷◌, ◌++◌, length, take, replicate, Option, Some, None, refl, sym, ◌∙◌, ap, subst, arith}
use Rattle.std.specs.Prelude.{◌||◌, ◌↔◌, Contains, filter, filter_map, map, slice_index_or}
use Rattle.std.specs.List.{list_any, cons_option}
use Rattle.std.proofs.lemmas.List.{take_all, take_more}
use Rattle.std.proofs.lemmas.List.Elements.{Contains-append_left, Contains-push, Contains-push_cases}

abbrev pub Among : {X : Type 0} → List X → X → Type 0
Among [] x = ⊥
Among (y ∷ ys) x = (y ≡ x) ⊎ Among ys x

module _ {X : Type 0} where
  pub contains : (xs : List X) (x : X) → Among xs x → Contains xs x
  contains [] x none = absurd none
  contains (y ∷ ys) x (inl here) = (0, omega arith, here)
  contains (y ∷ ys) x (inr later) = let h = contains ys x later in (suc h.0, omega (arith, h.1), h.2)

  at_place : (xs : List X) (x : X) (k : ℕ) → k < length xs → slice_index_or xs k x ≡ x → Among xs x
  at_place [] x k lt is = absurd (omega arith)
  at_place (y ∷ ys) x zero lt is = inl is
  at_place (y ∷ ys) x (suc k) lt is = inr (at_place ys x k (omega arith) is)

  pub among : (xs : List X) (x : X) → Contains xs x → Among xs x
  among xs x h = at_place xs x h.0 h.1 h.2

  pub among_append : (xs ys : List X) (x : X) → Among (xs ++ ys) x → Among xs x ⊎ Among ys x
  among_append [] ys x h = inr h
  among_append (z ∷ xs) ys x (inl here) = inl (inl here)
  among_append (z ∷ xs) ys x (inr later) = ⊎_elim (λ l. inl (inr l)) (λ r. inr r) (among_append xs ys x later)

  pub append_among : (xs ys : List X) (x : X) → Among xs x → Among (xs ++ ys) x
  append_among [] ys x none = absurd none
  append_among (z ∷ xs) ys x (inl here) = inl here
  append_among (z ∷ xs) ys x (inr later) = inr (append_among xs ys x later)

  pub among_replicate : (n : ℕ) (y x : X) → Among (replicate n y) x → y ≡ x
  among_replicate zero y x none = absurd none
  among_replicate (suc n) y x (inl here) = here
  among_replicate (suc n) y x (inr later) = among_replicate n y x later

  pub among_any : (p : X → Bool) (xs : List X) → list_any p xs ≡ true → (x : X) × (Among xs x × (p x ≡ true))
  among_any p [] h = let f : ⊥ = cc in absurd f
  among_any p (y ∷ ys) h = elim (p y) as (λ b. p y ≡ b → (x : X) × (Among (y ∷ ys) x × (p x ≡ true))) [
    | true ↦ λ e. (y, (inl refl, e))
    | false ↦ λ e. let rest = among_any p ys (ap (λ b. (b || list_any p ys)) (sym e) ∙ h) in (rest.0, (inr rest.1.0, rest.1.1))
  ] refl

  pub any_among : (p : X → Bool) (xs : List X) (x : X) → Among xs x → p x ≡ true → list_any p xs ≡ true
  any_among p [] x none e = absurd none
  any_among p (y ∷ ys) x (inl here) e = ap (λ b. (b || list_any p ys)) (ap p here ∙ e)
  any_among p (y ∷ ys) x (inr later) e =
      let rest = any_among p ys x later e in
      elim (p y) as (λ b. (b || list_any p ys) ≡ true) [ true ↦ refl | false ↦ rest ]

  pub among_filter : (p : X → Bool) (xs : List X) (x : X) → Among (filter p xs) x → Among xs x × (p x ≡ true)
  among_filter p [] x none = absurd none
  among_filter p (y ∷ ys) x h =
      elim (p y) as (λ b. p y ≡ b → Among (cond b (y ∷ filter p ys) (filter p ys)) x → Among (y ∷ ys) x × (p x ≡ true)) [
        | true ↦ λ e k. ⊎_elim (λ here. (inl here, ap p (sym here) ∙ e)) (λ later. let rest = among_filter p ys x later in (inr rest.0, rest.1)) k
        | false ↦ λ e k. let rest = among_filter p ys x k in (inr rest.0, rest.1)
      ] refl h

  pub filter_among : (p : X → Bool) (xs : List X) (x : X) → Among xs x → p x ≡ true → Among (filter p xs) x
  filter_among p [] x none e = absurd none
  filter_among p (y ∷ ys) x (inl here) e = subst (λ b. Among (cond b (y ∷ filter p ys) (filter p ys)) x) (sym (ap p here ∙ e)) (inl here)
  filter_among p (y ∷ ys) x (inr later) e =
      let rest = filter_among p ys x later e in
      elim (p y) as (λ b. Among (cond b (y ∷ filter p ys) (filter p ys)) x) [ true ↦ inr rest | false ↦ rest ]

module _ {X Y : Type 0} where
  pub among_map : (f : X → Y) (xs : List X) (y : Y) → Among (map f xs) y → (x : X) × (Among xs x × (f x ≡ y))
  among_map f [] y none = absurd none
  among_map f (x ∷ xs) y (inl here) = (x, (inl refl, here))
  among_map f (x ∷ xs) y (inr later) = let rest = among_map f xs y later in (rest.0, (inr rest.1.0, rest.1.1))

  pub map_among : (f : X → Y) (xs : List X) (x : X) → Among xs x → Among (map f xs) (f x)
  map_among f [] x none = absurd none
  map_among f (z ∷ xs) x (inl here) = inl (ap f here)
  map_among f (z ∷ xs) x (inr later) = inr (map_among f xs x later)

  pub among_filter_map : (h : X → Option Y) (xs : List X) (y : Y) → Among (filter_map h xs) y → (x : X) × (Among xs x × (h x ≡ Some y))
  among_filter_map h [] y none = absurd none
  among_filter_map h (x ∷ xs) y k =
      elim (h x) as (λ o. h x ≡ o → Among (cons_option o (filter_map h xs)) y → (z : X) × (Among (x ∷ xs) z × (h z ≡ Some y))) [
        | Some w ↦ λ e a. ⊎_elim (λ here. (x, (inl refl, e ∙ ap Some here))) (λ later. let rest = among_filter_map h xs y later in (rest.0, (inr rest.1.0, rest.1.1))) a
        | None ↦ λ e a. let rest = among_filter_map h xs y a in (rest.0, (inr rest.1.0, rest.1.1))
      ] refl k

  pub filter_map_among : (h : X → Option Y) (xs : List X) (x : X) (y : Y) → Among xs x → h x ≡ Some y → Among (filter_map h xs) y
  filter_map_among h [] x y none e = absurd none
  filter_map_among h (z ∷ xs) x y (inl here) e = subst (λ (o : Option Y). Among (cons_option o (filter_map h xs)) y) (sym (ap h here ∙ e)) (inl refl)
  filter_map_among h (z ∷ xs) x y (inr later) e =
      let rest = filter_map_among h xs x y later e in
      elim (h z) as (λ (o : Option Y). Among (cons_option o (filter_map h xs)) y) [ Some w ↦ inr rest | None ↦ rest ]

-- Each item of the second list comes from one of the first by R, and each such item is there.
pub record ComeBy {A B : Type 0} (R : A → B → Type 0) (from : List A) (items : List B) : Type 0 where
  pub each : (b : B) → Contains items b → (a : A) × (Contains from a × R a b)
  pub there : (a : A) (b : B) → Contains from a → R a b → Contains items b

module _ {A B : Type 0} (R : A → B → Type 0) where
  pub come_none : ComeBy R [] []
  come_none = record { each = λ b h. absurd (among [] b h); there = λ a b h r. absurd (among [] a h) }

  module _ (from : List A) (items : List B) (a : A) (so_far : ComeBy R from items) where
    from_earlier : (b : B) → Contains items b → (z : A) × (Contains (from ++ a ∷ []) z × R z b)
    from_earlier b h = let e = so_far.each b h in (e.0, (Contains-append_left from (a ∷ []) e.0 e.1.0, e.1.1))

    -- one more that gives one item,
    pub come_push : (b : B) → R a b → ((other : B) → R a other → b ≡ other) → ComeBy R (from ++ a ∷ []) (items ++ b ∷ [])
    come_push b r one = record {
      each = λ c h. ⊎_elim (λ old. from_earlier c old) (λ here. (a, (Contains-push from a, subst (R a) here r))) (Contains-push_cases items b c h);
      there = λ z c h s. ⊎_elim (λ old. Contains-append_left items (b ∷ []) c (so_far.there z c old s))
          (λ here. subst (Contains (items ++ b ∷ [])) (one c (subst (λ y. R y c) (sym here) s)) (Contains-push items b)) (Contains-push_cases from a z h);
    }

    -- or none
    pub come_skip : ((b : B) → ¬ R a b) → ComeBy R (from ++ a ∷ []) items
    come_skip none = record {
      each = λ c h. from_earlier c h;
      there = λ z c h s. ⊎_elim (λ old. so_far.there z c old s) (λ here. absurd (none c (subst (λ y. R y c) (sym here) s))) (Contains-push_cases from a z h);
    }

-- items that stay where K holds of them
abbrev pub Kept : {A : Type 0} → (A → Type 0) → A → A → Type 0
Kept K a b = (a ≡ b) × K b

pub kept : {A : Type 0} (K : A → Type 0) (from items : List A) → ComeBy (Kept K) from items → (a : A) → Contains items a ↔ (Contains from a × K a)
kept K from items come a = (
  λ h. let e = come.each a h in (subst (Contains from) e.1.1.0 e.1.0, e.1.1.1),
  λ h. come.there a a h.0 (refl, h.1),
)

-- the step of a loop over the first list
module _ {A B : Type 0} (R : A → B → Type 0) (xs : List A) (i : ℕ) (d : A) (within : i < length xs) (items out : List B) (so_far : ComeBy R (take i xs) items) where
  one_more : ComeBy R (take i xs ++ get_or xs i d ∷ []) out → ComeBy R (take (i + 1) xs) out
  one_more h = subst (λ (l : List A). ComeBy R l out) (sym (take_more xs i d within)) h

  pub come_push_at : (b : B) → out ≡ items ++ b ∷ [] → R (get_or xs i d) b → ((other : B) → R (get_or xs i d) other → b ≡ other) → ComeBy R (take (i + 1) xs) out
  come_push_at b e r one = one_more (subst (λ (l : List B). ComeBy R (take i xs ++ get_or xs i d ∷ []) l) (sym e) (come_push R (take i xs) items (get_or xs i d) so_far b r one))

  pub come_skip_at : out ≡ items → ((b : B) → ¬ R (get_or xs i d) b) → ComeBy R (take (i + 1) xs) out
  come_skip_at e none = one_more (subst (λ (l : List B). ComeBy R (take i xs ++ get_or xs i d ∷ []) l) (sym e) (come_skip R (take i xs) items (get_or xs i d) so_far none))

-- and its end
pub come_all : {A B : Type 0} (R : A → B → Type 0) (xs : List A) (i : ℕ) (items : List B) → length xs ≤ i → ComeBy R (take i xs) items → ComeBy R xs items
come_all R xs i items le come = subst (λ l. ComeBy R l items) (take_all i xs le) come

module _ {A : Type 0} (K : A → Type 0) (xs : List A) (i : ℕ) (d : A) (within : i < length xs) (items out : List A) (so_far : ComeBy (Kept K) (take i xs) items) where
  pub keep_at : out ≡ items ++ get_or xs i d ∷ [] → K (get_or xs i d) → ComeBy (Kept K) (take (i + 1) xs) out
  keep_at e k = come_push_at (Kept K) xs i d within items out so_far (get_or xs i d) e (refl, k) (λ other r. r.0)

  pub leave_at : out ≡ items → ¬ K (get_or xs i d) → ComeBy (Kept K) (take (i + 1) xs) out
  leave_at e none = come_skip_at (Kept K) xs i d within items out so_far e (λ b r. none (subst K (sym r.0) r.1))
