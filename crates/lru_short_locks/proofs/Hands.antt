-- Lemmas on lists of hands: what a hand that is set, cut in two or put together leaves counted, and among them.
use Rattle.std.proofs.Common.{◌≡◌, ◌≢◌, ◌⊎◌, ℕ, zero, suc, ◌+◌, ◌-◌, ◌<◌, ◌≤◌, ◌==◌, if◌then◌else◌, Bool, cond, List, [], ◌∷◌, ◌++◌, length, map, set, take, drop, Some, None, sym, refl, ap, ◌∙◌, subst, inl, inr, ⊎_elim, arith}
use Rattle.std.specs.Prelude.{slice_get}
use Rattle.std.proofs.lemmas.Bool.{eq-eqb, ne_eqb}
use mathlib.Core.Option.{some, some-ne-none, some-injective}
use native.Mathlib.Decide.{ℕ_discrete}
use lib.ListN.{get_elem?}
use Rattle.atomic_table.proofs.Lists.{set_else}
use Rattle.lru_short_locks.specs.Hands.{total, times, up, Among, Held}

pub some_same : {A : Type 0} (x y : A) → Some x ≡ Some y → x ≡ y
some_same x y e = cc

pub none_some : {A : Type 0} (x : A) → None ≡ Some x → ⊥
none_some x e = cc

module _ {A : Type 0} where
  pub among_left : (x : A) (xs ys : List A) → Among x xs → Among x (xs ++ ys)
  among_left x [] ys a = absurd a
  among_left x (y ∷ xs) ys (inl e) = inl e
  among_left x (y ∷ xs) ys (inr a) = inr (among_left x xs ys a)

  pub among_right : (x : A) (xs ys : List A) → Among x ys → Among x (xs ++ ys)
  among_right x [] ys a = a
  among_right x (y ∷ xs) ys a = inr (among_right x xs ys a)

  pub among_either : (x : A) (xs ys : List A) → Among x (xs ++ ys) → Among x xs ⊎ Among x ys
  among_either x [] ys a = inr a
  among_either x (y ∷ xs) ys (inl e) = inl (inl e)
  among_either x (y ∷ xs) ys (inr a) = ⊎_elim (λ b. inl (inr b)) (λ b. inr b) (among_either x xs ys a)

  pub set_at : (l : List A) (i : ℕ) (a b : A) → get_elem? l i ≡ some a → get_elem? (set l i b) i ≡ some b
  set_at [] i a b e = absurd (some-ne-none a (sym e))
  set_at (x ∷ xs) zero a b e = refl
  set_at (x ∷ xs) (suc i) a b e = set_at xs i a b e

  pub total_set : (f : A → ℕ) (vs : List A) (i : ℕ) (v w : A) → get_elem? vs i ≡ some v → total f (set vs i w) + f v ≡ total f vs + f w
  total_set f [] i v w e = absurd (some-ne-none v (sym e))
  total_set f (x ∷ xs) zero v w e = let same : f x ≡ f v = ap f (some-injective x v e) in omega (arith, same)
  total_set f (x ∷ xs) (suc i) v w e = let ih = total_set f xs i v w e in omega (arith, ih)

  pub total_append : (f : A → ℕ) (vs ws : List A) → total f (vs ++ ws) ≡ total f vs + total f ws
  total_append f [] ws = omega arith
  total_append f (x ∷ xs) ws = let ih = total_append f xs ws in omega (arith, ih)

  -- what stands at one place is within the total
  pub at_most : (f : A → ℕ) (vs : List A) (i : ℕ) (v : A) → get_elem? vs i ≡ some v → f v ≤ total f vs
  at_most f [] i v e = absurd (some-ne-none v (sym e))
  at_most f (x ∷ xs) zero v e = let same : f x ≡ f v = ap f (some-injective x v e) in omega (arith, same)
  at_most f (x ∷ xs) (suc i) v e = let ih = at_most f xs i v e in omega (arith, ih)

  pub two_within : (f : A → ℕ) (vs : List A) (i j : ℕ) (v u : A) → j ≢ i → get_elem? vs i ≡ some v → get_elem? vs j ≡ some u → f u + f v ≤ total f vs
  two_within f [] i j v u n e d = absurd (some-ne-none v (sym e))
  two_within f (x ∷ xs) zero zero v u n e d = absurd (n refl)
  two_within f (x ∷ xs) zero (suc j) v u n e d = let same : f x ≡ f v = ap f (some-injective x v e) in let ih = at_most f xs j u d in omega (arith, same, ih)
  two_within f (x ∷ xs) (suc i) zero v u n e d = let same : f x ≡ f u = ap f (some-injective x u d) in let ih = at_most f xs i v e in omega (arith, same, ih)
  two_within f (x ∷ xs) (suc i) (suc j) v u n e d = let ih = two_within f xs i j v u (λ p. n (ap suc p)) e d in omega (arith, ih)

  pub among_length : (x : A) (xs : List A) → Among x xs → 0 < length xs
  among_length x [] a = absurd a
  among_length x (y ∷ ys) a = omega arith

  pub one_of : (x y : A) → Among x (y ∷ []) → x ≡ y
  one_of x y (inl e) = e
  one_of x y (inr a) = absurd a

  pub none_in : (x : A) (xs : List A) → xs ≡ [] → Among x xs → ⊥
  none_in x xs e a = subst (Among x) e a

  pub dropped : (x : A) (xs : List A) → Among x (drop 1 xs) → Among x xs
  dropped x [] a = absurd a
  dropped x (y ∷ ys) a = inr a

  pub taken : (x : A) (xs : List A) → Among x (take 1 xs) → Among x xs
  taken x [] a = absurd a
  taken x (y ∷ ys) (inl e) = inl e
  taken x (y ∷ ys) (inr a) = absurd a

  pub take_drop : (f : A → ℕ) (xs : List A) → total f (drop 1 xs) + total f (take 1 xs) ≡ total f xs
  take_drop f [] = refl
  take_drop f (x ∷ xs) = omega arith

-- numbers: to stand there is to stand there once at least
pub counts_one : (x y : ℕ) → y ≡ x → ◌≡◌ {A = ℕ} (if y == x then 1 else 0) 1
counts_one x y e = ap (λ (b : Bool). cond {A = ℕ} b 1 0) (eq-eqb y x e)

pub counts_none : (x y : ℕ) → y ≢ x → ◌≡◌ {A = ℕ} (if y == x then 1 else 0) 0
counts_none x y n = ap (λ (b : Bool). cond {A = ℕ} b 1 0) (ne_eqb y x n)

pub among_times : (x : ℕ) (xs : List ℕ) → Among x xs → 0 < times x xs
among_times x [] a = absurd a
among_times x (y ∷ ys) (inl e) = omega (arith, counts_one x y (sym e))
among_times x (y ∷ ys) (inr a) = let ih = among_times x ys a in omega (arith, ih)

pub times_among : (x : ℕ) (xs : List ℕ) → 0 < times x xs → Among x xs
times_among x [] h = absurd (omega (arith, h))
times_among x (y ∷ ys) h = by_first (ℕ_discrete y x) (times_among x ys)
  where
    by_first : Dec (y ≡ x) → (0 < times x ys → Among x ys) → Among x (y ∷ ys)
    by_first (yes e) rest = inl (sym e)
    by_first (no n) rest = inr (rest (omega (arith, h, counts_none x y n)))

none_before : (x from k : ℕ) → x < from → times x (up from k) ≡ 0
none_before x from zero h = refl
none_before x from (suc k) h = omega (arith, none_before x (suc from) k (omega (arith, h)), counts_none x from (λ e. omega (arith, h, e)))

-- of the numbers from one up each stands once, and no other does
pub times_up : (x from k : ℕ) → times x (up from k) ≤ 1
times_up x from zero = omega arith
times_up x from (suc k) = by_first (ℕ_discrete from x) (times_up x (suc from) k)
  where
    by_first : Dec (from ≡ x) → times x (up (suc from) k) ≤ 1 → times x (up from (suc k)) ≤ 1
    by_first (yes e) rest = omega (arith, none_before x (suc from) k (omega (arith, e)), counts_one x from e)
    by_first (no n) rest = omega (arith, rest, counts_none x from n)

pub up_below : (x from k : ℕ) → 0 < times x (up from k) → x < from + k
up_below x from zero h = absurd (omega (arith, h))
up_below x from (suc k) h = by_first (ℕ_discrete from x) (up_below x (suc from) k)
  where
    by_first : Dec (from ≡ x) → (0 < times x (up (suc from) k) → x < suc from + k) → x < from + suc k
    by_first (yes e) rest = omega (arith, e)
    by_first (no n) rest = omega (arith, rest (omega (arith, h, counts_none x from n)))

-- what stands in such a list of some hand, where one is set or one more comes
module _ {Hand A : Type 0} (f : Hand → List A) (x : A) where
  pub held_at : (vs : List Hand) (i : ℕ) (v : Hand) → get_elem? vs i ≡ some v → Among x (f v) → Held f x vs
  held_at [] i v e a = absurd (some-ne-none v (sym e))
  held_at (u ∷ us) zero v e a = inl (subst (λ w. Among x (f w)) (sym (some-injective u v e)) a)
  held_at (u ∷ us) (suc i) v e a = inr (held_at us i v e a)

  pub held_find : (vs : List Hand) → Held f x vs → (j : ℕ) × (u : Hand) × (get_elem? vs j ≡ some u) × Among x (f u)
  held_find [] h = absurd h
  held_find (u ∷ us) (inl a) = (0, u, refl, a)
  held_find (u ∷ us) (inr h) = let r = held_find us h in (suc r.0, r.1, r.2, r.3)

  pub held_to : (vs : List Hand) (i : ℕ) (v w : Hand) → get_elem? vs i ≡ some v → Held f x vs → Among x (f v) ⊎ Held f x (set vs i w)
  held_to [] i v w e h = absurd h
  held_to (u ∷ us) zero v w e (inl a) = inl (subst (λ y. Among x (f y)) (some-injective u v e) a)
  held_to (u ∷ us) zero v w e (inr h) = inr (inr h)
  held_to (u ∷ us) (suc i) v w e (inl a) = inr (inl a)
  held_to (u ∷ us) (suc i) v w e (inr h) = ⊎_elim (λ a. inl a) (λ b. inr (inr b)) (held_to us i v w e h)

  pub held_from : (vs : List Hand) (i : ℕ) (w : Hand) → Held f x (set vs i w) → Among x (f w) ⊎ Held f x vs
  held_from [] i w h = absurd h
  held_from (u ∷ us) zero w (inl a) = inl a
  held_from (u ∷ us) zero w (inr h) = inr (inr h)
  held_from (u ∷ us) (suc i) w (inl a) = inr (inl a)
  held_from (u ∷ us) (suc i) w (inr h) = ⊎_elim (λ a. inl a) (λ b. inr (inr b)) (held_from us i w h)

  pub held_snoc : (vs : List Hand) (w : Hand) → Held f x vs → Held f x (vs ++ w ∷ [])
  held_snoc [] w h = absurd h
  held_snoc (u ∷ us) w (inl a) = inl a
  held_snoc (u ∷ us) w (inr h) = inr (held_snoc us w h)

  pub held_last : (vs : List Hand) (w : Hand) → Among x (f w) → Held f x (vs ++ w ∷ [])
  held_last [] w a = inl a
  held_last (u ∷ us) w a = inr (held_last us w a)

  pub held_snoc_from : (vs : List Hand) (w : Hand) → Held f x (vs ++ w ∷ []) → Held f x vs ⊎ Among x (f w)
  held_snoc_from [] w (inl a) = inr a
  held_snoc_from [] w (inr h) = absurd h
  held_snoc_from (u ∷ us) w (inl a) = inl (inl a)
  held_snoc_from (u ∷ us) w (inr h) = ⊎_elim (λ b. inl (inr b)) (λ a. inr a) (held_snoc_from us w h)

-- a hand cut in two, by one list of it
module _ {Hand A : Type 0} (f : Hand → List A) (x : A) (vs : List Hand) (i : ℕ) (v l r : Hand) (at : get_elem? vs i ≡ some v) where
  pub split_to : (Among x (f v) → Among x (f l) ⊎ Among x (f r)) → Held f x vs → Held f x (set vs i l ++ r ∷ [])
  split_to cut h = ⊎_elim
      (λ a. ⊎_elim (λ b. held_snoc f x (set vs i l) r (held_at f x (set vs i l) i l (set_at vs i v l at) b)) (λ b. held_last f x (set vs i l) r b) (cut a))
      (λ b. held_snoc f x (set vs i l) r b)
      (held_to f x vs i v l at h)

  pub split_from : (Among x (f l) → Among x (f v)) → (Among x (f r) → Among x (f v)) → Held f x (set vs i l ++ r ∷ []) → Held f x vs
  split_from a b h = ⊎_elim
      (λ c. ⊎_elim (λ d. held_at f x vs i v at (a d)) (λ d. d) (held_from f x vs i l c))
      (λ d. held_at f x vs i v at (b d))
      (held_snoc_from f x (set vs i l) r h)

-- what is counted of all hands, where one is cut in two, two are put together or one is set to one that counts the same
module _ {Hand : Type 0} (f : Hand → ℕ) (vs : List Hand) where
  pub total_split : (i : ℕ) (v l r : Hand) → get_elem? vs i ≡ some v → f l + f r ≡ f v → total f (set vs i l ++ r ∷ []) ≡ total f vs
  total_split i v l r at cut = let a = total_set f vs i v l at in let b = total_append f (set vs i l) (r ∷ []) in omega (arith, a, b, cut)

  pub total_join : (i j : ℕ) (v w b n : Hand) → get_elem? vs i ≡ some v → get_elem? (set vs i b) j ≡ some w → f b ≡ f v + f w → f n ≡ 0 → total f (set (set vs i b) j n) ≡ total f vs
  total_join i j v w b n at there both empty = let p = total_set f vs i v b at in let q = total_set f (set vs i b) j w n there in omega (arith, p, q, both, empty)

  pub total_same : (i : ℕ) (v w : Hand) → get_elem? vs i ≡ some v → f w ≡ f v → total f (set vs i w) ≡ total f vs
  total_same i v w at e = let p = total_set f vs i v w at in omega (arith, p, e)

-- two hands put together, by one list of them
module _ {Hand A : Type 0} (f : Hand → List A) (x : A) (vs : List Hand) (i j : ℕ) (v w b n : Hand) (at : get_elem? vs i ≡ some v) (apart : j ≢ i) (there : get_elem? vs j ≡ some w) where
  abbrev after : List Hand
  after = set (set vs i b) j n

  here : get_elem? after i ≡ some b
  here = set_else (set vs i b) j i n (λ e. apart (sym e)) ∙ set_at vs i v b at

  beside : get_elem? (set vs i b) j ≡ some w
  beside = set_else vs i j b apart ∙ there

  pub join_to : (Among x (f v) → Among x (f b)) → (Among x (f w) → Among x (f b)) → Held f x vs → Held f x after
  join_to c d h = ⊎_elim
      (λ a. held_at f x after i b here (c a))
      (λ g. ⊎_elim (λ a. held_at f x after i b here (d a)) (λ g'. g') (held_to f x (set vs i b) j w n beside g))
      (held_to f x vs i v b at h)

  pub join_from : (Among x (f b) → Among x (f v) ⊎ Among x (f w)) → (Among x (f n) → ⊥) → Held f x after → Held f x vs
  join_from c d h = ⊎_elim
      (λ a. absurd (d a))
      (λ g. ⊎_elim (λ a. ⊎_elim (λ p. held_at f x vs i v at p) (λ p. held_at f x vs j w there p) (c a)) (λ g'. g') (held_from f x vs i b g))
      (held_from f x (set vs i b) j n h)

-- numbers dealt one by one, at the start and at the end
pub up_rest : (i n : ℕ) → i < n → up i (n - i) ≡ i ∷ up (i + 1) (n - (i + 1))
up_rest i n h = let a : n - i ≡ suc (n - (i + 1)) = omega (arith, h) in let b : suc i ≡ i + 1 = omega arith in ap (up i) a ∙ (λ k. i ∷ up (b k) (n - (i + 1)))

pub up_snoc : (i n : ℕ) → up i (n + 1) ≡ up i n ++ (i + n) ∷ []
up_snoc i zero = let a : i ≡ i + 0 = omega arith in λ k. a k ∷ []
up_snoc i (suc n) = let a : suc n + 1 ≡ suc (n + 1) = omega arith in let b : suc i + n ≡ i + suc n = omega arith in ap (up i) a ∙ (λ k. i ∷ (up_snoc (suc i) n ∙ ap (λ z. up (suc i) n ++ z ∷ []) b) k)

pub up_get : (from n k x : ℕ) → slice_get (up from n) k ≡ Some x → x ≡ from + k
up_get from zero k x e = absurd (none_some x e)
up_get from (suc n) zero x e = let s : from ≡ x = some_same from x e in omega arith
up_get from (suc n) (suc k) x e = let ih = up_get (suc from) n k x e in omega (arith, ih)

pub up_some : (from n k : ℕ) → k < n → slice_get (up from n) k ≡ Some (from + k)
up_some from zero k h = absurd (omega (arith, h))
up_some from (suc n) zero h = let s : from ≡ from + 0 = omega arith in ap (λ (m : ℕ). Some m) s
up_some from (suc n) (suc k) h = up_some (suc from) n k (omega (arith, h)) ∙ (let s : suc from + k ≡ from + suc k = omega arith in ap (λ (m : ℕ). Some m) s)

pub map_snoc : {A B : Type 0} (f : A → B) (xs : List A) (x : A) → map f (xs ++ x ∷ []) ≡ map f xs ++ f x ∷ []
map_snoc f [] x = refl
map_snoc f (y ∷ ys) x = λ i. f y ∷ map_snoc f ys x i

from_here : {S : Type 0} (number : S → ℕ) (from n : ℕ) (ss : List S) → length ss ≡ n → ((k : ℕ) → k < n → (s : S) → slice_get ss k ≡ Some s → number s ≡ from + k) → map number ss ≡ up from n
from_here number from zero [] l h = refl
from_here number from zero (s ∷ ss) l h = absurd (omega (arith, l))
from_here number from (suc n) [] l h = absurd (omega (arith, l))
from_here number from (suc n) (s ∷ ss) l h =
    let one : number s ≡ from = let e = h 0 (omega arith) s refl in omega (arith, e) in
    let rest = from_here number (suc from) n ss (omega (arith, l)) (λ k b t e. let d = h (suc k) (omega (arith, b)) t e in omega (arith, d)) in
    λ i. one i ∷ rest i

-- of which each has its place as its number
pub in_order : {S : Type 0} (number : S → ℕ) (ss : List S) (n : ℕ) → length ss ≡ n → ((k : ℕ) → k < n → (s : S) → slice_get ss k ≡ Some s → number s ≡ k) → map number ss ≡ up 0 n
in_order number ss n l h = from_here number 0 n ss l (λ k b s e. let d = h k b s e in omega (arith, d))

at_number : {S : Type 0} (number : S → ℕ) (from n : ℕ) (ss : List S) (k : ℕ) (s : S) → map number ss ≡ up from n → slice_get ss k ≡ Some s → number s ≡ from + k
at_number number from n [] k s e at = absurd (none_some s at)
at_number number from zero (x ∷ ss) k s e at = absurd (let l : suc (length (map number ss)) ≡ 0 = ap length e in omega (arith, l))
at_number number from (suc n) (x ∷ ss) zero s e at = let l : number x ≡ from = ap (λ (y : List ℕ). first_of y) e in let g : number x ≡ number s = ap number (some_same x s at) in omega (arith, l, g)
  where
    first_of : List ℕ → ℕ
    first_of [] = 0
    first_of (y ∷ _) = y
at_number number from (suc n) (x ∷ ss) (suc k) s e at = let ih = at_number number (suc from) n ss k s (ap (drop 1) e) at in omega (arith, ih)

pub map_length : {A B : Type 0} (f : A → B) (xs : List A) → length (map f xs) ≡ length xs
map_length f [] = refl
map_length f (x ∷ xs) = let ih = map_length f xs in omega (arith, ih)

up_length : (from n : ℕ) → length (up from n) ≡ n
up_length from zero = refl
up_length from (suc n) = let ih = up_length (suc from) n in omega (arith, ih)

-- and what that says of them
pub as_many : {S : Type 0} (number : S → ℕ) (ss : List S) (n : ℕ) → map number ss ≡ up 0 n → length ss ≡ n
as_many number ss n e = let a = map_length number ss in let b = up_length 0 n in let c : length (map number ss) ≡ length (up 0 n) = ap (λ (l : List ℕ). length l) e in omega (arith, a, b, c)

pub own_number : {S : Type 0} (number : S → ℕ) (ss : List S) (n k : ℕ) (s : S) → map number ss ≡ up 0 n → slice_get ss k ≡ Some s → number s ≡ k
own_number number ss n k s e at = let d = at_number number 0 n ss k s e at in omega (arith, d)
