-- One more shard is put at its place.
use Rattle.std.proofs.Common.{◌≡◌, ◌⊎◌, ℕ, zero, suc, ◌+◌, ◌<◌, ◌≤◌, ◌==◌, if◌then◌else◌, List, [], ◌∷◌, ◌++◌, length, map, set, Option, Some, None, refl, sym, ap, ◌∙◌, subst, arith, inl, inr, ⊎_elim}
use Rattle.std.specs.Prelude.{slice_get, option_map}
use native.Mathlib.Decide.{ℕ_discrete}
use Rattle.atomic_table.specs.Table.{Me}
use Rattle.lru_recording.specs.declared.entry.Stamp.{Stamp}
use Rattle.lru_recording.specs.declared.entry.Hand.{Hand}
use Rattle.lru_recording.specs.declared.entry.Entry.{Entry}
use Rattle.lru_short_locks.specs.Hands.{Among, times, total, up}
use Rattle.lru_recording.specs.Ties.{hand, Shows, joined}
use Rattle.lru_recording.specs.Stamps.{stamps_in, slips_in}
use Rattle.lru_short_locks.proofs.Hands.{among_left, among_right, among_either, among_times, times_up, total_append}
use Rattle.lru_recording.specs.declared.entry.Receipt.{Receipt}
use Rattle.lru_recording.specs.Tied.{IsBook, AreTied}
use Rattle.lru_short_locks.proofs.Hands.{some_same, none_some}
use Rattle.lru_recording.proofs.Kept.{get_map, map_get, are_tied}
use Rattle.lru_recording.specs.Gathered.{empty_in, IsGathered, EachRises}

module _ {A : Type 0} where
  pub get_here : (l : List A) (i : ℕ) (a : A) → i < length l → slice_get (set l i a) i ≡ Some a
  get_here [] i a h = absurd (omega (arith, h))
  get_here (x ∷ xs) zero a h = refl
  get_here (x ∷ xs) (suc i) a h = get_here xs i a (omega (arith, h))

  pub get_else : (l : List A) (i j : ℕ) (a : A) → ¬ (j ≡ i) → slice_get (set l i a) j ≡ slice_get l j
  get_else [] i j a n = refl
  get_else (x ∷ xs) zero zero a n = absurd (n refl)
  get_else (x ∷ xs) zero (suc j) a n = refl
  get_else (x ∷ xs) (suc i) zero a n = refl
  get_else (x ∷ xs) (suc i) (suc j) a n = get_else xs i j a (λ e. n (ap suc e))

  pub get_some : (l : List A) (i : ℕ) → i < length l → (a : A) × (slice_get l i ≡ Some a)
  get_some [] i h = absurd (omega (arith, h))
  get_some (x ∷ xs) zero h = (x, refl)
  get_some (x ∷ xs) (suc i) h = get_some xs i (omega (arith, h))

  length-set' : (l : List A) (i : ℕ) (a : A) → length (set l i a) ≡ length l
  length-set' [] i a = refl
  length-set' (x ∷ xs) zero a = refl
  length-set' (x ∷ xs) (suc i) a = ap suc (length-set' xs i a)

module _ {A : Type 0} where
  fills : (os : List (Option A)) (i : ℕ) (k : A) → slice_get os i ≡ Some None → empty_in (set os i (Some k)) + 1 ≡ empty_in os
  fills [] i k e = absurd (cc)
  fills (None ∷ os) zero k e = refl
  fills (Some x ∷ os) zero k e = absurd (cc)
  fills (None ∷ os) (suc i) k e = let ih = fills os i k e in omega (arith, ih)
  fills (Some x ∷ os) (suc i) k e = fills os i k e

  pub no_empty : (os : List (Option A)) (i : ℕ) → empty_in os ≡ 0 → i < length os → (k : A) × (slice_get os i ≡ Some (Some k))
  no_empty [] i e h = absurd (omega (arith, h))
  no_empty (None ∷ os) i e h = absurd (omega (arith, e))
  no_empty (Some x ∷ os) zero e h = (x, refl)
  no_empty (Some x ∷ os) (suc i) e h = no_empty os i e (omega (arith, h))

  module _ (number : A → ℕ) (history : A → List Entry) (n s : ℕ) (os : List (Option A)) (me token me' : Me Stamp Hand) (k : A) (g : IsGathered number history n os me)
      (is : number k ≡ s) (below : s < n) (told : token ≡ (hand (s ∷ []) [] (stamps_in s 0 (history k)) [], [])) (both : me' ≡ (joined me.0 token.0, [])) (once : (x : ℕ) → times x me'.0.shards ≤ times x (up 0 n)) where
    whole : me' ≡ (hand (me.0.shards ++ s ∷ []) [] (me.0.book ++ stamps_in s 0 (history k)) [], [])
    whole = both ∙ (λ i. (joined (g.shape i).0 (told i).0, []))

    shards : me'.0.shards ≡ me.0.shards ++ s ∷ []
    shards = ap (λ (m : Me Stamp Hand). m.0.shards) whole

    book : me'.0.book ≡ me.0.book ++ stamps_in s 0 (history k)
    book = ap (λ (m : Me Stamp Hand). m.0.book) whole

    apart : ¬ Among s me.0.shards
    apart a = omega (arith, once s, times_up s 0 n, ap (times s) shards, total_append (λ y. if y == s then 1 else 0) me.0.shards (s ∷ []), among_times s me.0.shards a, among_times s (s ∷ []) (inl refl))

    was_empty : slice_get os s ≡ Some None
    was_empty = let o = get_some os s (omega (arith, below, g.len)) in by_slot o.0 o.1
      where
        by_slot : (o : Option A) → slice_get os s ≡ Some o → slice_get os s ≡ Some None
        by_slot None e = e
        by_slot (Some x) e = absurd (apart (g.named s x e))

    abbrev pub new : List (Option A)
    new = set os s (Some k)

    at_new : (P : ℕ → A → Type 0) → P s k → ((i : ℕ) (x : A) → slice_get os i ≡ Some (Some x) → P i x) → (i : ℕ) (x : A) → slice_get new i ≡ Some (Some x) → P i x
    at_new P here old i x e = by_place (ℕ_discrete i s)
      where
        by_place : Dec (i ≡ s) → P i x
        by_place (yes same) =
            let v : Some k ≡ Some x = some_same (Some k) (Some x) (sym (get_here os s (Some k) (omega (arith, below, g.len))) ∙ ap (slice_get new) (sym same) ∙ e) in
            subst (λ (j : ℕ). P j x) (sym same) (subst (λ (y : A). P s y) (some_same k x v) here)
        by_place (no other) = old i x (sym (get_else os s i (Some k) other) ∙ e)

    pub gathered_more : IsGathered number history n new me'
    gathered_more = record {
      len = length-set' os s (Some k) ∙ g.len;
      shape = whole ∙ (λ i. (hand (sym shards i) [] (sym book i) [], []));
      placed = at_new (λ i x. number x ≡ i) is g.placed;
      named = at_new (λ i x. Among i me'.0.shards) (subst (Among s) (sym shards) (among_right s me.0.shards (s ∷ []) (inl refl))) (λ i x e. subst (Among i) (sym shards) (among_left i me.0.shards (s ∷ []) (g.named i x e)));
      book_to = λ x a. ⊎_elim
          (λ b. let r = g.book_to x b in (r.0, (r.1.0, (get_else os s r.0 (Some k) (λ e. filled r.0 r.1.0 e r.1.1.0) ∙ r.1.1.0, r.1.1.1))))
          (λ b. (s, (k, (get_here os s (Some k) (omega (arith, below, g.len)), b))))
          (among_either x me.0.book (stamps_in s 0 (history k)) (subst (Among x) book a));
      book_from = λ x i y e a. at_new (λ i y. Among x (stamps_in i 0 (history y)) → Among x me'.0.book)
          (λ b. subst (Among x) (sym book) (among_right x me.0.book (stamps_in s 0 (history k)) b))
          (λ j z d b. subst (Among x) (sym book) (among_left x me.0.book (stamps_in s 0 (history k)) (g.book_from x j z d b)))
          i y e a;
    }
      where
        filled : (i : ℕ) (y : A) → i ≡ s → slice_get os i ≡ Some (Some y) → ⊥
        filled i y same e = none_some y (some_same None (Some y) (sym (ap (slice_get os) same ∙ was_empty) ∙ e))

    pub one_less : empty_in new + 1 ≡ empty_in os
    one_less = fills os s k was_empty

-- once no place is empty, the token has the book of all histories, in their order
module _ {A : Type 0} (number : A → ℕ) (history : A → List Entry) (n : ℕ) (os : List (Option A)) (me : Me Stamp Hand) (hs : List (List Entry))
    (g : IsGathered number history n os me) (full : empty_in os ≡ 0) (same : map (λ (h : List Entry). Some h) hs ≡ map (option_map history) os) where
  at_slot : (i : ℕ) (h : List Entry) → slice_get hs i ≡ Some h → (k : A) × ((slice_get os i ≡ Some (Some k)) × (history k ≡ h))
  at_slot i h e =
      let r = map_get (option_map history) os i (Some h) (sym (ap (λ l. slice_get l i) same) ∙ get_map (λ (x : List Entry). Some x) hs i h e) in
      by_slot r.0 r.1.0 r.1.1
    where
      by_slot : (o : Option A) → slice_get os i ≡ Some o → option_map history o ≡ Some h → (k : A) × ((slice_get os i ≡ Some (Some k)) × (history k ≡ h))
      by_slot None e d = absurd (none_some h d)
      by_slot (Some k) e d = (k, (e, some_same (history k) h d))

  at_history : (i : ℕ) (k : A) → slice_get os i ≡ Some (Some k) → slice_get hs i ≡ Some (history k)
  at_history i k e =
      let r = map_get (λ (x : List Entry). Some x) hs i (Some (history k)) (ap (λ l. slice_get l i) same ∙ get_map (option_map history) os i (Some k) e) in
      r.1.0 ∙ r.1.1

  pub is_book : IsBook n hs me.0.shards me.0.book
  is_book = record {
    named = λ s below. let k = no_empty os s full (let l = g.len in omega (arith, l, below)) in g.named s k.0 k.1;
    to = λ x a. let r = g.book_to x a in (r.0, (history r.1.0, (at_history r.0 r.1.0 r.1.1.0, r.1.1.1)));
    from = λ x s h e a. let r = at_slot s h e in g.book_from x s r.0 r.1.0 (subst (λ (l : List Entry). Among x (stamps_in s 0 l)) (sym r.1.1) a);
  }

-- at the start all places are empty
module _ {A : Type 0} where
  pub more_empty : (os : List (Option A)) → empty_in (os ++ None ∷ []) ≡ empty_in os + 1
  more_empty [] = refl
  more_empty (None ∷ os) = let ih = more_empty os in omega (arith, ih)
  more_empty (Some x ∷ os) = more_empty os

  empty_few : (os : List (Option A)) → empty_in os ≤ length os
  empty_few [] = omega arith
  empty_few (None ∷ os) = let ih = empty_few os in omega (arith, ih)
  empty_few (Some x ∷ os) = let ih = empty_few os in omega (arith, ih)

  none_there : (os : List (Option A)) (i : ℕ) (k : A) → empty_in os ≡ length os → slice_get os i ≡ Some (Some k) → ⊥
  none_there [] i k all e = absurd (none_some (Some k) e)
  none_there (None ∷ os) zero k all e = absurd (none_some k (some_same None (Some k) e))
  none_there (None ∷ os) (suc i) k all e = none_there os i k (omega (arith, all)) e
  none_there (Some x ∷ os) i k all e = let few = empty_few os in absurd (omega (arith, all, few))

  pub starts : (number : A → ℕ) (history : A → List Entry) (n : ℕ) (os : List (Option A)) (me : Me Stamp Hand) → length os ≡ n → empty_in os ≡ n → me ≡ (hand [] [] [] [], []) → IsGathered number history n os me
  starts number history n os me len all is =
      let every : empty_in os ≡ length os = omega (arith, len, all) in
      subst (λ (m : Me Stamp Hand). IsGathered number history n os m) (sym is) record {
        len = len;
        shape = refl;
        placed = λ i k e. absurd (none_there os i k every e);
        named = λ i k e. absurd (none_there os i k every e);
        book_to = λ x a. absurd a;
        book_from = λ x i k e a. absurd (none_there os i k every e);
      }

pub map_twice : {A B C : Type 0} (f : A → B) (h : B → C) (xs : List A) → map h (map f xs) ≡ map (λ x. h (f x)) xs
map_twice f h [] = refl
map_twice f h (x ∷ xs) = λ i. h (f x) ∷ map_twice f h xs i

-- what was shown of the book and of each seat ties the receipts to the entries
pub tied_by : {S : Type 0} (number : S → ℕ) (own : S → List Receipt) (n m n' m' : ℕ) (me me' : Me Stamp Hand) (hs : List (List Entry)) (ss ss' : List S) → n' ≡ n → m' ≡ m → me' ≡ me → ss' ≡ ss → map number ss ≡ up 0 m
    → ((i : ℕ) (s : S) → slice_get ss' i ≡ Some s → Shows n' m' (hand me'.0.shards (number s ∷ []) me'.0.book (slips_in (number s) 0 (own s))))
    → Shows n' m' me.0 → me ≡ (hand me.0.shards [] me.0.book [], []) → IsBook n hs me.0.shards me.0.book → EachRises hs → AreTied hs (map own ss)
tied_by {S} number own n m n' m' me me' hs ss ss' same_n same_m same_me same_ss numbers shows all shape books rising =
    subst (λ (l : List S). AreTied hs (map own l)) same_ss
    (are_tied number own n' m' me'.0.shards me'.0.book hs ss'
    (ap (map number) same_ss ∙ numbers ∙ ap (up 0) (sym same_m))
    shows
    (subst (λ (x : Me Stamp Hand). Shows n' m' (hand x.0.shards [] x.0.book [])) (sym same_me) (subst (λ (x : Me Stamp Hand). Shows n' m' x.0) shape all))
    (subst (λ (k : ℕ). IsBook k hs me'.0.shards me'.0.book) (sym same_n) (subst (λ (x : Me Stamp Hand). IsBook n hs x.0.shards x.0.book) (sym same_me) books))
    rising)
