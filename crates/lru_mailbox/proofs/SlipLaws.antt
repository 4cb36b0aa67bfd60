-- Laws of lists of slips, and of lists of such lists, where one of them gets one slip more.
use Rattle.std.proofs.Common.{◌≡◌, ℕ, ◌+◌, ◌<◌, ◌≤◌, zero, suc, Bool, cond, List, [], ◌∷◌, ◌++◌, length, Some, ap, arith, subst}
use Rattle.std.specs.Prelude.{slice_get, slice_set, count_by}
use Rattle.std.proofs.lemmas.List.Sums.{sum_by-cons, sum_by-append}
use Rattle.lru_mailbox.specs.declared.slip.Slip.{Slip}
use Rattle.lru_mailbox.specs.Slips.{Every, count_in, RisesFrom, IsRun, IsBelow}

pub some_same : {A : Type 0} → (x y : A) → Some x ≡ Some y → x ≡ y
some_same x y e = cc

pub count-append : (p : Slip → Bool) (xs ys : List Slip) → count_by p (xs ++ ys) ≡ count_by p xs + count_by p ys
count-append p xs ys = sum_by-append (λ (s : Slip). cond (p s) 1 0) xs ys

pub count-cons : (p : Slip → Bool) (x : Slip) (xs : List Slip) → count_by p (x ∷ xs) ≡ cond (p x) 1 0 + count_by p xs
count-cons p x xs = sum_by-cons (λ (s : Slip). cond (p s) 1 0) x xs

pub count-push : (p : Slip → Bool) (xs : List Slip) (s : Slip) → count_by p (xs ++ s ∷ []) ≡ count_by p xs + cond (p s) 1 0
count-push p xs s = let a = count-append p xs (s ∷ []) in let b = count-cons p s [] in omega (arith, a, b)

pub in-cons : (p : Slip → Bool) (x : List Slip) (xs : List (List Slip)) → count_in p (x ∷ xs) ≡ count_by p x + count_in p xs
in-cons p x xs = sum_by-cons (λ (l : List Slip). count_by p l) x xs

-- one list gets one slip more
pub in-push : (p : Slip → Bool) (lists : List (List Slip)) (i : ℕ) (xs : List Slip) (s : Slip) → slice_get lists i ≡ Some xs
    → count_in p (slice_set lists i (xs ++ s ∷ [])) ≡ count_in p lists + cond (p s) 1 0
in-push p [] i xs s e = absurd (cc)
in-push p (l ∷ ls) zero xs s e =
    let same : count_by p l ≡ count_by p xs = ap (λ z. count_by p z) (some_same l xs e) in
    let a = in-cons p l ls in
    let b = in-cons p (xs ++ s ∷ []) ls in
    let d = count-push p xs s in
    omega (arith, same, a, b, d)
in-push p (l ∷ ls) (suc i) xs s e =
    let ih = in-push p ls i xs s e in
    let a = in-cons p l ls in
    let b = in-cons p l (slice_set ls i (xs ++ s ∷ [])) in
    omega (arith, ih, a, b)

-- what holds of each list, and of the new one, holds after it is set
pub all_set : (P : List Slip → Type 0) (lists : List (List Slip)) (i : ℕ) (xs new : List Slip) → slice_get lists i ≡ Some xs
    → Every P lists → (P xs → P new) → Every P (slice_set lists i new)
all_set P [] i xs new e all f = all
all_set P (l ∷ ls) zero xs new e all f = (f (subst P (some_same l xs e) all.0), all.1)
all_set P (l ∷ ls) (suc i) xs new e all f = (all.0, all_set P ls i xs new e all.1 f)

pub all_get : (P : List Slip → Type 0) (lists : List (List Slip)) (i : ℕ) (xs : List Slip) → slice_get lists i ≡ Some xs → Every P lists → P xs
all_get P [] i xs e all = absurd (cc)
all_get P (l ∷ ls) zero xs e all = subst P (some_same l xs e) all.0
all_get P (l ∷ ls) (suc i) xs e all = all_get P ls i xs e all.1

pub all_map : {A : Type 0} (P Q : A → Type 0) → ((x : A) → P x → Q x) → (xs : List A) → Every P xs → Every Q xs
all_map P Q f [] all = all
all_map P Q f (x ∷ xs) all = (f x all.0, all_map P Q f xs all.1)

pub all_push : {A : Type 0} (P : A → Type 0) (xs : List A) (x : A) → Every P xs → P x → Every P (xs ++ x ∷ [])
all_push P [] x all p = (p, all)
all_push P (y ∷ ys) x all p = (all.0, all_push P ys x all.1 p)

pub below_more : (m n : ℕ) → m ≤ n → (xs : List Slip) → Every (IsBelow m) xs → Every (IsBelow n) xs
below_more m n h xs all = all_map (IsBelow m) (IsBelow n) (λ s b. omega (arith, b, h)) xs all

pub all_below_more : (m n : ℕ) → m ≤ n → (lists : List (List Slip)) → Every (Every (IsBelow m)) lists → Every (Every (IsBelow n)) lists
all_below_more m n h lists all = all_map (Every (IsBelow m)) (Every (IsBelow n)) (λ xs a. below_more m n h xs a) lists all

-- a slip whose number is above all others' may follow them
pub rises_push : (from : ℕ) (xs : List Slip) (s : Slip) → RisesFrom from xs → Every (IsBelow s.number) xs → from ≤ s.number → RisesFrom from (xs ++ s ∷ [])
rises_push from [] s r b h = (h, r)
rises_push from (x ∷ xs) s r b h = (r.0, rises_push (x.number + 1) xs s r.1 b.1 (let q = b.0 in omega (arith, q)))

-- a run goes on
pub run_push : (from : ℕ) (xs : List Slip) (s : Slip) → IsRun from xs → from + length xs ≡ s.number → IsRun from (xs ++ s ∷ [])
run_push from [] s r e = (omega (arith, e), r)
run_push from (x ∷ xs) s r e = (r.0, run_push (from + 1) xs s r.1 (omega (arith, e)))

pub run_back : (from : ℕ) (xs ys : List Slip) → IsRun from (xs ++ ys) → IsRun (from + length xs) ys
run_back from [] ys r = subst (λ n. IsRun n ys) (omega arith) r
run_back from (x ∷ xs) ys r = subst (λ n. IsRun n ys) (omega arith) (run_back (from + 1) xs ys r.1)

-- the numbers of a run lie from its first one on
pub run_front : (from : ℕ) (xs ys : List Slip) → IsRun from (xs ++ ys) → Every (λ s. (from ≤ s.number) × (s.number < from + length xs)) xs
run_front from [] ys r = tt
run_front from (x ∷ xs) ys r =
    let q = r.0 in (
      (omega (arith, q), omega (arith, q)),
      all_map (λ (s : Slip). (from + 1 ≤ s.number) × (s.number < from + 1 + length xs)) (λ (s : Slip). (from ≤ s.number) × (s.number < from + length (x ∷ xs)))
          (λ s h. (let a = h.0 in omega (arith, a), let b = h.1 in omega (arith, b))) xs (run_front (from + 1) xs ys r.1),
    )

pub run_above : (from low : ℕ) (xs : List Slip) → low ≤ from → IsRun from xs → Every (λ s. (low ≤ s.number) × (from ≤ s.number)) xs
run_above from low [] h r = tt
run_above from low (x ∷ xs) h r =
    let q = r.0 in (
      (omega (arith, q, h), omega (arith, q)),
      all_map (λ (s : Slip). (low ≤ s.number) × (from + 1 ≤ s.number)) (λ (s : Slip). (low ≤ s.number) × (from ≤ s.number)) (λ s g. (g.0, let b = g.1 in omega (arith, b))) xs
          (run_above (from + 1) low xs (omega (arith, h)) r.1),
    )
