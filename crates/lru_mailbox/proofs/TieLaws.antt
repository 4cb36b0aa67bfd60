-- The calls of a box keep its shares tied to it; and what ties say once all is settled.
use Rattle.std.proofs.Common.{◌≡◌, ℕ, ◌+◌, ◌≤◌, Bool, true, false, cond, eqb, List, [], ◌∷◌, ◌++◌, length, Some, refl, sym, ap, ◌∙◌, arith, subst, append_assoc, append-nil}
use Rattle.std.specs.Prelude.{slice_get, slice_set, count_by, nat_lt, if◌then◌else◌}
use Rattle.std.proofs.lemmas.List.{map-append, length-append}
use Rattle.std.proofs.lemmas.Bool.Decides.{nat_tests}
use Rattle.lru_mailbox.specs.declared.slip.Slip.{Slip}
use Rattle.lru_mailbox.specs.Slips.{Share, Every, slips_in, AreFresh, is_same, count_in, IsRising, IsRun, IsBelow, IsSettled}
use Rattle.lru_mailbox.specs.Ledger.{Book, book_of, slips_of, slip_put, put, shut, left, empty, IsTied, Stock, seats_of, Makes}
use Rattle.lru_mailbox.proofs.SlipLaws.{count-append, count-cons, count-push, in-cons, in-push, all_set, all_get, all_map, all_push, all_below_more, rises_push, run_push, run_back, run_front, run_above}

off : true ≡ false → ⊥
off e = cc

-- one number more is below the next one
lt_more : (n m : ℕ) → (if nat_lt n m then 1 else 0) + cond (eqb m n) 1 0 ≡ (if nat_lt n (m + 1) then 1 else 0)
lt_more n m = grind (arith, nat_tests)

none_below : (n : ℕ) → cond {A = ℕ} (nat_lt n 0) 1 0 ≡ 0
none_below n = grind (arith, nat_tests)

none_in : (p : Slip → Bool) (lists : List (List Slip)) → Every (λ l. l ≡ []) lists → count_in p lists ≡ 0
none_in p [] h = refl
none_in p (l ∷ ls) h =
    let a = in-cons p l ls in
    let e : count_by p l ≡ 0 = ap (λ z. count_by p z) h.0 in
    let ih = none_in p ls h.1 in
    omega (arith, a, e, ih)

-- shares as they are made
pub fresh_none : (xs : List Share) → xs ≡ [] → AreFresh 0 xs
fresh_none xs e = subst (AreFresh 0) (sym e) (record { count_is = refl; empty = tt })

pub fresh_more : (n : ℕ) (xs ys : List Share) (x : Share) → ys ≡ xs ++ x ∷ [] → x.slips ≡ [] → AreFresh n xs → AreFresh (n + 1) ys
fresh_more n xs ys x e none h =
    let l = length-append xs (x ∷ []) in
    let c = h.count_is in
    subst (AreFresh (n + 1)) (sym e) (record {
      count_is = omega (arith, l, c);
      empty = subst (Every (λ z. z ≡ [])) (sym (map-append (λ (s : Share). s.slips) xs (x ∷ []))) (all_push (λ (z : List Slip). z ≡ []) (slips_in xs) x.slips h.empty none);
    })

pub fresh_all : (m n : ℕ) (xs : List Share) → n ≤ m → m ≤ n → AreFresh m xs → AreFresh n xs
fresh_all m n xs a b h = let e : m ≡ n = omega (arith, a, b) in subst (λ k. AreFresh k xs) e h

module _ {K : Type 0} where
  abbrev all_slips : Book K → List Slip
  all_slips b = slips_of b.waiting ++ b.lost

  -- a slip with the next number is told in one share, and stands last in the box
  tied_more : (b b' : Book K) (s : Slip) → s.number ≡ b.next → b'.next ≡ b.next + 1 → all_slips b' ≡ all_slips b ++ s ∷ [] → (b'.closed ≡ false → b'.lost ≡ [])
      → (puts takes : List (List Slip)) (i : ℕ) (xs : List Slip) → slice_get puts i ≡ Some xs → IsTied b puts takes → IsTied b' (slice_set puts i (xs ++ s ∷ [])) takes
  tied_more b b' s num next after unshut puts takes i xs at t = record {
    first = t.first;
    run = subst (IsRun t.first) (sym after) (run_push t.first (all_slips b) s t.run (t.ends ∙ sym num));
    ends =
        let e = t.ends in
        let l : length (all_slips b') ≡ length (all_slips b ++ s ∷ []) = ap (λ (z : List Slip). length z) after in
        let m = length-append (all_slips b) (s ∷ []) in
        omega (arith, e, l, m, next);
    numbers = λ n.
        in-push (λ (x : Slip). eqb x.number n) puts i xs s at ∙ ap (λ k. k + cond (eqb s.number n) 1 0) (t.numbers n)
        ∙ ap (λ k. (if nat_lt n b.next then 1 else 0) + cond (eqb k n) 1 0) num ∙ lt_more n b.next ∙ ap (λ m. if nat_lt n m then 1 else 0) (sym next);
    stands = λ x.
        let a = in-push (is_same x) puts i xs s at in
        let st = t.stands x in
        let c = count-push (is_same x) (all_slips b) s in
        let d : count_by (is_same x) (all_slips b') ≡ count_by (is_same x) (all_slips b ++ s ∷ []) = ap (λ z. count_by (is_same x) z) after in
        omega (arith, a, st, c, d);
    open_lost = unshut;
    puts_rise = all_set IsRising puts i xs (xs ++ s ∷ []) at t.puts_rise
        (λ r. rises_push 0 xs s r (subst (λ n. Every (IsBelow n) xs) (sym num) (all_get (Every (IsBelow b.next)) puts i xs at t.puts_below)) (omega arith));
    puts_below = all_set (Every (IsBelow b'.next)) puts i xs (xs ++ s ∷ []) at (all_below_more b.next b'.next (omega (arith, next)) puts t.puts_below)
        (λ r. all_push (IsBelow b'.next) xs s r (omega (arith, num, next)));
    takes_rise = t.takes_rise;
    takes_below = t.takes_below;
  }

  put_tied_at : (b : Book K) (closed : Bool) (hash : ℕ) (key : K) (weight : ℕ) → b.closed ≡ closed → (puts takes : List (List Slip)) (i : ℕ) (xs : List Slip)
      → slice_get puts i ≡ Some xs → IsTied b puts takes
      → IsTied (if closed then book_of b.waiting (b.lost ++ slip_put b hash weight ∷ []) (b.next + 1) b.closed
      else book_of (b.waiting ++ (slip_put b hash weight, key) ∷ []) b.lost (b.next + 1) b.closed) (slice_set puts i (xs ++ slip_put b hash weight ∷ [])) takes
  put_tied_at b true hash key weight e puts takes i xs at t =
      let s = slip_put b hash weight in
      tied_more b (book_of b.waiting (b.lost ++ s ∷ []) (b.next + 1) b.closed) s refl refl (sym (append_assoc (slips_of b.waiting) b.lost (s ∷ [])))
      (λ h. absurd (off (sym e ∙ h))) puts takes i xs at t
  put_tied_at b false hash key weight e puts takes i xs at t =
      let s = slip_put b hash weight in
      let none = t.open_lost e in
      let slips = slips_of b.waiting in
      tied_more b (book_of (b.waiting ++ (s, key) ∷ []) b.lost (b.next + 1) b.closed) s refl refl
      (ap (λ z. z ++ b.lost) (map-append (λ (p : Slip × K). p.0) b.waiting ((s, key) ∷ []))
      ∙ ap (λ z. (slips ++ s ∷ []) ++ z) none ∙ append-nil (slips ++ s ∷ [])
      ∙ sym (ap (λ z. (slips ++ z) ++ s ∷ []) none ∙ ap (λ z. z ++ s ∷ []) (append-nil slips)))
      (λ h. none) puts takes i xs at t

  pub put_tied : (b : Book K) (hash : ℕ) (key : K) (weight : ℕ) (puts takes : List (List Slip)) (i : ℕ) (xs : List Slip)
      → slice_get puts i ≡ Some xs → IsTied b puts takes → IsTied (put b hash key weight) (slice_set puts i (xs ++ slip_put b hash weight ∷ [])) takes
  put_tied b hash key weight puts takes i xs at t = put_tied_at b b.closed hash key weight refl puts takes i xs at t

  -- the first pair is told in one share, and leaves the box
  pub take_tied : (b : Book K) (pair : Slip × K) (w : List (Slip × K)) → b.waiting ≡ pair ∷ w → (puts takes : List (List Slip)) (i : ℕ) (xs : List Slip)
      → slice_get takes i ≡ Some xs → IsTied b puts takes → IsTied (book_of w b.lost b.next b.closed) puts (slice_set takes i (xs ++ pair.0 ∷ []))
  take_tied b pair w e puts takes i xs at t =
      let s = pair.0 in
      let rest : List Slip = slips_of w ++ b.lost in
      let all : all_slips b ≡ s ∷ rest = ap (λ z. slips_of z ++ b.lost) e in
      let run : IsRun t.first (s ∷ rest) = subst (IsRun t.first) all t.run in
      let num = run.0 in
      record {
        first = t.first + 1;
        run = run.1;
        ends =
            let q = t.ends in
            let l : length (all_slips b) ≡ length (s ∷ rest) = ap (λ (z : List Slip). length z) all in
            omega (arith, q, l);
        numbers = t.numbers;
        stands = λ x.
            let a = in-push (is_same x) takes i xs s at in
            let st = t.stands x in
            let c = count-cons (is_same x) s rest in
            let d : count_by (is_same x) (all_slips b) ≡ count_by (is_same x) (s ∷ rest) = ap (λ z. count_by (is_same x) z) all in
            omega (arith, a, st, c, d);
        open_lost = t.open_lost;
        puts_rise = t.puts_rise;
        puts_below = t.puts_below;
        takes_rise = all_set IsRising takes i xs (xs ++ s ∷ []) at t.takes_rise
            (λ r. rises_push 0 xs s r (subst (λ n. Every (IsBelow n) xs) (sym num) (all_get (Every (IsBelow t.first)) takes i xs at t.takes_below)) (omega arith));
        takes_below = all_set (Every (IsBelow (t.first + 1))) takes i xs (xs ++ s ∷ []) at (all_below_more t.first (t.first + 1) (omega arith) takes t.takes_below)
            (λ r. all_push (IsBelow (t.first + 1)) xs s r (omega (arith, num)));
      }

  pub shut_tied : (b : Book K) (puts takes : List (List Slip)) → IsTied b puts takes → IsTied (shut b) puts takes
  shut_tied b puts takes t = record {
    first = t.first;
    run = t.run;
    ends = t.ends;
    numbers = t.numbers;
    stands = t.stands;
    open_lost = λ h. absurd (off h);
    puts_rise = t.puts_rise;
    puts_below = t.puts_below;
    takes_rise = t.takes_rise;
    takes_below = t.takes_below;
  }

  pub left_tied : (b : Book K) (puts takes : List (List Slip)) → IsTied b puts takes → IsTied (left b) puts takes
  left_tied b puts takes t = record {
    first = t.first;
    run = t.run;
    ends = t.ends;
    numbers = t.numbers;
    stands = t.stands;
    open_lost = λ h. absurd (off h);
    puts_rise = t.puts_rise;
    puts_below = t.puts_below;
    takes_rise = t.takes_rise;
    takes_below = t.takes_below;
  }

  pub settled : (b : Book K) (puts takes : List (List Slip)) → IsTied b puts takes → IsSettled puts takes b.lost (slips_of b.waiting)
  settled b puts takes t = record {
    total = b.next;
    numbers = t.numbers;
    stands = λ s.
        let st = t.stands s in
        let c = count-append (is_same s) (slips_of b.waiting) b.lost in
        omega (arith, st, c);
    puts_rise = t.puts_rise;
    takes_rise = t.takes_rise;
    left_from = t.first;
    lost_from = t.first + length (slips_of b.waiting);
    taken_below = t.takes_below;
    left_within = run_front t.first (slips_of b.waiting) b.lost t.run;
    lost_above = run_above (t.first + length (slips_of b.waiting)) t.first b.lost (omega arith) (run_back t.first (slips_of b.waiting) b.lost t.run);
  }

  -- no slip is told yet
  pub fresh_tied : (puts takes : List (List Slip)) → Every (λ l. l ≡ []) puts → Every (λ l. l ≡ []) takes → IsTied {K = K} empty puts takes
  fresh_tied puts takes p t = record {
    first = 0;
    run = tt;
    ends = refl;
    numbers = λ n. none_in (λ (s : Slip). eqb s.number n) puts p ∙ sym (none_below n);
    stands = λ s.
        let a = none_in (is_same s) puts p in
        let b = none_in (is_same s) takes t in
        omega (arith, a, b);
    open_lost = λ _. refl;
    puts_rise = all_map (λ (l : List Slip). l ≡ []) IsRising (λ l e. subst IsRising (sym e) tt) puts p;
    puts_below = all_map (λ (l : List Slip). l ≡ []) (Every (IsBelow 0)) (λ l e. subst (Every (IsBelow 0)) (sym e) tt) puts p;
    takes_rise = all_map (λ (l : List Slip). l ≡ []) IsRising (λ l e. subst IsRising (sym e) tt) takes t;
    takes_below = all_map (λ (l : List Slip). l ≡ []) (Every (IsBelow 0)) (λ l e. subst (Every (IsBelow 0)) (sym e) tt) takes t;
  }

  -- the same of the lists as they are answered
  pub settled_as : (b : Book K) (puts takes puts' takes' : List (List Slip)) (lost' : List Slip) (left' : List (Slip × K)) → IsTied b puts takes
      → puts' ≡ puts → takes' ≡ takes → lost' ≡ b.lost → left' ≡ b.waiting → IsSettled puts' takes' lost' (slips_of left')
  settled_as b puts takes puts' takes' lost' left' t p q l w =
      subst (λ z. IsSettled z takes' lost' (slips_of left')) (sym p)
      (subst (λ z. IsSettled puts z lost' (slips_of left')) (sym q)
      (subst (λ z. IsSettled puts takes z (slips_of left')) (sym l)
      (subst (λ z. IsSettled puts takes b.lost (slips_of z)) (sym w) (settled b puts takes t))))

  -- a box as it is made
  pub makes : (putters takers : ℕ) (stock : Stock K) (puts takes : List Share) → stock.book ≡ empty → stock.seats ≡ seats_of putters takers
      → AreFresh putters puts → AreFresh takers takes → Makes putters takers stock puts takes
  makes putters takers stock puts takes book seats p t = record {
    book = book;
    seats = seats;
    tied = subst (λ b. IsTied b (slips_in puts) (slips_in takes)) (sym book) (fresh_tied (slips_in puts) (slips_in takes) p.empty t.empty);
    putters_are = p.count_is;
    takers_are = t.count_is;
  }
