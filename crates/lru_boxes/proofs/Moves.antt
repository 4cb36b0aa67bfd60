-- Each step keeps the ties.
use Rattle.std.proofs.Common.{◌≡◌, ◌≢◌, ◌⊎◌, ℕ, zero, suc, ◌+◌, ◌<◌, ◌≤◌, ◌==◌, if◌then◌else◌, Bool, cond, List, [], ◌∷◌, ◌++◌, length, map, set, take, drop, Some, None, sym, refl, ap, ◌∙◌, subst, inl, inr, ⊎_elim, arith, append-nil}
use Rattle.std.specs.Prelude.{slice_get, slice_set}
use Rattle.std.proofs.lemmas.Bool.{eq-eqb, ne_eqb}
use Rattle.std.proofs.lemmas.List.{length-append}
use mathlib.Core.Option.{some, none, some-ne-none, some-injective}
use native.Mathlib.Decide.{ℕ_discrete}
use lib.ListN.{get_elem?}
use Rattle.atomic_table.specs.Table.{State, Me, keeps, step, Allows, Splits, Joins}
use Rattle.atomic_table.proofs.Lists.{at_set, at_snoc, set_else, set_again}
use Rattle.lru_mailbox.specs.declared.slip.Slip.{Slip}
use Rattle.lru_boxes.specs.declared.hand.SeatSlips.{SeatSlips}
use Rattle.lru_boxes.specs.declared.hand.DeskHand.{DeskHand}
use Rattle.lru_short_locks.specs.Hands.{total, Among, Held}
use Rattle.lru_short_locks.proofs.Hands.{none_some, among_either, among_length, at_most, two_within, total_append, counts_one, counts_none, held_at, held_find, split_from, join_from, total_split, total_join, total_same, take_drop, dropped, taken, one_of}
use Rattle.lru_boxes.specs.Ties.{kept, hand, of_desk, of_seat, known, own, blank_lists, blank_seats, named, Agrees, Ties, noted, Shows, Notes, Looks, joined}

-- a seat among these has its number among them
pub among_named : (s : SeatSlips) (seats : List SeatSlips) → Among s seats → 0 < named s.number seats
among_named s [] a = absurd a
among_named s (t ∷ ts) (inl e) = omega (arith, counts_one s.number t.number (ap (λ (z : SeatSlips). z.number) (sym e)))
among_named s (t ∷ ts) (inr a) = let ih = among_named s ts a in omega (arith, ih)

none_before : (n from count : ℕ) → n < from → named n (blank_seats from count) ≡ 0
none_before n from zero h = refl
none_before n from (suc count) h = omega (arith, none_before n (suc from) count (omega (arith, h)), counts_none n from (λ e. omega (arith, h, e)))

-- of blank seats each number stands once
named_blank : (n from count : ℕ) → named n (blank_seats from count) ≤ 1
named_blank n from zero = omega arith
named_blank n from (suc count) = by_first (ℕ_discrete from n) (named_blank n (suc from) count)
  where
    by_first : Dec (from ≡ n) → named n (blank_seats (suc from) count) ≤ 1 → named n (blank_seats from (suc count)) ≤ 1
    by_first (yes e) rest = omega (arith, none_before n (suc from) count (omega (arith, e)), counts_one n from e)
    by_first (no e) rest = omega (arith, rest, counts_none n from e)

-- what it takes to cut v into l and r
pub record Cuts (v l r : DeskHand) : Type 0 where
  pub desks : length l.desks + length r.desks ≡ length v.desks
  pub seats : (n : ℕ) → named n l.seats + named n r.seats ≡ named n v.seats
  pub desks_l : (x : List (List Slip)) → Among x l.desks → Among x v.desks
  pub desks_r : (x : List (List Slip)) → Among x r.desks → Among x v.desks
  pub seats_l : (x : SeatSlips) → Among x l.seats → Among x v.seats
  pub seats_r : (x : SeatSlips) → Among x r.seats → Among x v.seats

ties_split : (vs : List DeskHand) (i : ℕ) (v l r : DeskHand) → Cuts v l r → Ties vs → get_elem? vs i ≡ some v → Ties (set vs i l ++ r ∷ [])
ties_split vs i v l r cut t at = record {
  one_desk = let a = total_split (λ u. length u.desks) vs i v l r at cut.desks in let b = t.one_desk in omega (arith, a, b);
  once = λ n. let a = total_split (λ u. named n u.seats) vs i v l r at (cut.seats n) in let b = t.once n in omega (arith, a, b);
  agree = λ lists s d h. t.agree lists s (split_from (λ u. u.desks) lists vs i v l r at (cut.desks_l lists) (cut.desks_r lists) d) (split_from (λ u. u.seats) s vs i v l r at (cut.seats_l s) (cut.seats_r s) h);
}

pub splits : (i : ℕ) (v l r : DeskHand) → Cuts v l r → Splits (λ (s : State (Unit {0}) DeskHand). Ties s.views) i v l r
splits i v l r cut s t at = ties_split s.views i v l r cut t at

pub cuts_lend : (v : DeskHand) → Cuts v (hand [] []) v
cuts_lend v = record {
  desks = omega arith;
  seats = λ n. omega arith;
  desks_l = λ x a. absurd a;
  desks_r = λ x a. a;
  seats_l = λ x a. absurd a;
  seats_r = λ x a. a;
}

pub cuts_parts : (v : DeskHand) → Cuts v (hand v.desks []) (hand [] v.seats)
cuts_parts v = record {
  desks = omega arith;
  seats = λ n. omega arith;
  desks_l = λ x a. a;
  desks_r = λ x a. absurd a;
  seats_l = λ x a. absurd a;
  seats_r = λ x a. a;
}

pub cuts_seat : (v : DeskHand) → Cuts v (hand v.desks (drop 1 v.seats)) (hand [] (take 1 v.seats))
cuts_seat v = record {
  desks = omega arith;
  seats = λ n. take_drop _ v.seats;
  desks_l = λ x a. a;
  desks_r = λ x a. absurd a;
  seats_l = λ x a. dropped x v.seats a;
  seats_r = λ x a. taken x v.seats a;
}

ties_join : (vs : List DeskHand) (i j : ℕ) (v w : DeskHand) → Ties vs → get_elem? vs i ≡ some v → j ≢ i → get_elem? (set vs i (joined v w)) j ≡ some w → Ties (set (set vs i (joined v w)) j (hand [] []))
ties_join vs i j v w t at apart beside =
    let b : DeskHand = joined v w in let n : DeskHand = hand [] [] in
    let there : get_elem? vs j ≡ some w = sym (set_else vs i j b apart) ∙ beside in
    record {
      one_desk = let a = total_join (λ u. length u.desks) vs i j v w b n at beside (length-append v.desks w.desks) refl in let o = t.one_desk in omega (arith, a, o);
      once = λ m. let a = total_join (λ u. named m u.seats) vs i j v w b n at beside (total_append _ v.seats w.seats) refl in let o = t.once m in omega (arith, a, o);
      agree = λ lists s d h. t.agree lists s
          (join_from (λ u. u.desks) lists vs i j v w b n at apart there (among_either lists v.desks w.desks) (λ a. a) d)
          (join_from (λ u. u.seats) s vs i j v w b n at apart there (among_either s v.seats w.seats) (λ a. a) h);
    }

pub joins : (i j : ℕ) (v w : DeskHand) → Joins (λ (s : State (Unit {0}) DeskHand). Ties s.views) i v j w (joined v w) (hand [] [])
joins i j v w s t at apart there = ties_join s.views i j v w t at apart there

-- blank lists have nothing of each blank seat
blank_get : (n count : ℕ) → n < count → slice_get (blank_lists count) n ≡ Some []
blank_get n zero h = absurd (omega (arith, h))
blank_get zero (suc count) h = refl
blank_get (suc n) (suc count) h = blank_get n count (omega (arith, h))

blank_among : (s : SeatSlips) (from count : ℕ) → Among s (blank_seats from count) → (s.slips ≡ []) × (s.number < from + count)
blank_among s from zero a = absurd a
blank_among s from (suc count) (inl e) = (ap (λ (z : SeatSlips). z.slips) e, let n : s.number ≡ from = ap (λ (z : SeatSlips). z.number) e in omega (arith, n))
blank_among s from (suc count) (inr a) = let r = blank_among s (suc from) count a in (r.0, let n = r.1 in omega (arith, n))

pub begins : (count : ℕ) → Ties (hand (blank_lists count ∷ []) (blank_seats 0 count) ∷ [])
begins count = record {
  one_desk = omega arith;
  once = λ n. let b = named_blank n 0 count in omega (arith, b);
  agree = λ lists s d h. blank_agrees lists s (one_held d) (one_kept s h);
}
  where
    one_held : {lists : List (List Slip)} → Among lists (blank_lists count ∷ []) ⊎ ⊥ → lists ≡ blank_lists count
    one_held (inl (inl e)) = e
    one_held (inl (inr a)) = absurd a
    one_held (inr a) = absurd a

    one_kept : (s : SeatSlips) → Among s (blank_seats 0 count) ⊎ ⊥ → Among s (blank_seats 0 count)
    one_kept s (inl a) = a
    one_kept s (inr a) = absurd a

    blank_agrees : (lists : List (List Slip)) (s : SeatSlips) → lists ≡ blank_lists count → Among s (blank_seats 0 count) → Agrees lists s
    blank_agrees lists s e a =
        let r = blank_among s 0 count a in
        ap (λ l. slice_get l s.number) e ∙ blank_get s.number count (let n = r.1 in omega (arith, n)) ∙ ap (λ (l : List Slip). Some l) (sym r.0)

-- what a hand shows
pub shows : (vs : List DeskHand) (i : ℕ) (v : DeskHand) → Ties vs → get_elem? vs i ≡ some v → Shows v
shows vs i v t at = record {
  once = λ n. let a = at_most (λ (u : DeskHand). named n u.seats) vs i v at in let b = t.once n in omega (arith, a, b);
  agree = λ lists s d h. t.agree lists s (held_at (λ u. u.desks) lists vs i v at d) (held_at (λ u. u.seats) s vs i v at h);
}

pub looks : (slots id i a b : ℕ) (me : Me (Unit {0}) DeskHand) → Allows (λ (s : State (Unit {0}) DeskHand). Ties s.views) slots id me i (λ n. n) (Looks (step slots i a b none) me)
looks slots id i a b me s t wide at fits = (
  me.0,
  keeps,
  tt,
  subst Ties (sym (set_again s.views id me.0 at)) t,
  (refl, shows s.views id me.0 t at),
)

-- lists of which one gets one slip more
pub set_get : {A : Type 0} (xs : List A) (k : ℕ) (x y : A) → slice_get xs k ≡ Some x → slice_get (slice_set xs k y) k ≡ Some y
set_get [] k x y e = absurd (none_some x e)
set_get (z ∷ zs) zero x y e = refl
set_get (z ∷ zs) (suc k) x y e = set_get zs k x y e

pub set_other : {A : Type 0} (xs : List A) (k j : ℕ) (y : A) → j ≢ k → slice_get (slice_set xs k y) j ≡ slice_get xs j
set_other [] k j y n = refl
set_other (z ∷ zs) zero zero y n = absurd (n refl)
set_other (z ∷ zs) zero (suc j) y n = refl
set_other (z ∷ zs) (suc k) zero y n = refl
set_other (z ∷ zs) (suc k) (suc j) y n = set_other zs k j y (λ e. n (ap suc e))

-- a slip is noted in a hand of the desk and one seat
module _ (vs : List DeskHand) (i : ℕ) (lists : List (List Slip)) (q : SeatSlips) (x : Slip) (t : Ties vs) (at : get_elem? vs i ≡ some (hand (lists ∷ []) (q ∷ []))) where
  abbrev v : DeskHand
  v = hand (lists ∷ []) (q ∷ [])

  abbrev more : List Slip
  more = q.slips ++ x ∷ []

  abbrev lists' : List (List Slip)
  lists' = slice_set lists q.number more

  abbrev w : DeskHand
  w = hand (lists' ∷ []) (kept q.number more ∷ [])

  agrees : Agrees lists q
  agrees = t.agree lists q (held_at (λ u. u.desks) lists vs i v at (inl refl)) (held_at (λ u. u.seats) q vs i v at (inl refl))

  -- no other hand has a desk
  only_desk : (l : List (List Slip)) → Held (λ u. u.desks) l (set vs i w) → l ≡ lists'
  only_desk l h = let r = held_find (λ u. u.desks) l (set vs i w) h in ⊎_elim
      (λ (e : (r.0 ≡ i) × (w ≡ r.1)). one_of l lists' (subst (λ (u : DeskHand). Among l u.desks) (sym e.1) r.3))
      (λ (e : (r.0 ≢ i) × (get_elem? vs r.0 ≡ some r.1)).
      let two = two_within (λ (u : DeskHand). length u.desks) vs i r.0 v r.1 e.0 at e.1 in
      let o = t.one_desk in
      let a = among_length l r.1.desks r.3 in
      absurd (omega (arith, two, o, a)))
      (at_set vs i r.0 w r.1 r.2)

  -- another seat has another number
  same_or_else : (s : SeatSlips) → Held (λ u. u.seats) s (set vs i w) → (s ≡ kept q.number more) ⊎ ((s.number ≢ q.number) × Held (λ u. u.seats) s vs)
  same_or_else s h = let r = held_find (λ u. u.seats) s (set vs i w) h in ⊎_elim
      (λ (e : (r.0 ≡ i) × (w ≡ r.1)). inl (one_of s (kept q.number more) (subst (λ (u : DeskHand). Among s u.seats) (sym e.1) r.3)))
      (λ (e : (r.0 ≢ i) × (get_elem? vs r.0 ≡ some r.1)). inr (
        (λ (same : s.number ≡ q.number).
            let two = two_within (λ (u : DeskHand). named q.number u.seats) vs i r.0 v r.1 e.0 at e.1 in
            let o = t.once q.number in
            let a : 0 < named q.number r.1.seats = subst (λ n. 0 < named n r.1.seats) same (among_named s r.1.seats r.3) in
            let b = counts_one q.number q.number refl in
            omega (arith, two, o, a, b)),
        held_at (λ u. u.seats) s vs r.0 r.1 e.1 r.3,
      ))
      (at_set vs i r.0 w r.1 r.2)

  still_agrees : (s : SeatSlips) → (s ≡ kept q.number more) ⊎ ((s.number ≢ q.number) × Held (λ u. u.seats) s vs) → Agrees lists' s
  still_agrees s (inl e) = subst (Agrees lists') (sym e) (set_get lists q.number q.slips more agrees)
  still_agrees s (inr e) = set_other lists q.number s.number more e.0 ∙ t.agree lists s (held_at (λ u. u.desks) lists vs i v at (inl refl)) e.1

  pub ties_noted : Ties (set vs i w)
  ties_noted = record {
    one_desk = let a = total_same (λ u. length u.desks) vs i v w at refl in let o = t.one_desk in omega (arith, a, o);
    once = λ n. let a = total_same (λ u. named n u.seats) vs i v w at refl in let o = t.once n in omega (arith, a, o);
    agree = λ l s d h. subst (λ (z : List (List Slip)). Agrees z s) (sym (only_desk l d)) (still_agrees s (same_or_else s h));
  }

-- a hand of the desk and one seat, whatever it knows
pub notes : (slots id i a b : ℕ) (me : Me (Unit {0}) DeskHand) (lists : List (List Slip)) (q : SeatSlips) (x : Slip) → me ≡ (hand (lists ∷ []) (q ∷ []), [])
    → Allows (λ (s : State (Unit {0}) DeskHand). Ties s.views) slots id me i (λ n. n) (Notes x (step slots i a b none) me)
notes slots id i a b me lists q x is s t wide at fits =
    let at' : get_elem? s.views id ≡ some (hand (lists ∷ []) (q ∷ [])) = at ∙ ap (λ (m : Me (Unit {0}) DeskHand). some m.0) is in (
      noted x me.0,
      keeps,
      tt,
      subst (λ (m : Me (Unit {0}) DeskHand). Ties (set s.views id (noted x m.0))) (sym is) (ties_noted s.views id lists q x t at'),
      (refl, shows s.views id me.0 t at),
    )

-- the desk's hand and a lent hand of a seat, put together
pub together : (lists : List (List Slip)) (n : ℕ) (slips : List Slip) (desk seat lent both : Me (Unit {0}) DeskHand) → desk ≡ (of_desk lists, []) → seat ≡ (of_seat n slips, []) → lent ≡ (seat.0, []) → both ≡ (joined desk.0 lent.0, desk.1) → both ≡ (hand (lists ∷ []) (kept n slips ∷ []), [])
together lists n slips desk seat lent both of_d of_s of_lent of_both =
    of_both ∙ (λ i. (joined (of_d i).0 ((of_lent ∙ ap (λ (m : Me (Unit {0}) DeskHand). (m.0, [])) of_s) i).0, (of_d i).1))
