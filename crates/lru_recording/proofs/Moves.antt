-- Each step keeps the ties.
use Rattle.std.proofs.Common.{◌≡◌, ◌≢◌, ◌⊎◌, ℕ, zero, suc, ◌+◌, ◌<◌, ◌≤◌, ◌==◌, if◌then◌else◌, Bool, cond, List, [], ◌∷◌, ◌++◌, set, take, drop, sym, refl, ap, ◌∙◌, subst, inl, inr, ⊎_elim, arith, append-nil}
use Rattle.std.proofs.lemmas.Bool.{eq-eqb, ne_eqb}
use mathlib.Core.Option.{some, none, some-ne-none, some-injective}
use native.Mathlib.Decide.{ℕ_discrete}
use lib.ListN.{get_elem?}
use Rattle.atomic_table.specs.Table.{State, Me, keeps, step, Allows, Splits, Joins}
use Rattle.atomic_table.proofs.Lists.{at_set, at_snoc, set_else, set_again}
use Rattle.lru_recording.specs.declared.entry.Stamp.{Stamp}
use Rattle.lru_recording.specs.declared.entry.Hand.{Hand}
use Rattle.lru_recording.specs.declared.entry.Names.{Names}
use Rattle.lru_short_locks.specs.Hands.{total, times, up, Among, Held}
use Rattle.lru_short_locks.proofs.Hands.{among_left, among_right, among_either, set_at, at_most, two_within, total_append, among_times, times_up, up_below, held_at, held_find, held_to, held_from, split_to, split_from, join_to, join_from, total_split, total_join, total_same, take_drop, none_in, one_of}
use Rattle.lru_recording.specs.Ties.{hand, Owns, AllOwn, Ties, HasSlips, stamped, Stamps, Shows, Looks, joined}

own_set : (vs : List Hand) (i : ℕ) (w : Hand) → Owns w → AllOwn vs → AllOwn (set vs i w)
own_set vs i w q h j u e = ⊎_elim (λ (t : (j ≡ i) × (w ≡ u)). subst Owns t.1 q) (λ (t : (j ≢ i) × (get_elem? vs j ≡ some u)). h j u t.1) (at_set vs i j w u e)

own_snoc : (vs : List Hand) (w : Hand) → Owns w → AllOwn vs → AllOwn (vs ++ w ∷ [])
own_snoc vs w q h j u e = ⊎_elim (λ (d : get_elem? vs j ≡ some u). h j u d) (λ (t : w ≡ u). subst Owns t q) (at_snoc vs w u j e)

-- what it takes to cut v into l and r
pub record Cuts (v l r : Hand) : Type 0 where
  pub shards : (x : ℕ) → times x l.shards + times x r.shards ≡ times x v.shards
  pub seats : (x : ℕ) → times x l.seats + times x r.seats ≡ times x v.seats
  pub own_l : Owns v → Owns l
  pub own_r : Owns v → Owns r
  pub book_to : (x : Stamp) → Among x v.book → Among x l.book ⊎ Among x r.book
  pub book_l : (x : Stamp) → Among x l.book → Among x v.book
  pub book_r : (x : Stamp) → Among x r.book → Among x v.book
  pub slips_to : (x : Stamp) → Among x v.slips → Among x l.slips ⊎ Among x r.slips
  pub slips_l : (x : Stamp) → Among x l.slips → Among x v.slips
  pub slips_r : (x : Stamp) → Among x r.slips → Among x v.slips

ties_split : (k : Names) (vs : List Hand) (i : ℕ) (v l r : Hand) → Cuts v l r → Ties k vs → get_elem? vs i ≡ some v → Ties k (set vs i l ++ r ∷ [])
ties_split k vs i v l r cut t at = let B : Hand → List Stamp = λ u. u.book in let S : Hand → List Stamp = λ u. u.slips in record {
  shards = λ x. total_split (λ u. times x u.shards) vs i v l r at (cut.shards x) ∙ t.shards x;
  seats = λ x. total_split (λ u. times x u.seats) vs i v l r at (cut.seats x) ∙ t.seats x;
  own = own_snoc (set vs i l) r (cut.own_r (t.own i v at)) (own_set vs i l (cut.own_l (t.own i v at)) t.own);
  slipped = λ x h. split_to S x vs i v l r at (cut.slips_to x) (t.slipped x (split_from B x vs i v l r at (cut.book_l x) (cut.book_r x) h));
  booked = λ x h. split_to B x vs i v l r at (cut.book_to x) (t.booked x (split_from S x vs i v l r at (cut.slips_l x) (cut.slips_r x) h));
}

pub splits : (k : Names) (i : ℕ) (v l r : Hand) → Cuts v l r → Splits (λ (s : State Stamp Hand). Ties k s.views) i v l r
splits k i v l r cut s t at = ties_split k s.views i v l r cut t at

pub cuts_lend : (v : Hand) → Cuts v (hand [] [] [] []) v
cuts_lend v = record {
  shards = λ x. omega arith;
  seats = λ x. omega arith;
  own_l = λ o. ((λ x a. absurd a), (λ x a. absurd a));
  own_r = λ o. o;
  book_to = λ x a. inr a;
  book_l = λ x a. absurd a;
  book_r = λ x a. a;
  slips_to = λ x a. inr a;
  slips_l = λ x a. absurd a;
  slips_r = λ x a. a;
}

pub cuts_parts : (v : Hand) → Cuts v (hand v.shards [] v.book []) (hand [] v.seats [] v.slips)
cuts_parts v = record {
  shards = λ x. omega arith;
  seats = λ x. omega arith;
  own_l = λ o. (o.0, (λ x a. absurd a));
  own_r = λ o. ((λ x a. absurd a), o.1);
  book_to = λ x a. inl a;
  book_l = λ x a. a;
  book_r = λ x a. absurd a;
  slips_to = λ x a. inr a;
  slips_l = λ x a. absurd a;
  slips_r = λ x a. a;
}

pub cuts_apart : (v : Hand) → Cuts v (hand [] v.seats [] v.slips) (hand v.shards [] v.book [])
cuts_apart v = record {
  shards = λ x. omega arith;
  seats = λ x. omega arith;
  own_l = λ o. ((λ x a. absurd a), o.1);
  own_r = λ o. (o.0, (λ x a. absurd a));
  book_to = λ x a. inr a;
  book_l = λ x a. absurd a;
  book_r = λ x a. a;
  slips_to = λ x a. inl a;
  slips_l = λ x a. a;
  slips_r = λ x a. absurd a;
}

pub cuts_shard : (v : Hand) → v.book ≡ [] → v.slips ≡ [] → Cuts v (hand (drop 1 v.shards) v.seats [] []) (hand (take 1 v.shards) [] [] [])
cuts_shard v b s = record {
  shards = λ x. take_drop _ v.shards;
  seats = λ x. omega arith;
  own_l = λ o. ((λ x a. absurd a), (λ x a. absurd a));
  own_r = λ o. ((λ x a. absurd a), (λ x a. absurd a));
  book_to = λ x a. absurd (none_in x v.book b a);
  book_l = λ x a. absurd a;
  book_r = λ x a. absurd a;
  slips_to = λ x a. absurd (none_in x v.slips s a);
  slips_l = λ x a. absurd a;
  slips_r = λ x a. absurd a;
}

pub cuts_seat : (v : Hand) → v.book ≡ [] → v.slips ≡ [] → Cuts v (hand v.shards (drop 1 v.seats) [] []) (hand [] (take 1 v.seats) [] [])
cuts_seat v b s = record {
  shards = λ x. omega arith;
  seats = λ x. take_drop _ v.seats;
  own_l = λ o. ((λ x a. absurd a), (λ x a. absurd a));
  own_r = λ o. ((λ x a. absurd a), (λ x a. absurd a));
  book_to = λ x a. absurd (none_in x v.book b a);
  book_l = λ x a. absurd a;
  book_r = λ x a. absurd a;
  slips_to = λ x a. absurd (none_in x v.slips s a);
  slips_l = λ x a. absurd a;
  slips_r = λ x a. absurd a;
}

both_own : (v w : Hand) → Owns v → Owns w → Owns (joined v w)
both_own v w p q = (
  (λ x a. ⊎_elim (λ b. among_left x.shard v.shards w.shards (p.0 x b)) (λ b. among_right x.shard v.shards w.shards (q.0 x b)) (among_either x v.book w.book a)),
  (λ x a. ⊎_elim (λ b. among_left x.seat v.seats w.seats (p.1 x b)) (λ b. among_right x.seat v.seats w.seats (q.1 x b)) (among_either x v.slips w.slips a)),
)

ties_join : (k : Names) (vs : List Hand) (i j : ℕ) (v w : Hand) → Ties k vs → get_elem? vs i ≡ some v → j ≢ i → get_elem? (set vs i (joined v w)) j ≡ some w → Ties k (set (set vs i (joined v w)) j (hand [] [] [] []))
ties_join k vs i j v w t at apart beside' =
    let B : Hand → List Stamp = λ u. u.book in let S : Hand → List Stamp = λ u. u.slips in
    let b : Hand = joined v w in let n : Hand = hand [] [] [] [] in
    let there : get_elem? vs j ≡ some w = sym (set_else vs i j b apart) ∙ beside' in
    record {
      shards = λ x. total_join (λ u. times x u.shards) vs i j v w b n at beside' (total_append _ v.shards w.shards) refl ∙ t.shards x;
      seats = λ x. total_join (λ u. times x u.seats) vs i j v w b n at beside' (total_append _ v.seats w.seats) refl ∙ t.seats x;
      own = own_set (set vs i b) j n ((λ x a. absurd a), (λ x a. absurd a)) (own_set vs i b (both_own v w (t.own i v at) (t.own j w there)) t.own);
      slipped = λ x h. join_to S x vs i j v w b n at apart there (among_left x v.slips w.slips) (among_right x v.slips w.slips) (t.slipped x (join_from B x vs i j v w b n at apart there (among_either x v.book w.book) (λ a. a) h));
      booked = λ x h. join_to B x vs i j v w b n at apart there (among_left x v.book w.book) (among_right x v.book w.book) (t.booked x (join_from S x vs i j v w b n at apart there (among_either x v.slips w.slips) (λ a. a) h));
    }

pub joins : (k : Names) (i j : ℕ) (v w : Hand) → Joins (λ (s : State Stamp Hand). Ties k s.views) i v j w (joined v w) (hand [] [] [] [])
joins k i j v w s t at apart there = ties_join k s.views i j v w t at apart there

pub begins : (k : Names) → Ties k (hand (up 0 k.shards) (up 0 k.seats) [] [] ∷ [])
begins k = record {
  shards = λ x. omega arith;
  seats = λ x. omega arith;
  own = one;
  slipped = λ x h. ⊎_elim (λ a. absurd a) (λ a. absurd a) h;
  booked = λ x h. ⊎_elim (λ a. absurd a) (λ a. absurd a) h;
}
  where
    one : (j : ℕ) (v : Hand) → get_elem? (hand (up 0 k.shards) (up 0 k.seats) [] [] ∷ []) j ≡ some v → Owns v
    one zero v e = subst Owns (some-injective _ v e) ((λ x a. absurd a), (λ x a. absurd a))
    one (suc j) v e = absurd (some-ne-none v (sym e))

-- who else has a number of this hand has none
module _ (k : Names) (vs : List Hand) (i : ℕ) (v : Hand) (t : Ties k vs) (at : get_elem? vs i ≡ some v) where
  same_hand : (f : Hand → List ℕ) (n y : ℕ) → total (λ u. times y (f u)) vs ≡ times y (up 0 n) → Among y (f v) → (j : ℕ) (u : Hand) → get_elem? vs j ≡ some u → Among y (f u) → u ≡ v
  same_hand f n y all mine j u e theirs = by_place (ℕ_discrete j i)
    where
      by_place : Dec (j ≡ i) → u ≡ v
      by_place (yes same) = some-injective u v (sym e ∙ ap (λ m. get_elem? vs m) same ∙ at)
      by_place (no apart) = absurd (omega (arith, two_within (λ (z : Hand). times y (f z)) vs i j v u apart at e, all, times_up y 0 n, among_times y (f v) mine, among_times y (f u) theirs))

  pub has_slips : HasSlips v
  has_slips x a mine =
      let r = held_find (λ u. u.slips) x vs (t.slipped x (held_at (λ u. u.book) x vs i v at a)) in
      subst (λ (u : Hand). Among x u.slips) (same_hand (λ u. u.seats) k.seats x.seat (t.seats x.seat) mine r.0 r.1 r.2 ((t.own r.0 r.1 r.2).1 x r.3)) r.3

  has_book : (x : Stamp) → Among x v.slips → Among x.shard v.shards → Among x v.book
  has_book x a mine =
      let r = held_find (λ u. u.book) x vs (t.booked x (held_at (λ u. u.slips) x vs i v at a)) in
      subst (λ (u : Hand). Among x u.book) (same_hand (λ u. u.shards) k.shards x.shard (t.shards x.shard) mine r.0 r.1 r.2 ((t.own r.0 r.1 r.2).0 x r.3)) r.3

  a_seat : (x : Stamp) → Among x v.book → x.seat < k.seats
  a_seat x a =
      let r = held_find (λ u. u.slips) x vs (t.slipped x (held_at (λ u. u.book) x vs i v at a)) in
      omega (arith, up_below x.seat 0 k.seats (omega (arith, at_most (λ (u : Hand). times x.seat u.seats) vs r.0 r.1 r.2, t.seats x.seat, among_times x.seat r.1.seats ((t.own r.0 r.1 r.2).1 x r.3))))

  a_shard : (x : Stamp) → Among x v.slips → x.shard < k.shards
  a_shard x a =
      let r = held_find (λ u. u.book) x vs (t.booked x (held_at (λ u. u.slips) x vs i v at a)) in
      omega (arith, up_below x.shard 0 k.shards (omega (arith, at_most (λ (u : Hand). times x.shard u.shards) vs r.0 r.1 r.2, t.shards x.shard, among_times x.shard r.1.shards ((t.own r.0 r.1 r.2).0 x r.3))))

  pub shows : Shows k.shards k.seats v
  shows = record {
    once = λ x. omega (arith, at_most (λ (u : Hand). times x u.shards) vs i v at, t.shards x);
    slips = has_slips;
    book = has_book;
    of_seat = a_seat;
    of_shard = a_shard;
  }

-- a stamp goes into the book and among the slips of one hand
module _ (x y : Stamp) (vs : List Hand) (i : ℕ) (v : Hand) (at : get_elem? vs i ≡ some v) where
  abbrev w : Hand
  w = stamped (some x) v

  stamp_to : (f g : Hand → List Stamp) → f w ≡ f v ++ x ∷ [] → g w ≡ g v ++ x ∷ [] → (Held f y vs → Held g y vs) → Held f y (set vs i w) → Held g y (set vs i w)
  stamp_to f g fw gw old h =
      let keep : Held g y vs → Held g y (set vs i w) = λ h'. ⊎_elim (λ a. held_at g y (set vs i w) i w (set_at vs i v w at) (subst (Among y) (sym gw) (among_left y (g v) (x ∷ []) a))) (λ k. k) (held_to g y vs i v w at h') in
      ⊎_elim
      (λ a. ⊎_elim
      (λ b. keep (old (held_at f y vs i v at b)))
      (λ b. held_at g y (set vs i w) i w (set_at vs i v w at) (subst (Among y) (sym gw) (among_right y (g v) (x ∷ []) b)))
      (among_either y (f v) (x ∷ []) (subst (Among y) fw a)))
      (λ b. keep (old b))
      (held_from f y vs i w h)

own_stamp : (v : Hand) (x : Stamp) → Among x.shard v.shards → Among x.seat v.seats → Owns v → Owns (stamped (some x) v)
own_stamp v x s t o = (
  (λ y a. ⊎_elim (λ b. o.0 y b) (λ b. subst (λ (z : Stamp). Among z.shard v.shards) (sym (one_of y x b)) s) (among_either y v.book (x ∷ []) a)),
  (λ y a. ⊎_elim (λ b. o.1 y b) (λ b. subst (λ (z : Stamp). Among z.seat v.seats) (sym (one_of y x b)) t) (among_either y v.slips (x ∷ []) a)),
)

ties_stamp : (k : Names) (vs : List Hand) (i : ℕ) (v : Hand) (x : Stamp) → Among x.shard v.shards → Among x.seat v.seats → Ties k vs → get_elem? vs i ≡ some v → Ties k (set vs i (stamped (some x) v))
ties_stamp k vs i v x shard seat t at = let B : Hand → List Stamp = λ u. u.book in let S : Hand → List Stamp = λ u. u.slips in let w : Hand = stamped (some x) v in record {
  shards = λ y. total_same (λ u. times y u.shards) vs i v w at refl ∙ t.shards y;
  seats = λ y. total_same (λ u. times y u.seats) vs i v w at refl ∙ t.seats y;
  own = own_set vs i w (own_stamp v x shard seat (t.own i v at)) t.own;
  slipped = λ y. stamp_to x y vs i v at B S refl refl (t.slipped y);
  booked = λ y. stamp_to x y vs i v at S B refl refl (t.booked y);
}

pub stamps : (k : Names) (slots id i a b : ℕ) (me : Me Stamp Hand) (f : ℕ → ℕ) (x : Stamp) → Among x.shard me.0.shards → Among x.seat me.0.seats → Allows (λ (s : State Stamp Hand). Ties k s.views) slots id me i f (Stamps (step slots i a b (some x)) me)
stamps k slots id i a b me f x shard seat s t wide at fits = (stamped (some x) me.0, keeps, tt, ties_stamp k s.views id me.0 x shard seat t at, (refl, has_slips k s.views id me.0 t at))

pub looks : (k names : Names) (slots id i : ℕ) (me : Me Stamp Hand) (f : ℕ → ℕ) → k ≡ names → Allows (λ (s : State Stamp Hand). Ties k s.views) slots id me i f (Looks (step slots i names.shards names.seats none) me)
looks k names slots id i me f same s t wide at fits = (
  me.0,
  keeps,
  tt,
  subst (Ties k) (sym (set_again s.views id me.0 at)) t,
  (refl, subst (λ (n : Names). Shows n.shards n.seats me.0) same (shows k s.views id me.0 t at)),
)

-- a hand of shards and a lent hand of seats, put together
pub together : (ss is : List ℕ) (b p : List Stamp) (book seat lent both : Me Stamp Hand) → book ≡ (hand ss [] b [], []) → seat ≡ (hand [] is [] p, []) → lent ≡ (seat.0, []) → both ≡ (joined book.0 lent.0, book.1) → both ≡ (hand ss is b p, [])
together ss is b p book seat lent both of_book of_seat of_lent of_both =
    of_both ∙ (λ i. (joined (of_book i).0 ((of_lent ∙ ap (λ (m : Me Stamp Hand). (m.0, [])) of_seat) i).0, (of_book i).1)) ∙ (λ i. (hand (append-nil ss i) is (append-nil b i) p, []))

-- a hand of seats and a lent hand of shards, put together
pub together_seat : (ss is : List ℕ) (b p : List Stamp) (book seat lent both : Me Stamp Hand) → book ≡ (hand ss [] b [], []) → seat ≡ (hand [] is [] p, []) → lent ≡ (book.0, []) → both ≡ (joined seat.0 lent.0, seat.1) → both ≡ (hand ss is b p, [])
together_seat ss is b p book seat lent both of_book of_seat of_lent of_both =
    of_both ∙ (λ i. (joined (of_seat i).0 ((of_lent ∙ ap (λ (m : Me Stamp Hand). (m.0, [])) of_book) i).0, (of_seat i).1)) ∙ (λ i. (hand ss (append-nil is i) b (append-nil p i), []))
