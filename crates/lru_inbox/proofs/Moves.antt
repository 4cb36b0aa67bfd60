-- Each step keeps what is known of the logs.
use Rattle.std.proofs.Common.{◌≡◌, ◌≢◌, ◌⊎◌, ℕ, zero, suc, ◌+◌, ◌<◌, ◌≤◌, ◌==◌, if◌then◌else◌, List, [], ◌∷◌, ◌++◌, map, set, take, drop, sym, refl, ap, ◌∙◌, subst, inl, inr, ⊎_elim, arith, append-nil}
use mathlib.Core.Option.{some, none, some-injective}
use native.Mathlib.Decide.{ℕ_discrete}
use lib.ListN.{get_elem?}
use Rattle.atomic_table.specs.Table.{State, Me, keeps, step, Allows, Splits, Joins}
use Rattle.atomic_table.proofs.Lists.{at_set, set_else, set_again}
use Rattle.lru_short_locks.specs.Hands.{total, Among, Held}
use Rattle.lru_short_locks.proofs.Hands.{among_left, among_right, among_either, at_most, two_within, total_append, counts_one, counts_none, set_at, held_at, held_find, held_to, held_from, held_snoc_from, split_to, split_from, join_to, join_from, total_split, total_join, total_same, take_drop, dropped, taken, one_of}
use Rattle.lru_inbox.specs.declared.hand.Log.{Log}
use Rattle.lru_inbox.specs.declared.hand.Front.{Front}
use Rattle.lru_inbox.specs.declared.hand.LogHand.{LogHand}
use Rattle.lru_inbox.specs.Logs.{Begins, log, front, hand, accepted, front_of, begun, of_log, of_taker, of_fronts, put_in, taken_from, blank_logs, blank_fronts, logs_of, takers_of, IsTaken, IsSeen, Told, Logs, Shows, put_at, take_at, Puts, Takes, Looks, joined}

-- lists
append_one : {A : Type 0} (xs ys zs : List A) → (xs ++ ys) ++ zs ≡ xs ++ (ys ++ zs)
append_one [] ys zs = refl
append_one (x ∷ xs) ys zs = ap (λ l. x ∷ l) (append_one xs ys zs)

take_drop_whole : {A : Type 0} (n : ℕ) (xs : List A) → take n xs ++ drop n xs ≡ xs
take_drop_whole zero xs = refl
take_drop_whole (suc n) [] = refl
take_drop_whole (suc n) (x ∷ xs) = ap (λ l. x ∷ l) (take_drop_whole n xs)

first_or_rest : {A : Type 0} (x : A) (xs : List A) → Among x xs → Among x (drop 1 xs) ⊎ Among x (take 1 xs)
first_or_rest x [] a = absurd a
first_or_rest x (y ∷ ys) (inl e) = inr (inl e)
first_or_rest x (y ∷ ys) (inr a) = inl a

-- what begins goes on to begin where more is put
pub begins_more : {A : Type 0} (xs ys zs : List A) → Begins xs ys → Begins xs (ys ++ zs)
begins_more xs ys zs b = (b.0 ++ zs, sym (append_one xs b.0 zs) ∙ ap (λ l. l ++ zs) b.1)

module _ {E : Type 0} where
  -- by number
  among_log : (l : Log E) (logs : List (Log E)) → Among l logs → 0 < logs_of l.shard logs
  among_log l [] a = absurd a
  among_log l (m ∷ ms) (inl e) = omega (arith, counts_one l.shard m.shard (ap (λ (z : Log E). z.shard) (sym e)))
  among_log l (m ∷ ms) (inr a) = let ih = among_log l ms a in omega (arith, ih)

  among_taker : (t : Front E) (ts : List (Front E)) → Among t ts → 0 < takers_of t.shard ts
  among_taker t [] a = absurd a
  among_taker t (u ∷ us) (inl e) = omega (arith, counts_one t.shard u.shard (ap (λ (z : Front E). z.shard) (sym e)))
  among_taker t (u ∷ us) (inr a) = let ih = among_taker t us a in omega (arith, ih)

  -- where logs stay, what is told of them stays
  told_where : (is : Log E → Front E → Type 0) (f : Front E) (vs ws : List (LogHand E)) → ((l : Log E) → Held (λ (v : LogHand E). v.logs) l vs → Held (λ (v : LogHand E). v.logs) l ws) → Told is f vs → Told is f ws
  told_where is f vs ws stays t = (t.0, stays t.0 t.1, t.2, t.3)

  -- what it takes to cut v into l and r
  pub record Cuts (v l r : LogHand E) : Type 0 where
    pub logs : (n : ℕ) → logs_of n l.logs + logs_of n r.logs ≡ logs_of n v.logs
    pub takers : (n : ℕ) → takers_of n l.takers + takers_of n r.takers ≡ takers_of n v.takers
    pub stay : (x : Log E) → Among x v.logs → Among x l.logs ⊎ Among x r.logs
    pub takers_l : (x : Front E) → Among x l.takers → Among x v.takers
    pub takers_r : (x : Front E) → Among x r.takers → Among x v.takers
    pub fronts_l : (x : Front E) → Among x l.fronts → Among x v.fronts
    pub fronts_r : (x : Front E) → Among x r.fronts → Among x v.fronts ⊎ (((t : Front E) × (n : ℕ) × Among t v.takers × (x ≡ begun n t)) ⊎ ((y : Log E) × Among y v.logs × (x ≡ front_of y)))

  seen_taken : (n : ℕ) (t : Front E) (vs : List (LogHand E)) → Told IsTaken t vs → Told IsSeen (begun n t) vs
  seen_taken n t vs k = (
    k.0,
    k.1,
    k.2,
    (drop n t.seen ++ k.0.left, sym (append_one (take n t.seen) (drop n t.seen) k.0.left) ∙ ap (λ l. l ++ k.0.left) (take_drop_whole n t.seen ∙ sym k.3)),
  )

  seen_whole : (x : Front E) (y : Log E) (vs : List (LogHand E)) → Held (λ (v : LogHand E). v.logs) y vs → x ≡ front_of y → Told IsSeen x vs
  seen_whole x y vs h e = subst (λ (f : Front E). Told IsSeen f vs) (sym e) (y, h, refl, ([], append-nil (accepted y)))

  logs_split : (vs : List (LogHand E)) (i : ℕ) (v l r : LogHand E) → Cuts v l r → Logs vs → get_elem? vs i ≡ some v → Logs (set vs i l ++ r ∷ [])
  logs_split vs i v l r cut t at =
      let stay : (x : Log E) → Held (λ (u : LogHand E). u.logs) x vs → Held (λ (u : LogHand E). u.logs) x (set vs i l ++ r ∷ []) = λ x h. split_to (λ u. u.logs) x vs i v l r at (cut.stay x) h in
      record {
        one_log = λ n. let a = total_split (λ u. logs_of n u.logs) vs i v l r at (cut.logs n) in let b = t.one_log n in omega (arith, a, b);
        one_taker = λ n. let a = total_split (λ u. takers_of n u.takers) vs i v l r at (cut.takers n) in let b = t.one_taker n in omega (arith, a, b);
        taken = λ x h. told_where IsTaken x vs _ stay (t.taken x (split_from (λ u. u.takers) x vs i v l r at (cut.takers_l x) (cut.takers_r x) h));
        seen = λ x h. told_where IsSeen x vs _ stay (seen_in x h);
      }
    where
      of_right : (x : Front E) → Among x v.fronts ⊎ (((t : Front E) × (n : ℕ) × Among t v.takers × (x ≡ begun n t)) ⊎ ((y : Log E) × Among y v.logs × (x ≡ front_of y))) → Told IsSeen x vs
      of_right x (inl a) = t.seen x (held_at (λ u. u.fronts) x vs i v at a)
      of_right x (inr (inl a)) = subst (λ (f : Front E). Told IsSeen f vs) (sym a.3) (seen_taken a.1 a.0 vs (t.taken a.0 (held_at (λ u. u.takers) a.0 vs i v at a.2)))
      of_right x (inr (inr y)) = seen_whole x y.0 vs (held_at (λ u. u.logs) y.0 vs i v at y.1) y.2

      seen_in : (x : Front E) → Held (λ (u : LogHand E). u.fronts) x (set vs i l ++ r ∷ []) → Told IsSeen x vs
      seen_in x h = ⊎_elim
          (λ g. ⊎_elim (λ a. t.seen x (held_at (λ u. u.fronts) x vs i v at (cut.fronts_l x a))) (λ k. t.seen x k) (held_from (λ u. u.fronts) x vs i l g))
          (λ a. of_right x (cut.fronts_r x a))
          (held_snoc_from (λ u. u.fronts) x (set vs i l) r h)

  pub splits : (i : ℕ) (v l r : LogHand E) → Cuts v l r → Splits (λ (s : State (Unit {0}) (LogHand E)). Logs s.views) i v l r
  splits i v l r cut s t at = logs_split s.views i v l r cut t at

  pub cuts_lend : (v : LogHand E) → Cuts v (hand [] [] []) v
  cuts_lend v = record {
    logs = λ n. omega arith;
    takers = λ n. omega arith;
    stay = λ x a. inr a;
    takers_l = λ x a. absurd a;
    takers_r = λ x a. a;
    fronts_l = λ x a. absurd a;
    fronts_r = λ x a. inl a;
  }

  pub cuts_nothing : (v : LogHand E) → Cuts v v (hand [] [] [])
  cuts_nothing v = record {
    logs = λ n. omega arith;
    takers = λ n. omega arith;
    stay = λ x a. inl a;
    takers_l = λ x a. a;
    takers_r = λ x a. absurd a;
    fronts_l = λ x a. a;
    fronts_r = λ x a. absurd a;
  }

  mapped_front : (x : Front E) (logs : List (Log E)) → Among x (map front_of logs) → (y : Log E) × Among y logs × (x ≡ front_of y)
  mapped_front x [] a = absurd a
  mapped_front x (m ∷ ms) (inl e) = (m, inl refl, e)
  mapped_front x (m ∷ ms) (inr a) = let r = mapped_front x ms a in (r.0, inr r.1, r.2)

  pub cuts_seen : (v : LogHand E) → Cuts v (hand v.logs v.takers []) (hand [] [] (map front_of v.logs ++ v.fronts))
  cuts_seen v = record {
    logs = λ n. omega arith;
    takers = λ n. omega arith;
    stay = λ x a. inl a;
    takers_l = λ x a. a;
    takers_r = λ x a. absurd a;
    fronts_l = λ x a. absurd a;
    fronts_r = λ x a. ⊎_elim (λ b. inr (inr (mapped_front x v.logs b))) (λ b. inl b) (among_either x (map front_of v.logs) v.fronts a);
  }

  pub cuts_copied : (v : LogHand E) → Cuts v v (hand [] [] (map front_of v.logs ++ v.fronts))
  cuts_copied v = record {
    logs = λ n. omega arith;
    takers = λ n. omega arith;
    stay = λ x a. inl a;
    takers_l = λ x a. a;
    takers_r = λ x a. absurd a;
    fronts_l = λ x a. a;
    fronts_r = λ x a. ⊎_elim (λ b. inr (inr (mapped_front x v.logs b))) (λ b. inl b) (among_either x (map front_of v.logs) v.fronts a);
  }

  pub cuts_parts : (v : LogHand E) → Cuts v (hand v.logs [] v.fronts) (hand [] v.takers [])
  cuts_parts v = record {
    logs = λ n. omega arith;
    takers = λ n. omega arith;
    stay = λ x a. inl a;
    takers_l = λ x a. absurd a;
    takers_r = λ x a. a;
    fronts_l = λ x a. a;
    fronts_r = λ x a. absurd a;
  }

  mapped_begun : (n : ℕ) (x : Front E) (ts : List (Front E)) → Among x (map (begun n) ts) → (t : Front E) × Among t ts × (x ≡ begun n t)
  mapped_begun n x [] a = absurd a
  mapped_begun n x (t ∷ ts) (inl e) = (t, inl refl, e)
  mapped_begun n x (t ∷ ts) (inr a) = let r = mapped_begun n x ts a in (r.0, inr r.1, r.2)

  pub cuts_shown : (n : ℕ) (v : LogHand E) → Cuts v v (hand [] [] (map (begun n) v.takers))
  cuts_shown n v = record {
    logs = λ n. omega arith;
    takers = λ n. omega arith;
    stay = λ x a. inl a;
    takers_l = λ x a. a;
    takers_r = λ x a. absurd a;
    fronts_l = λ x a. a;
    fronts_r = λ x a. let r = mapped_begun n x v.takers a in inr (inl (r.0, n, r.1, r.2));
  }

  pub cuts_log : (v : LogHand E) → Cuts v (hand (drop 1 v.logs) v.takers v.fronts) (hand (take 1 v.logs) [] [])
  cuts_log v = record {
    logs = λ n. take_drop _ v.logs;
    takers = λ n. omega arith;
    stay = λ x a. first_or_rest x v.logs a;
    takers_l = λ x a. a;
    takers_r = λ x a. absurd a;
    fronts_l = λ x a. a;
    fronts_r = λ x a. absurd a;
  }

  pub cuts_taker : (v : LogHand E) → Cuts v (hand v.logs (drop 1 v.takers) v.fronts) (hand [] (take 1 v.takers) [])
  cuts_taker v = record {
    logs = λ n. omega arith;
    takers = λ n. take_drop _ v.takers;
    stay = λ x a. inl a;
    takers_l = λ x a. dropped x v.takers a;
    takers_r = λ x a. taken x v.takers a;
    fronts_l = λ x a. a;
    fronts_r = λ x a. absurd a;
  }

  logs_join : (vs : List (LogHand E)) (i j : ℕ) (v w : LogHand E) → Logs vs → get_elem? vs i ≡ some v → j ≢ i → get_elem? (set vs i (joined v w)) j ≡ some w → Logs (set (set vs i (joined v w)) j (hand [] [] []))
  logs_join vs i j v w t at apart beside =
      let b : LogHand E = joined v w in let n : LogHand E = hand [] [] [] in
      let there : get_elem? vs j ≡ some w = sym (set_else vs i j b apart) ∙ beside in
      let stay : (x : Log E) → Held (λ (u : LogHand E). u.logs) x vs → Held (λ (u : LogHand E). u.logs) x (set (set vs i b) j n) = λ x h. join_to (λ u. u.logs) x vs i j v w b n at apart there (among_left x v.logs w.logs) (among_right x v.logs w.logs) h in
      record {
        one_log = λ m. let a = total_join (λ u. logs_of m u.logs) vs i j v w b n at beside (total_append _ v.logs w.logs) refl in let o = t.one_log m in omega (arith, a, o);
        one_taker = λ m. let a = total_join (λ u. takers_of m u.takers) vs i j v w b n at beside (total_append _ v.takers w.takers) refl in let o = t.one_taker m in omega (arith, a, o);
        taken = λ x h. told_where IsTaken x vs _ stay (t.taken x (join_from (λ u. u.takers) x vs i j v w b n at apart there (among_either x v.takers w.takers) (λ a. a) h));
        seen = λ x h. told_where IsSeen x vs _ stay (t.seen x (join_from (λ u. u.fronts) x vs i j v w b n at apart there (among_either x v.fronts w.fronts) (λ a. a) h));
      }

  pub joins : (i j : ℕ) (v w : LogHand E) → Joins (λ (s : State (Unit {0}) (LogHand E)). Logs s.views) i v j w (joined v w) (hand [] [] [])
  joins i j v w s t at apart there = logs_join s.views i j v w t at apart there

-- at the start
module _ (E : Type 0) where
  none_log : (n from count : ℕ) → n < from → logs_of {E = E} n (blank_logs from count) ≡ 0
  none_log n from zero h = refl
  none_log n from (suc count) h = omega (arith, none_log n (suc from) count (omega (arith, h)), counts_none n from (λ e. omega (arith, h, e)))

  once_log : (n from count : ℕ) → logs_of {E = E} n (blank_logs from count) ≤ 1
  once_log n from zero = omega arith
  once_log n from (suc count) = by_first (ℕ_discrete from n) (once_log n (suc from) count)
    where
      by_first : Dec (from ≡ n) → logs_of {E = E} n (blank_logs (suc from) count) ≤ 1 → logs_of {E = E} n (blank_logs from (suc count)) ≤ 1
      by_first (yes e) rest = omega (arith, none_log n (suc from) count (omega (arith, e)), counts_one n from e)
      by_first (no e) rest = omega (arith, rest, counts_none n from e)

  none_taker : (n from count : ℕ) → n < from → takers_of {E = E} n (blank_fronts from count) ≡ 0
  none_taker n from zero h = refl
  none_taker n from (suc count) h = omega (arith, none_taker n (suc from) count (omega (arith, h)), counts_none n from (λ e. omega (arith, h, e)))

  once_taker : (n from count : ℕ) → takers_of {E = E} n (blank_fronts from count) ≤ 1
  once_taker n from zero = omega arith
  once_taker n from (suc count) = by_first (ℕ_discrete from n) (once_taker n (suc from) count)
    where
      by_first : Dec (from ≡ n) → takers_of {E = E} n (blank_fronts (suc from) count) ≤ 1 → takers_of {E = E} n (blank_fronts from (suc count)) ≤ 1
      by_first (yes e) rest = omega (arith, none_taker n (suc from) count (omega (arith, e)), counts_one n from e)
      by_first (no e) rest = omega (arith, rest, counts_none n from e)

  -- of each blank one there is a blank log
  blank_told : (t : Front E) (from count : ℕ) → Among t (blank_fronts from count) → (l : Log E) × Among l (blank_logs from count) × (l.shard ≡ t.shard) × IsTaken l t
  blank_told t from zero a = absurd a
  blank_told t from (suc count) (inl e) = (log from [] [], inl refl, ap (λ (z : Front E). z.shard) (sym e), ap (λ (z : Front E). z.seen) (sym e))
  blank_told t from (suc count) (inr a) = let r = blank_told t (suc from) count a in (r.0, inr r.1, r.2, r.3)

  pub begins : (count : ℕ) → Logs {E = E} (hand (blank_logs 0 count) (blank_fronts 0 count) [] ∷ [])
  begins count = record {
    one_log = λ n. let b = once_log n 0 count in omega (arith, b);
    one_taker = λ n. let b = once_taker n 0 count in omega (arith, b);
    taken = λ t h. of_one t h;
    seen = λ f h. none_seen f h;
  }
    where
      of_one : (t : Front E) → Among t (blank_fronts 0 count) ⊎ ⊥ → Told IsTaken t (hand (blank_logs 0 count) (blank_fronts 0 count) [] ∷ [])
      of_one t (inl a) = let r = blank_told t 0 count a in (r.0, inl r.1, r.2, r.3)
      of_one t (inr a) = absurd a

      none_seen : (f : Front E) → ⊥ ⊎ ⊥ → Told IsSeen f (hand (blank_logs 0 count) (blank_fronts 0 count) [] ∷ [])
      none_seen f (inl a) = absurd a
      none_seen f (inr a) = absurd a

module _ {E : Type 0} where
  -- what a hand shows
  same_log : (vs : List (LogHand E)) → Logs vs → (l m : Log E) → Held (λ (u : LogHand E). u.logs) l vs → Held (λ (u : LogHand E). u.logs) m vs → l.shard ≡ m.shard → l ≡ m
  same_log vs t l m h k e = let p = held_find (λ u. u.logs) l vs h in let q = held_find (λ u. u.logs) m vs k in
      ⊎_elim
      (λ (same : p.0 ≡ q.0). one_hand p.1 q.1 (some-injective p.1 q.1 (sym p.2 ∙ ap (λ n. get_elem? vs n) same ∙ q.2)) p.3 q.3 (at_most (λ (u : LogHand E). logs_of m.shard u.logs) vs q.0 q.1 q.2))
      (λ (apart : p.0 ≢ q.0).
      let two = two_within (λ (u : LogHand E). logs_of m.shard u.logs) vs p.0 q.0 p.1 q.1 (λ z. apart (sym z)) p.2 q.2 in
      let o = t.one_log m.shard in
      let a : 0 < logs_of m.shard p.1.logs = subst (λ n. 0 < logs_of n p.1.logs) e (among_log l p.1.logs p.3) in
      let b = among_log m q.1.logs q.3 in
      absurd (omega (arith, two, o, a, b)))
      (either_way (ℕ_discrete p.0 q.0))
    where
      either_way : {A : Type 0} → Dec A → A ⊎ (A → ⊥)
      either_way (yes a) = inl a
      either_way (no n) = inr n

      one_among : (l m : Log E) (logs : List (Log E)) → l.shard ≡ m.shard → Among l logs → Among m logs → logs_of m.shard logs ≤ 1 → l ≡ m
      one_among l m [] e a b o = absurd a
      one_among l m (x ∷ xs) e (inl a) (inl b) o = a ∙ sym b
      one_among l m (x ∷ xs) e (inl a) (inr b) o =
          let c = counts_one m.shard x.shard (ap (λ (z : Log E). z.shard) (sym a) ∙ e) in let d = among_log m xs b in absurd (omega (arith, c, d, o))
      one_among l m (x ∷ xs) e (inr a) (inl b) o =
          let c = counts_one m.shard x.shard (ap (λ (z : Log E). z.shard) (sym b)) in
          let d : 0 < logs_of m.shard xs = subst (λ n. 0 < logs_of n xs) e (among_log l xs a) in absurd (omega (arith, c, d, o))
      one_among l m (x ∷ xs) e (inr a) (inr b) o = one_among l m xs e a b (omega (arith, o))

      one_hand : (v w : LogHand E) → v ≡ w → Among l v.logs → Among m w.logs → logs_of m.shard w.logs ≤ total (λ (u : LogHand E). logs_of m.shard u.logs) vs → l ≡ m
      one_hand v w same a b o = let c = t.one_log m.shard in one_among l m w.logs e (subst (λ (u : LogHand E). Among l u.logs) same a) b (omega (arith, o, c))

  pub shows : (vs : List (LogHand E)) (i : ℕ) (v : LogHand E) → Logs vs → get_elem? vs i ≡ some v → Shows v
  shows vs i v t at = record {
    taken = λ l f a b e.
        let k = t.taken f (held_at (λ u. u.takers) f vs i v at b) in
        let same = same_log vs t l k.0 (held_at (λ u. u.logs) l vs i v at a) k.1 (e ∙ sym k.2) in
        ap (λ (z : Log E). z.taken) same ∙ k.3;
    seen = λ l f a b e.
        let k = t.seen f (held_at (λ u. u.fronts) f vs i v at b) in
        let same = same_log vs t l k.0 (held_at (λ u. u.logs) l vs i v at a) k.1 (e ∙ sym k.2) in
        subst (λ (z : Log E). IsSeen z f) (sym same) k.3;
    both = λ f g a b e.
        let k = t.seen f (held_at (λ u. u.fronts) f vs i v at a) in
        let j = t.seen g (held_at (λ u. u.fronts) g vs i v at b) in
        let same = same_log vs t j.0 k.0 j.1 k.1 (j.2 ∙ sym e ∙ sym k.2) in
        (accepted k.0, k.3, subst (λ (z : Log E). IsSeen z g) same j.3);
  }

  pub looks : (slots id i a b : ℕ) (me : Me (Unit {0}) (LogHand E)) → Allows (λ (s : State (Unit {0}) (LogHand E)). Logs s.views) slots id me i (λ n. n) (Looks (step slots i a b none) me)
  looks slots id i a b me s t wide at fits = (
    me.0,
    keeps,
    tt,
    subst Logs (sym (set_again s.views id me.0 at)) t,
    (refl, shows s.views id me.0 t at),
  )

-- a log of one hand goes on
module _ {E : Type 0} (vs : List (LogHand E)) (i : ℕ) (l m : Log E) (ts us fs : List (Front E)) (t : Logs vs) (at : get_elem? vs i ≡ some (hand (l ∷ []) ts fs)) (same : m.shard ≡ l.shard) where
  abbrev v : LogHand E
  v = hand (l ∷ []) ts fs

  abbrev w : LogHand E
  w = hand (m ∷ []) us fs

  abbrev after : List (LogHand E)
  after = set vs i w

  here : Held (λ (u : LogHand E). u.logs) m after
  here = held_at (λ u. u.logs) m after i w (set_at vs i v w at) (inl refl)

  -- what was told of it goes on to be so, and what was told of another log stays
  told_on : (is : Log E → Front E → Type 0) (f : Front E) → (is l f → is m f) → Told is f vs → Told is f after
  told_on is f on k = ⊎_elim
      (λ (a : Among k.0 (l ∷ [])). let e = one_of k.0 l a in (m, here, same ∙ ap (λ (z : Log E). z.shard) (sym e) ∙ k.2, on (subst (λ (z : Log E). is z f) e k.3)))
      (λ h. (k.0, h, k.2, k.3))
      (held_to (λ u. u.logs) k.0 vs i v w at k.1)

  counts_on : (n : ℕ) → logs_of n w.logs ≡ logs_of n v.logs
  counts_on n = ap (λ (k : ℕ). (if k == n then 1 else 0) + 0) same

  one_log_on : (n : ℕ) → total (λ (u : LogHand E). logs_of n u.logs) after ≤ 1
  one_log_on n = let a = total_same (λ u. logs_of n u.logs) vs i v w at (counts_on n) in let o = t.one_log n in omega (arith, a, o)

  seen_on : ((f : Front E) → IsSeen l f → IsSeen m f) → (f : Front E) → Held (λ (u : LogHand E). u.fronts) f after → Told IsSeen f after
  seen_on on f h = told_on IsSeen f (on f) (⊎_elim (λ a. t.seen f (held_at (λ u. u.fronts) f vs i v at a)) (λ g. t.seen f g) (held_from (λ u. u.fronts) f vs i w h))

  -- nothing is taken
  pub logs_put : us ≡ ts → m.taken ≡ l.taken → ((f : Front E) → IsSeen l f → IsSeen m f) → Logs after
  logs_put takers kept on = record {
    one_log = one_log_on;
    one_taker = λ n. let a = total_same (λ u. takers_of n u.takers) vs i v w at (ap (takers_of n) takers) in let o = t.one_taker n in omega (arith, a, o);
    taken = λ f h. told_on IsTaken f (λ k. kept ∙ k) (⊎_elim (λ a. t.taken f (held_at (λ u. u.takers) f vs i v at (subst (λ (z : List (Front E)). Among f z) takers a))) (λ g. t.taken f g) (held_from (λ u. u.takers) f vs i w h));
    seen = seen_on on;
  }

-- some of a log is taken by the one who takes from that shard
module _ {E : Type 0} (vs : List (LogHand E)) (i : ℕ) (l m : Log E) (q r : Front E) (fs : List (Front E)) (t : Logs vs) (at : get_elem? vs i ≡ some (hand (l ∷ []) (q ∷ []) fs))
    (same : m.shard ≡ l.shard) (its : q.shard ≡ l.shard) (still : r.shard ≡ q.shard) (has : m.taken ≡ r.seen) (on : (f : Front E) → IsSeen l f → IsSeen m f) where
  abbrev u : LogHand E
  u = hand (l ∷ []) (q ∷ []) fs

  abbrev x : LogHand E
  x = hand (m ∷ []) (r ∷ []) fs

  -- another one who takes has another number
  another : (f : Front E) → (j : ℕ) (y : LogHand E) → j ≢ i → get_elem? vs j ≡ some y → Among f y.takers → Told IsTaken f (set vs i x)
  another f j y apart there a =
      let k = t.taken f (held_at (λ z. z.takers) f vs j y there a) in ⊎_elim
      (λ (b : Among k.0 (l ∷ [])).
      let s : f.shard ≡ q.shard = sym k.2 ∙ ap (λ (z : Log E). z.shard) (one_of k.0 l b) ∙ sym its in
      let two = two_within (λ (z : LogHand E). takers_of q.shard z.takers) vs i j u y apart at there in
      let o = t.one_taker q.shard in
      let c : 0 < takers_of q.shard y.takers = subst (λ n. 0 < takers_of n y.takers) s (among_taker f y.takers a) in
      let d = counts_one q.shard q.shard refl in
      absurd (omega (arith, two, o, c, d)))
      (λ h. (k.0, h, k.2, k.3))
      (held_to (λ z. z.logs) k.0 vs i u x at k.1)

  taken_in : (f : Front E) → Held (λ (z : LogHand E). z.takers) f (set vs i x) → Told IsTaken f (set vs i x)
  taken_in f h = let p = held_find (λ z. z.takers) f (set vs i x) h in ⊎_elim
      (λ (e : (p.0 ≡ i) × (x ≡ p.1)).
      let z : f ≡ r = one_of f r (subst (λ (y : LogHand E). Among f y.takers) (sym e.1) p.3) in
      (m, here vs i l m (q ∷ []) (r ∷ []) fs t at same, same ∙ sym its ∙ sym still ∙ ap (λ (y : Front E). y.shard) (sym z), has ∙ ap (λ (y : Front E). y.seen) (sym z)))
      (λ (e : (p.0 ≢ i) × (get_elem? vs p.0 ≡ some p.1)). another f p.0 p.1 e.0 e.1 p.3)
      (at_set vs i p.0 x p.1 p.2)

  pub logs_taken : Logs (set vs i x)
  logs_taken = record {
    one_log = one_log_on vs i l m (q ∷ []) (r ∷ []) fs t at same;
    one_taker = λ n.
        let a = total_same (λ z. takers_of n z.takers) vs i u x at (ap (λ (k : ℕ). (if k == n then 1 else 0) + 0) still) in
        let o = t.one_taker n in omega (arith, a, o);
    taken = taken_in;
    seen = seen_on vs i l m (q ∷ []) (r ∷ []) fs t at same on;
  }

module _ {E : Type 0} where
  put_seen : (l : Log E) (said : List E) (f : Front E) → IsSeen l f → IsSeen (put_in l said) f
  put_seen l said f b = subst (Begins f.seen) (append_one l.taken l.left said) (begins_more f.seen (accepted l) said b)

  -- what is put comes last of all
  pub put_whole : (l : Log E) (said : List E) → accepted (put_in l said) ≡ accepted l ++ said
  put_whole l said = sym (append_one l.taken l.left said)

  pub take_same : (l : Log E) (count : ℕ) → accepted (taken_from l count) ≡ accepted l
  take_same l count = append_one l.taken (take count l.left) (drop count l.left) ∙ ap (λ z. l.taken ++ z) (take_drop_whole count l.left)

  -- a hand of one log, whatever else it knows
  pub puts : (slots id i a b : ℕ) (me : Me (Unit {0}) (LogHand E)) (l : Log E) (ts fs : List (Front E)) (said : List E) → me ≡ (hand (l ∷ []) ts fs, [])
      → Allows (λ (s : State (Unit {0}) (LogHand E)). Logs s.views) slots id me i (λ n. n) (Puts said (step slots i a b none) me)
  puts slots id i a b me l ts fs said is s t wide at fits =
      let at' : get_elem? s.views id ≡ some (hand (l ∷ []) ts fs) = at ∙ ap (λ (m : Me (Unit {0}) (LogHand E)). some m.0) is in (
        put_at said me.0.logs me.0.takers me.0.fronts,
        keeps,
        tt,
        subst (λ (m : Me (Unit {0}) (LogHand E)). Logs (set s.views id (put_at said m.0.logs m.0.takers m.0.fronts))) (sym is)
            (logs_put s.views id l (put_in l said) ts ts fs t at' refl refl refl (put_seen l said)),
        (refl, shows s.views id me.0 t at),
      )

  -- a hand of one log and of one who takes from it
  pub takes : (slots id i a b : ℕ) (me : Me (Unit {0}) (LogHand E)) (l : Log E) (q : Front E) (fs : List (Front E)) (count : ℕ) → q.shard ≡ l.shard → me ≡ (hand (l ∷ []) (q ∷ []) fs, [])
      → Allows (λ (s : State (Unit {0}) (LogHand E)). Logs s.views) slots id me i (λ n. n) (Takes count (step slots i a b none) me)
  takes slots id i a b me l q fs count its is s t wide at fits =
      let at' : get_elem? s.views id ≡ some (hand (l ∷ []) (q ∷ []) fs) = at ∙ ap (λ (m : Me (Unit {0}) (LogHand E)). some m.0) is in
      let had : l.taken ≡ q.seen = (shows s.views id (hand (l ∷ []) (q ∷ []) fs) t at').taken l q (inl refl) (inl refl) (sym its) in (
        take_at count me.0.logs me.0.takers me.0.fronts,
        keeps,
        tt,
        subst (λ (m : Me (Unit {0}) (LogHand E)). Logs (set s.views id (take_at count m.0.logs m.0.takers m.0.fronts))) (sym is)
            (logs_taken s.views id l (taken_from l count) q (front q.shard (q.seen ++ take count l.left)) fs t at' refl its refl
            (ap (λ z. z ++ take count l.left) had) (λ f b. subst (Begins f.seen) (sym (take_same l count)) b)),
        (refl, shows s.views id me.0 t at),
      )

  -- the log's hand and a lent hand, put together
  pub together_seen : (l : Log E) (fs : List (Front E)) (desk caller lent both : Me (Unit {0}) (LogHand E)) → desk ≡ (of_log l, []) → caller ≡ (of_fronts fs, []) → lent ≡ (caller.0, []) → both ≡ (joined desk.0 lent.0, desk.1) → both ≡ (hand (l ∷ []) [] fs, [])
  together_seen l fs desk caller lent both of_d of_c of_lent of_both =
      of_both ∙ (λ i. (joined (of_d i).0 ((of_lent ∙ ap (λ (m : Me (Unit {0}) (LogHand E)). (m.0, [])) of_c) i).0, (of_d i).1))

  pub together_taken : (l : Log E) (n : ℕ) (xs : List E) (desk taker lent both : Me (Unit {0}) (LogHand E)) → desk ≡ (of_log l, []) → taker ≡ (of_taker n xs, []) → lent ≡ (taker.0, []) → both ≡ (joined desk.0 lent.0, desk.1) → both ≡ (hand (l ∷ []) (front n xs ∷ []) [], [])
  together_taken l n xs desk taker lent both of_d of_t of_lent of_both =
      of_both ∙ (λ i. (joined (of_d i).0 ((of_lent ∙ ap (λ (m : Me (Unit {0}) (LogHand E)). (m.0, [])) of_t) i).0, (of_d i).1))
