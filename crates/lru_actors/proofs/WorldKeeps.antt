-- What holds of the world, kept by each event.
use Rattle.std.proofs.Common.{◌≡◌, ◌≢◌, ℕ, ◌+◌, ◌%◌, ◌^◌, ◌<◌, cond, eqb, zero, suc, Bool, true, false, List, [], ◌∷◌, ◌++◌, length, map, Some, None, refl, sym, ap, ◌∙◌, arith, subst, inl, inr, append-nil, length-append}
use Rattle.std.specs.Prelude.{◌⊎◌, Option, filter, slice_get, slice_set, sum_by, option_to_list}
use Rattle.std.proofs.lemmas.Bool.{cond-true, cond-false, eq-eqb, ne_eqb}
use Rattle.std.proofs.lemmas.List.{map-append}
use Rattle.std.proofs.lemmas.List.Sums.{sum_by-cons}
use Rattle.std.proofs.lemmas.List.Elements.{filter-append}
use Rattle.std.proofs.Math.Nat.{mod-add-mod}
use Rattle.lru_mailbox.specs.Queue.{Queue, dispatched}
use Rattle.lru_actors.specs.declared.effect.Effect.{Effect}
use Rattle.lru_actors.specs.Messages.{State, evicted_of}
use Rattle.lru_actors.specs.Processing.{queued, Processes}
use Rattle.lru_actors.specs.Turns.{Sent, turn, leaving}
use Rattle.lru_actors.specs.World.{Actor, PutsPair, IsSameQueue, itself, AtAnyTime, rows_of}

pub not_both : true ≡ false → ⊥
not_both e = cc

module _ {A : Type 0} where
  pub the_same : (x y : A) → Some x ≡ Some y → x ≡ y
  the_same x y e = cc

  -- an element of a list in which one was replaced
  pub set_cases : (xs : List A) (s : ℕ) (b : A) (j : ℕ) (x : A) → slice_get (slice_set xs s b) j ≡ Some x → ((j ≡ s) × (b ≡ x)) ⊎ ((j ≢ s) × (slice_get xs j ≡ Some x))
  set_cases [] s b j x e = cc
  set_cases (y ∷ xs) zero b zero x e = inl (refl, the_same b x e)
  set_cases (y ∷ xs) zero b (suc j) x e = inr ((λ q. absurd (omega (arith, q))), e)
  set_cases (y ∷ xs) (suc s) b zero x e = inr ((λ q. absurd (omega (arith, q))), e)
  set_cases (y ∷ xs) (suc s) b (suc j) x e = elim (set_cases xs s b j x e) [
    | inl h ↦ inl (ap suc h.0, h.1)
    | inr h ↦ inr ((λ q. h.0 (omega (arith, q))), h.1)
  ]

  pub length_set : (xs : List A) (s : ℕ) (b : A) → length (slice_set xs s b) ≡ length xs
  length_set [] s b = refl
  length_set (x ∷ xs) zero b = refl
  length_set (x ∷ xs) (suc s) b = ap suc (length_set xs s b)

  -- what stands at a place of a list
  pub at_place : (xs : List A) (s : ℕ) → s < length xs → (a : A) × (slice_get xs s ≡ Some a)
  at_place [] s h = absurd (omega arith)
  at_place (x ∷ xs) zero h = (x, refl)
  at_place (x ∷ xs) (suc s) h = at_place xs s (omega arith)

  pub sum_set : (f : A → ℕ) (xs : List A) (s : ℕ) (a b : A) → slice_get xs s ≡ Some a → sum_by f (slice_set xs s b) + f a ≡ sum_by f xs + f b
  sum_set f [] s a b e = cc
  sum_set f (x ∷ xs) zero a b e = omega (arith, sum_by-cons f b xs, sum_by-cons f x xs, ap f (the_same x a e))
  sum_set f (x ∷ xs) (suc s) a b e = omega (arith, sum_by-cons f x (slice_set xs s b), sum_by-cons f x xs, sum_set f xs s a b e)

module _ {K : Type 0} where
  abbrev pub pairs_of : List (ℕ × (K × ℕ)) → List (K × ℕ)
  pairs_of ps = map (λ (p : ℕ × (K × ℕ)). p.1) ps

  abbrev pub of_shard : ℕ → List (ℕ × (K × ℕ)) → List (K × ℕ)
  of_shard s ps = pairs_of (filter (λ p. eqb p.0 s) ps)

  abbrev pub tagged : ℕ → List (K × ℕ) → List (ℕ × (K × ℕ))
  tagged s ps = map (λ p. (s, p)) ps

  pub of_more : (s : ℕ) (ps qs : List (ℕ × (K × ℕ))) → of_shard s (ps ++ qs) ≡ of_shard s ps ++ of_shard s qs
  of_more s ps qs = ap (λ l. pairs_of l) (filter-append (λ (p : ℕ × (K × ℕ)). eqb p.0 s) ps qs) ∙ map-append (λ (p : ℕ × (K × ℕ)). p.1) (filter (λ p. eqb p.0 s) ps) (filter (λ p. eqb p.0 s) qs)

  pub of_own : (s : ℕ) (ps : List (K × ℕ)) → of_shard s (tagged s ps) ≡ ps
  of_own s [] = refl
  of_own s (p ∷ ps) = ap (λ l. pairs_of l) (cond-true (eqb s s) ((s, p) ∷ filter (λ p. eqb p.0 s) (tagged s ps)) (filter (λ p. eqb p.0 s) (tagged s ps)) (eq-eqb s s refl)) ∙ ap (λ l. p ∷ l) (of_own s ps)

  pub of_other : (s j : ℕ) (ps : List (K × ℕ)) → j ≢ s → of_shard j (tagged s ps) ≡ []
  of_other s j [] ne = refl
  of_other s j (p ∷ ps) ne = ap (λ l. pairs_of l) (cond-false (eqb s j) ((s, p) ∷ filter (λ p. eqb p.0 j) (tagged s ps)) (filter (λ p. eqb p.0 j) (tagged s ps)) (ne_eqb s j (λ q. ne (sym q)))) ∙ of_other s j ps ne

  pub untagged : (s : ℕ) (ps : List (K × ℕ)) → pairs_of (tagged s ps) ≡ ps
  untagged s [] = refl
  untagged s (p ∷ ps) = ap (λ l. p ∷ l) (untagged s ps)

  pub length_tagged : (s : ℕ) (ps : List (K × ℕ)) → length (tagged s ps) ≡ length ps
  length_tagged s [] = refl
  length_tagged s (p ∷ ps) = ap suc (length_tagged s ps)

  pub weight_tagged : (s : ℕ) (ps : List (K × ℕ)) → sum_by (λ (p : ℕ × (K × ℕ)). p.1.1) (tagged s ps) ≡ sum_by (λ (p : K × ℕ). p.1) ps
  weight_tagged s [] = refl
  weight_tagged s (p ∷ ps) = sum_by-cons (λ (p : ℕ × (K × ℕ)). p.1.1) (s, p) (tagged s ps) ∙ ap (λ n. p.1 + n) (weight_tagged s ps) ∙ sym (sum_by-cons (λ (p : K × ℕ). p.1) p ps)

  -- the pairs of the queue after some pairs were dispatched
  pub record Joins (q : Queue K) (pairs : List (K × ℕ)) (q' : Queue K) : Type 0 where
    pub same_closed : q'.closed ≡ q.closed
    pub waits : q.closed ≡ false → q'.waiting ≡ q.waiting ++ pairs
    pub loses : q.closed ≡ true → q'.waiting ≡ q.waiting
    pub count : (lost : List (K × ℕ)) → q.lost ≡ length lost % 2 ^ 64 → q'.lost ≡ length (cond q.closed (lost ++ pairs) lost) % 2 ^ 64

  none_follows : (q q' : Queue K) → q' ≡ q → Joins q [] q'
  none_follows q q' e = record {
    same_closed = ap (λ (z : Queue K). z.closed) e;
    waits = λ _. ap (λ (z : Queue K). z.waiting) e ∙ sym (append-nil q.waiting);
    loses = λ _. ap (λ (z : Queue K). z.waiting) e;
    count = λ lost h. ap (λ (z : Queue K). z.lost) e ∙ h ∙ ap (λ l. length l % 2 ^ 64) (both q.closed lost);
  }
    where
      both : (b : Bool) (lost : List (K × ℕ)) → lost ≡ cond b (lost ++ []) lost
      both true lost = sym (append-nil lost)
      both false lost = refl

  one_follows : (q q' : Queue K) (p : K × ℕ) (b : Bool) → q.closed ≡ b → q' ≡ dispatched q p.0 p.1 → Joins q (p ∷ []) q'
  one_follows q q' p false c e =
      let is : q' ≡ record q { waiting = q.waiting ++ p ∷ [] } = e ∙ cond-false q.closed (record q { lost = (q.lost + 1) % 2 ^ 64 }) (record q { waiting = q.waiting ++ p ∷ [] }) c in
      record {
        same_closed = ap (λ (z : Queue K). z.closed) is;
        waits = λ _. ap (λ (z : Queue K). z.waiting) is;
        loses = λ d. absurd (not_both (sym d ∙ c));
        count = λ lost h. ap (λ (z : Queue K). z.lost) is ∙ h ∙ ap (λ b. length (cond b (lost ++ p ∷ []) lost) % 2 ^ 64) (sym c);
      }
  one_follows q q' p true c e =
      let is : q' ≡ record q { lost = (q.lost + 1) % 2 ^ 64 } = e ∙ cond-true q.closed (record q { lost = (q.lost + 1) % 2 ^ 64 }) (record q { waiting = q.waiting ++ p ∷ [] }) c in
      record {
        same_closed = ap (λ (z : Queue K). z.closed) is;
        waits = λ d. absurd (not_both (sym c ∙ d));
        loses = λ _. ap (λ (z : Queue K). z.waiting) is;
        count = λ lost h. ap (λ (z : Queue K). z.lost) is ∙ ap (λ n. (n + 1) % 2 ^ 64) h ∙ mod-add-mod (length lost) (2 ^ 64) 1
            ∙ ap (λ n. n % 2 ^ 64) (sym (length-append lost (p ∷ []))) ∙ ap (λ b. length (cond b (lost ++ p ∷ []) lost) % 2 ^ 64) (sym c);
      }

  pairs_follow : (q q' : Queue K) (o : Option (K × ℕ)) → q' ≡ queued o q → Joins q (option_to_list o) q'
  pairs_follow q q' None e = none_follows q q' e
  pairs_follow q q' (Some p) e = one_follows q q' p q.closed refl e

  module _ (IsClone : K → K → Type 0) (a : Actor K) (x : Sent K) (e : Effect K) (new : State K) (look : ℕ → Option ℕ) (q q' : Queue K) where
    pub leaving_follow : Processes PutsPair IsSameQueue itself IsClone AtAnyTime a.state a.look q x.msg e new look q' → Joins q (leaving (rows_of a) (turn x e)) q'
    leaving_follow p = elim p [
      | inl s ↦ subst (λ ps. Joins q ps q') (sym (cond-false e.refused [] (option_to_list (evicted_of (rows_of a) x.msg)) s.done.refused)) (pairs_follow q q' (evicted_of (rows_of a) x.msg) s.queue_is)
      | inr t ↦ subst (λ ps. Joins q ps q') (sym (cond-true e.refused [] (option_to_list (evicted_of (rows_of a) x.msg)) t.refused.refused)) (none_follows q q' t.queue_is)
    ]
