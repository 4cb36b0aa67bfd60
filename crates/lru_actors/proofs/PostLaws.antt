-- Where `Evict` waits in a mailbox: at the place that the mailbox knows, and nowhere else.
use Rattle.std.proofs.Common.{◌≡◌, ℕ, ◌+◌, ◌-◌, ltb, List, [], ◌∷◌, ◌++◌, length, drop, Some, None, refl, sym, ap, ◌∙◌, arith, zero, suc, inl, inr}
use Rattle.std.specs.Prelude.{◌⊎◌, slice_get}
use Rattle.std.proofs.lemmas.Bool.{cond-false, le-ltb}
use Rattle.lru_mailbox.specs.Mail.{Post, posted, urged, served, moved_up}
use Rattle.lru_actors.specs.declared.message.LruMsg.TheVariants.{Evict}
use Rattle.lru_actors.specs.Turns.{Sent}

module _ {A : Type 0} where
  -- an item of a list with one item more
  pub get_more : (xs : List A) (x : A) (i : ℕ) (y : A) → slice_get (xs ++ x ∷ []) i ≡ Some y → (slice_get xs i ≡ Some y) ⊎ ((i ≡ length xs) × (x ≡ y))
  get_more [] x zero y e = inr (refl, some_is e)
    where
      some_is : Some x ≡ Some y → x ≡ y
      some_is q = cc
  get_more [] x (suc i) y e = cc
  get_more (z ∷ xs) x zero y e = inl e
  get_more (z ∷ xs) x (suc i) y e = elim (get_more xs x i y e) [
    | inl old ↦ inl old
    | inr new ↦ inr (ap suc new.0, new.1)
  ]

  pub get_dropped : (n : ℕ) (xs : List A) (i : ℕ) (y : A) → slice_get (drop n xs) i ≡ Some y → slice_get xs (n + i) ≡ Some y
  get_dropped zero xs i y e = ap (λ k. slice_get xs k) (let q : 0 + i ≡ i = omega arith in q) ∙ e
  get_dropped (suc n) [] i y e = e
  get_dropped (suc n) (x ∷ xs) i y e = ap (λ k. slice_get (x ∷ xs) k) (let q : suc n + i ≡ suc (n + i) = omega arith in q) ∙ get_dropped n xs i y e

nowhere : (i : ℕ) → None ≡ Some i → ⊥
nowhere i e = cc

module _ {K : Type 0} where
  -- wherever `Evict` waits, the mailbox knows that place
  abbrev pub IsKnown : Post (Sent K) → Type 0
  IsKnown p = (i : ℕ) (x : Sent K) → slice_get p.waiting i ≡ Some x → x.msg ≡ Evict → p.evict ≡ Some i

  pub known_posted : (p : Post (Sent K)) (m : Sent K) → (m.msg ≡ Evict → ⊥) → IsKnown p → IsKnown (posted p m)
  known_posted p m other k i x e is = elim (get_more p.waiting m i x e) [
    | inl old ↦ k i x old is
    | inr new ↦ absurd (other (ap (λ (y : Sent K). y.msg) new.1 ∙ is))
  ]

  pub known_urged : (p : Post (Sent K)) (m : Sent K) → p.evict ≡ None → IsKnown p → IsKnown (urged p m)
  known_urged p m none k i x e is = elim (get_more p.waiting m i x e) [
    | inl old ↦ absurd (nowhere i (sym none ∙ k i x old is))
    | inr new ↦ ap (λ j. Some j) (sym new.0)
  ]

  pub known_served : (n : ℕ) (p : Post (Sent K)) → IsKnown p → IsKnown (served n p)
  known_served n p k i x e is =
      ap (moved_up n) (k (n + i) x (get_dropped n p.waiting i x e) is)
      ∙ cond-false (ltb (n + i) n) None (Some (n + i - n)) (le-ltb (n + i) n (omega arith)) ∙ ap (λ j. Some j) (let q : n + i - n ≡ i = omega arith in q)

  pub one_place : (p : Post (Sent K)) → IsKnown p → (i j : ℕ) (x y : Sent K) → slice_get p.waiting i ≡ Some x → slice_get p.waiting j ≡ Some y → x.msg ≡ Evict → y.msg ≡ Evict → i ≡ j
  one_place p k i j x y a b ea eb = same_place i j (sym (k i x a ea) ∙ k j y b eb)
    where
      same_place : (i j : ℕ) → Some i ≡ Some j → i ≡ j
      same_place i j q = cc
