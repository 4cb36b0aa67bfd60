-- What the answers of a batch tell by themselves, and what a batch leaves of a shard.
use Rattle.std.proofs.Common.{◌≡◌, ℕ, ◌+◌, ◌%◌, ◌<◌, ◌≤◌, ◌⊎◌, Bool, true, false, cond, List, [], ◌∷◌, length, None, Some, refl, sym, ap, ◌∙◌, subst, arith, inl, inr, suc, zero}
use Rattle.std.specs.Prelude.{Option, Result, Ok, Err, MatchBool, max, ◌&&◌, nat_lt, ◌==◌}
use Rattle.std.proofs.Math.ListN.{get_or}
use Rattle.std.proofs.lemmas.Bool.{and_parts, eqb-true, eq-eqb, ltb-false, and_left, cases_Bool}
use Rattle.lru_shard.specs.declared.unit.Refused.{Refused}
use Rattle.lru_shard.specs.Row.{Row, row, weight_of, with_first, without}
use Rattle.lru_shard.specs.Shard.{Shard, shard, refusal, size_of, Size, is_full}
use Rattle.lru_shard.specs.declared.unit.Cause.TheVariants.{Weight, Length}
use Rattle.lru_shard.proofs.Rows.{weight-cons}
use Rattle.lru_shard.specs.Limits.{cap_of}
use Rattle.lru_shard.specs.ShardCalls.{AdmitsRaised}
use Rattle.lru_shared_order.specs.declared.admission.Admission.{Admission}
use Rattle.lru_shared_order.specs.declared.admission.Fate.{Fate}
use Rattle.lru_shared_order.specs.declared.admission.Fate.TheVariants.{Waiting, Admitted, HandedBack}
use Rattle.lru_shared_order.specs.Batches.{is_waiting, awaited, home_of, waits_for, IsAsked, AdmitsOne, AdmitsEach, IsFate, IsAnswered, AreAnswered}

either : (b : Bool) (P Q : Type 0) → MatchBool b P Q → ((b ≡ true) × P) ⊎ ((b ≡ false) × Q)
either true P Q h = inl (refl, h)
either false P Q h = inr (refl, h)

-- no refusal stands against a weight
light_size : (full heavy : Bool) → cond full (Some Length) (cond heavy (Some Weight) None) ≡ None → heavy ≡ false
light_size true heavy h = absurd (let bad : Some Length ≡ None = h in cc)
light_size false true h = absurd (let bad : Some Weight ≡ None = h in cc)
light_size false false h = refl

module _ {T : Type 0} (n : ℕ) where
  light : (old : Shard T) (k : ℕ) (d : T) (w was : ℕ) (new : Shard T) → old.cap ≡ cap_of n → AdmitsRaised old k d w (Ok was) new → max w 1 ≤ cap_of n
  light old k d w was new cap h =
      let r : Row T = row k d (max w 1) in
      let rows : List (Row T) = with_first old.rows r in
      let fits : nat_lt old.cap (weight_of rows) ≡ false
      = light_size (nat_lt (length old.rows) (length rows) && is_full old.cap (size_of old.rows)) (nat_lt old.cap (weight_of rows)) h.1.allowed in
      omega (arith, ltb-false old.cap (weight_of rows) fits, weight-cons r (without old.rows k), cap)

  -- a fate after one turn, or some: xs it was, or told
  abbrev pub IsLaterFate : ℕ → ℕ → Fate T → Fate T → Type 0
  IsLaterFate k w x y = (y ≡ x) ⊎ IsFate n k w x y

  fate_fate : (k w : ℕ) (x y z : Fate T) → IsFate n k w x y → IsFate n k w y z → IsFate n k w x z
  fate_fate k w (Waiting d) (Waiting e) z a b = absurd a
  fate_fate k w (Waiting d) (Admitted s) z a b = subst (λ f. IsFate n k w (Waiting d) f) (sym b) a
  fate_fate k w (Waiting d) (HandedBack r) z a b = subst (λ f. IsFate n k w (Waiting d) f) (sym b) a
  fate_fate k w (Admitted s) y z a b = subst (λ f. IsFate n k w f z) a b
  fate_fate k w (HandedBack r) y z a b = subst (λ f. IsFate n k w f z) a b

  later_later : (k w : ℕ) (x y z : Fate T) → IsLaterFate k w x y → IsLaterFate k w y z → IsLaterFate k w x z
  later_later k w x y z (inl a) b = subst (λ f. IsLaterFate k w f z) a b
  later_later k w x y z (inr a) (inl b) = inr (subst (λ f. IsFate n k w x f) (sym b) a)
  later_later k w x y z (inr a) (inr b) = inr (fate_fate k w x y z a b)

  told : (k w : ℕ) (x y : Fate T) → IsLaterFate k w x y → is_waiting y ≡ false → IsFate n k w x y
  told k w x y (inr h) done = h
  told k w (Waiting d) y (inl h) done = absurd (let bad : true ≡ false = sym (ap is_waiting h) ∙ done in cc)
  told k w (Admitted s) y (inl h) done = h
  told k w (HandedBack r) y (inl h) done = h

  -- an admission after one turn, or some
  pub record IsLater (a b : Admission T) : Type 0 where
    pub key : b.key ≡ a.key
    pub weight : b.weight ≡ a.weight
    pub fate : IsLaterFate a.key a.weight a.fate b.fate

  abbrev pub AreLater : List (Admission T) → List (Admission T) → Type 0
  AreLater [] [] = Unit {0}
  AreLater (a ∷ batch) (b ∷ later) = IsLater a b × AreLater batch later
  AreLater _ _ = ⊥

  same : (a : Admission T) → IsLater a a
  same a = record { key = refl; weight = refl; fate = inl refl }

  pub all_same : (batch : List (Admission T)) → AreLater batch batch
  all_same [] = tt
  all_same (a ∷ batch) = (same a, all_same batch)

  after : (a b c : Admission T) → IsLater a b → IsLater b c → IsLater a c
  after a b c x y = record {
    key = y.key ∙ x.key;
    weight = y.weight ∙ x.weight;
    fate = later_later a.key a.weight a.fate b.fate c.fate x.fate (subst (λ k. IsLaterFate k a.weight b.fate c.fate) x.key (subst (λ w. IsLaterFate b.key w b.fate c.fate) x.weight y.fate));
  }

  pub all_after : (xs ys zs : List (Admission T)) → AreLater xs ys → AreLater ys zs → AreLater xs zs
  all_after [] [] zs x y = y
  all_after [] (b ∷ ys) zs x y = absurd x
  all_after (a ∷ xs) [] zs x y = absurd x
  all_after (a ∷ xs) (b ∷ ys) [] x y = absurd y
  all_after (a ∷ xs) (b ∷ ys) (c ∷ zs) x y = (after a b c x.0 y.0, all_after xs ys zs x.1 y.1)

  pub as_many : (xs ys : List (Admission T)) → AreLater xs ys → length ys ≡ length xs
  as_many [] [] h = refl
  as_many [] (b ∷ ys) h = absurd h
  as_many (a ∷ xs) [] h = absurd h
  as_many (a ∷ xs) (b ∷ ys) h = ap suc (as_many xs ys h.1)

  -- those that wait no longer are answered
  answered : (a b : Admission T) → IsLater a b → is_waiting b.fate ≡ false → IsAnswered n a b
  answered a b h done = ((λ j. record { key = h.key j; weight = h.weight j; fate = b.fate }), told a.key a.weight a.fate b.fate h.fate done)

  pub all_answered : (xs ys : List (Admission T)) → AreLater xs ys → ((p : ℕ) (d : Admission T) → p < length ys → is_waiting (get_or ys p d).fate ≡ false) → AreAnswered n xs ys
  all_answered [] [] h done = tt
  all_answered [] (b ∷ ys) h done = absurd h
  all_answered (a ∷ xs) [] h done = absurd h
  all_answered (a ∷ xs) (b ∷ ys) h done = (answered a b h.0 (done 0 b (omega arith)), all_answered xs ys h.1 (λ p d lt. done (suc p) d (omega arith)))

  module _ (s : ℕ) where
    asked_fate : (old new : Shard T) (k w : ℕ) (x y : Fate T) → k % n ≡ s → old.cap ≡ cap_of n → IsAsked s old k w x y new → IsFate n k w x y × (new.cap ≡ old.cap)
    asked_fate old new k w (Waiting d) (Waiting e) own cap h = absurd h
    asked_fate old new k w (Waiting d) (Admitted at) own cap h = ((h.0 ∙ sym own, light old k d w h.1.0 new cap h.1.1), ap (λ (u : Shard T). u.cap) h.1.1.1.left)
    asked_fate old new k w (Waiting d) (HandedBack r) own cap h = (h.held, ap (λ (u : Shard T). u.cap) h.declines.left)
    asked_fate old new k w (Admitted at) y own cap h = absurd h
    asked_fate old new k w (HandedBack r) y own cap h = absurd h

    -- an admission at its turn is of this shard and is asked, or stays with all the rest
    pub in_turn : (old new : Shard T) (a b : Admission T) → AdmitsOne n s old a b new → ((a.key % n ≡ s) × IsAsked s old a.key a.weight a.fate b.fate new) ⊎ ((b ≡ a) × (new ≡ old))
    in_turn old new a b h =
        elim (either (waits_for n s a) _ _ h) [
          | inl mine ↦ inl (eqb-true (a.key % n) s (and_parts (is_waiting a.fate) (a.key % n == s) mine.0).1, mine.1.1)
          | inr others ↦ inr others.1
        ]

    one_later : (old new : Shard T) (a b : Admission T) → old.cap ≡ cap_of n → AdmitsOne n s old a b new → IsLater a b × (new.cap ≡ old.cap)
    one_later old new a b cap h =
        elim (either (waits_for n s a) _ _ h) [
          | inl mine ↦
              let own : a.key % n ≡ s = eqb-true (a.key % n) s (and_parts (is_waiting a.fate) (a.key % n == s) mine.0).1 in
              let done = asked_fate old new a.key a.weight a.fate b.fate own cap mine.1.1 in
              (record { key = ap (λ (x : Admission T). x.key) mine.1.0; weight = ap (λ (x : Admission T). x.weight) mine.1.0; fate = inr done.0 }, done.1)
          | inr others ↦ (subst (IsLater a) (sym others.1.0) (same a), ap (λ (u : Shard T). u.cap) others.1.1)
        ]

    pub each_later : (old new : Shard T) (xs ys : List (Admission T)) → old.cap ≡ cap_of n → AdmitsEach n s old xs ys new → AreLater xs ys × (new.cap ≡ old.cap)
    each_later old new [] [] cap h = (tt, ap (λ (u : Shard T). u.cap) h)
    each_later old new [] (b ∷ ys) cap h = absurd h
    each_later old new (a ∷ xs) [] cap h = absurd h
    each_later old new (a ∷ xs) (b ∷ ys) cap h =
        let one = one_later old h.0 a b cap h.1.0 in
        let rest = each_later h.0 new xs ys (one.1 ∙ cap) h.1.1 in
        ((one.0, rest.0), rest.1 ∙ one.1)

    -- what waited for the shard waits no longer, and what did not wait does not
    asked_done : (old new : Shard T) (k w : ℕ) (x y : Fate T) → IsAsked s old k w x y new → is_waiting y ≡ false
    asked_done old new k w (Waiting d) (Waiting e) h = absurd h
    asked_done old new k w (Waiting d) (Admitted at) h = refl
    asked_done old new k w (Waiting d) (HandedBack r) h = refl
    asked_done old new k w (Admitted at) y h = absurd h
    asked_done old new k w (HandedBack r) y h = absurd h

    abbrev IsDone : Admission T → Admission T → Type 0
    IsDone a b = (is_waiting a.fate ≡ false → is_waiting b.fate ≡ false) × (home_of n a ≡ Some s → is_waiting b.fate ≡ false)

    awaits : (k : ℕ) (x : Fate T) → awaited n k x ≡ Some s → (is_waiting x && (k % n == s)) ≡ true
    awaits k (Waiting d) h = eq-eqb (k % n) s (let e : Some (k % n) ≡ Some s = h in cc)
    awaits k (Admitted at) h = absurd (let bad : None ≡ Some s = h in cc)
    awaits k (HandedBack r) h = absurd (let bad : None ≡ Some s = h in cc)

    one_done : (old new : Shard T) (a b : Admission T) → AdmitsOne n s old a b new → IsDone a b
    one_done old new a b h =
        elim (either (waits_for n s a) _ _ h) [
          | inl mine ↦ let done = asked_done old new a.key a.weight a.fate b.fate mine.1.1 in ((λ _. done), (λ _. done))
          | inr others ↦
              let stays : b.fate ≡ a.fate = ap (λ (x : Admission T). x.fate) others.1.0 in
              ((λ e. ap is_waiting stays ∙ e), (λ e. absurd (let bad : true ≡ false = sym (awaits a.key a.fate e) ∙ others.0 in cc)))
        ]

    pub each_done : (old new : Shard T) (xs ys : List (Admission T)) → AdmitsEach n s old xs ys new → (p : ℕ) (d : Admission T) → p < length xs → IsDone (get_or xs p d) (get_or ys p d)
    each_done old new [] [] h p d lt = absurd (omega (arith, lt))
    each_done old new [] (b ∷ ys) h p d lt = absurd h
    each_done old new (a ∷ xs) [] h p d lt = absurd h
    each_done old new (a ∷ xs) (b ∷ ys) h zero d lt = one_done old h.0 a b h.1.0
    each_done old new (a ∷ xs) (b ∷ ys) h (suc p) d lt = each_done h.0 new xs ys h.1.1 p d (omega (arith, lt))
