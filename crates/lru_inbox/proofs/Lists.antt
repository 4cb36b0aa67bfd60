-- Lists that begin alike, and what was seen last.
use Rattle.std.proofs.Common.{◌≡◌, ◌⊎◌, ℕ, suc, ◌≤◌, Bool, cond, List, [], ◌∷◌, ◌++◌, length, sym, refl, ap, ◌∙◌, subst, inl, inr, ⊎_elim, arith}
use Rattle.std.proofs.lemmas.Bool.{eq-eqb, ne_eqb}
use native.Mathlib.Decide.{ℕ_discrete}
use Rattle.lru_short_locks.specs.Hands.{Among}
use Rattle.lru_inbox.specs.declared.hand.Log.{Log}
use Rattle.lru_inbox.specs.declared.hand.Front.{Front}
use Rattle.lru_inbox.specs.Logs.{Begins, front, hand, seen_of, Shows, accepted}

-- the shorter of two beginnings begins the longer
pub shorter_begins : {A : Type 0} (xs ys ws : List A) → Begins xs ws → Begins ys ws → length xs ≤ length ys → Begins xs ys
shorter_begins [] ys ws b d h = (ys, refl)
shorter_begins (x ∷ xs) [] ws b d h = absurd (omega (arith, h))
shorter_begins (x ∷ xs) (y ∷ ys) [] b d h = absurd (no_list x (xs ++ b.0) b.1)
  where
    no_list : {A : Type 0} (z : A) (zs : List A) → z ∷ zs ≡ [] → ⊥
    no_list z zs e = let n : suc (length zs) ≡ 0 = ap length e in omega (arith, n)
shorter_begins (x ∷ xs) (y ∷ ys) (w ∷ ws) b d h =
    let bx : x ≡ w = cc in
    let bs : xs ++ b.0 ≡ ws = cc in
    let dy : y ≡ w = cc in
    let ds : ys ++ d.0 ≡ ws = cc in
    let r = shorter_begins xs ys ws (b.0, bs) (d.0, ds) (omega (arith, h)) in
    (r.0, λ i. (bx ∙ sym dy) i ∷ r.1 i)

module _ {E : Type 0} where
  -- what was seen last of a shard was seen, if anything was
  pub seen_among : (n : ℕ) (fs : List (Front E)) → (seen_of n fs ≡ []) ⊎ ((f : Front E) × Among f fs × (f.shard ≡ n) × (f.seen ≡ seen_of n fs))
  seen_among n [] = inl refl
  seen_among n (f ∷ fs) = by_first (ℕ_discrete f.shard n) (seen_among n fs)
    where
      by_first : Dec (f.shard ≡ n) → (seen_of n fs ≡ []) ⊎ ((g : Front E) × Among g fs × (g.shard ≡ n) × (g.seen ≡ seen_of n fs))
          → (seen_of n (f ∷ fs) ≡ []) ⊎ ((g : Front E) × Among g (f ∷ fs) × (g.shard ≡ n) × (g.seen ≡ seen_of n (f ∷ fs)))
      by_first (yes e) rest = inr (f, inl refl, e, sym (ap (λ (b : Bool). cond b f.seen (seen_of n fs)) (eq-eqb f.shard n e)))
      by_first (no e) (inl none) = inl (ap (λ (b : Bool). cond b f.seen (seen_of n fs)) (ne_eqb f.shard n e) ∙ none)
      by_first (no e) (inr g) = inr (g.0, inr g.1, g.2, g.3 ∙ sym (ap (λ (b : Bool). cond b f.seen (seen_of n fs)) (ne_eqb f.shard n e)))

  pub seen_first : (n : ℕ) (xs : List E) (fs : List (Front E)) → seen_of n (front n xs ∷ fs) ≡ xs
  seen_first n xs fs = ap (λ (b : Bool). cond b xs (seen_of n fs)) (eq-eqb n n refl)

  -- what was seen of a log begins it
  pub seen_begins : (l : Log E) (n : ℕ) (fs : List (Front E)) → l.shard ≡ n → Shows (hand (l ∷ []) [] fs) → Begins (seen_of n fs) (accepted l)
  seen_begins l n fs its s = ⊎_elim
      (λ none. subst (λ z. Begins z (accepted l)) (sym none) (accepted l, refl))
      (λ (f : (f : Front E) × Among f fs × (f.shard ≡ n) × (f.seen ≡ seen_of n fs)). subst (λ z. Begins z (accepted l)) f.3 (s.seen l f.0 (inl refl) f.1 (its ∙ sym f.2)))
      (seen_among n fs)

  -- and begins what is seen later
  pub seen_before : (n : ℕ) (xs : List E) (fs : List (Front E)) → Shows (hand [] [] (front n xs ∷ fs)) → length (seen_of n fs) ≤ length xs → Begins (seen_of n fs) xs
  seen_before n xs fs s h = ⊎_elim
      (λ none. subst (λ z. Begins z xs) (sym none) (xs, refl))
      (λ (f : (f : Front E) × Among f fs × (f.shard ≡ n) × (f.seen ≡ seen_of n fs)).
      let b = s.both (front n xs) f.0 (inl refl) (inr f.1) (sym f.2) in
      subst (λ z. Begins z xs) f.3 (shorter_begins f.0.seen xs b.0 b.2 b.1 (let e = ap length f.3 in omega (arith, e, h))))
      (seen_among n fs)
