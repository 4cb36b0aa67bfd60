-- What two tokens show together.
use Rattle.std.proofs.Common.{◌≡◌, ℕ, List, [], ◌∷◌, ◌++◌, length, sym, refl, ap, ◌∙◌, subst, inl, ⊎_elim, arith, append-nil, append_assoc}
use Rattle.std.proofs.lemmas.List.{length-append}
use Rattle.lru_short_locks.specs.Hands.{Among}
use Rattle.lru_short_locks.proofs.Hands.{among_left, among_right}
use Rattle.lru_inbox.specs.declared.hand.Front.{Front}
use Rattle.lru_inbox.specs.declared.hand.Log.{Log}
use Rattle.lru_inbox.specs.Logs.{Begins, accepted, front, front_of, hand, of_fronts, seen_of, Shows}
use Rattle.lru_inbox.proofs.Lists.{shorter_begins, seen_among}

no_items : {A : Type 0} (xs : List A) → length xs ≡ 0 → xs ≡ []
no_items [] h = refl
no_items (x ∷ xs) h = absurd (omega (arith, h))

-- two beginnings of one length are the same
pub same_begins : {A : Type 0} (xs ys ws : List A) → Begins xs ws → Begins ys ws → length xs ≡ length ys → xs ≡ ys
same_begins xs ys ws b d h =
    let r = shorter_begins xs ys ws b d (omega (arith, h)) in
    let n = length-append xs r.0 in
    let e = ap length r.1 in
    sym (append-nil xs) ∙ ap (λ z. xs ++ z) (sym (no_items r.0 (omega (arith, n, e, h)))) ∙ r.1

module _ {E : Type 0} where
  pub same_seen : (n m : ℕ) (xs ys : List E) (fs gs : List (Front E)) → fs ≡ front n xs ∷ [] → gs ≡ front m ys ∷ [] → n ≡ m → length xs ≡ length ys → Shows (of_fronts (fs ++ gs)) → ys ≡ xs
  same_seen n m xs ys fs gs f g same h s =
      let b = (subst (λ ks. Shows (of_fronts ks)) (λ i. f i ++ g i) s).both (front n xs) (front m ys) (inl refl) (among_right (front m ys) (front n xs ∷ []) (front m ys ∷ []) (inl refl)) same in
      same_begins ys xs b.0 b.2 b.1 (sym h)

  -- what was seen last of a shard, and this, begin one log
  pub seen_with : (n : ℕ) (xs : List E) (fs gs : List (Front E)) → gs ≡ front n xs ∷ [] → Shows (of_fronts (fs ++ gs)) → (whole : List E) × Begins xs whole × Begins (seen_of n fs) whole
  seen_with n xs fs gs g s = ⊎_elim
      (λ none. (xs, ([], append-nil xs), subst (λ z. Begins z xs) (sym none) (xs, refl)))
      (λ (f : (f : Front E) × Among f fs × (f.shard ≡ n) × (f.seen ≡ seen_of n fs)).
      let b = (subst (λ ks. Shows (of_fronts (fs ++ ks))) g s).both (front n xs) f.0 (among_right (front n xs) fs (front n xs ∷ []) (inl refl)) (among_left f.0 fs (front n xs ∷ []) f.1) (sym f.2) in
      (b.0, b.1, subst (λ z. Begins z b.0) f.3 b.2))
      (seen_among n fs)

  -- as many messages as were taken from a log, which begin it, are those that were taken
  pub same_taken : (l : Log E) (m : ℕ) (ys : List E) (fs gs : List (Front E)) → fs ≡ front_of l ∷ [] → gs ≡ front m ys ∷ [] → l.shard ≡ m → length l.taken ≡ length ys → Shows (of_fronts (fs ++ gs)) → ys ≡ l.taken
  same_taken l m ys fs gs f g same h s =
      let b = (subst (λ ks. Shows (of_fronts ks)) (λ i. f i ++ g i) s).both (front_of l) (front m ys) (inl refl) (among_right (front m ys) (front_of l ∷ []) (front m ys ∷ []) (inl refl)) same in
      same_begins ys l.taken b.0 b.2 (l.left ++ b.1.0, sym (append_assoc l.taken l.left b.1.0) ∙ b.1.1) (sym h)

  -- what one had seen of a shard's log begins it, where the log is known together with that and more
  pub seen_begins_with : (l : Log E) (n : ℕ) (fs gs : List (Front E)) → l.shard ≡ n → Shows (hand (l ∷ []) [] (fs ++ gs)) → Begins (seen_of n fs) (accepted l)
  seen_begins_with l n fs gs its s = ⊎_elim
      (λ none. subst (λ z. Begins z (accepted l)) (sym none) (accepted l, refl))
      (λ (f : (f : Front E) × Among f fs × (f.shard ≡ n) × (f.seen ≡ seen_of n fs)). subst (λ z. Begins z (accepted l)) f.3 (s.seen l f.0 (inl refl) (among_left f.0 fs gs f.1) (its ∙ sym f.2)))
      (seen_among n fs)
