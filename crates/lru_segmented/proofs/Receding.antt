-- The entries that go, so that the others fit.
use Rattle.std.proofs.Common.{◌≡◌, ℕ, ◌<◌, List, [], ◌∷◌, ◌++◌, length, Some, None, refl, sym, ap, ◌∙◌, subst, inl, inr, arith, append_assoc, append-nil}
use Rattle.std.specs.Prelude.{◌⊎◌, reverse}
use Rattle.std.specs.List.{FoldsTo}
use Rattle.std.proofs.lemmas.List.{length-append}
use Rattle.lru_owned_cache.specs.declared.entry.Entry.{Entry}
use Rattle.lru_owned_cache.specs.Entries.{weight_of}
use Rattle.lru_owned_cache.proofs.Lists.{same_head, shown_before}
use Rattle.lru_owned_cache.specs.Cache.{Fit}
use Rattle.lru_segmented.specs.Segmented.{Segmented, entries, with_segments, LetsGo, PopsLast}
use Rattle.lru_segmented.proofs.Lists.{nil_cons, nil_append}

module _ {K V S F : Type 0} (Step : F → Entry K V → F → Type 0) (visit : F) (w n : ℕ) (old : Segmented K V S) where
  -- so far these entries went, each since the others did not fit with it, and each was shown
  pub record Receding (last : F) (now : Segmented K V S) : Type 0 where
    pub upper_gone : List (Entry K V)
    pub lower_gone : List (Entry K V)
    pub upper_parts : old.upper ≡ now.upper ++ upper_gone
    pub lower_parts : old.lower ≡ now.lower ++ lower_gone
    pub lower_first : (upper_gone ≡ []) ⊎ (now.lower ≡ [])
    pub needed : (e : Entry K V) (rest : List (Entry K V)) → upper_gone ++ lower_gone ≡ e ∷ rest → Fit w n ((now.upper ++ now.lower) ++ e ∷ []) → ⊥
    pub shown : FoldsTo Step visit (reverse (upper_gone ++ lower_gone)) last
    pub same : now ≡ with_segments old now.upper now.lower

  pub none_gone : Receding visit old
  none_gone = record {
    upper_gone = [];
    lower_gone = [];
    upper_parts = sym (append-nil old.upper);
    lower_parts = sym (append-nil old.lower);
    lower_first = inl refl;
    needed = λ e rest is fit. nil_cons e rest is;
    shown = refl;
    same = refl;
  }

  module _ (last : F) (now : Segmented K V S) (s : Receding last now) where
    -- entries that do not fit are some
    pub some_left : (next : Segmented K V S) → PopsLast now None next → (Fit w n (entries now) → ⊥) → ⊥
    some_left next pops over =
        let none : entries now ≡ [] = ap (λ zs. zs ++ now.lower) pops.0 ∙ pops.1.0 in
        over (omega (arith, ap weight_of none), omega (arith, ap length none))

    -- what went before, where the lower segment has an entry still
    lower_only : (front : List (Entry K V)) (e : Entry K V) → now.lower ≡ front ++ e ∷ [] → s.upper_gone ≡ []
    lower_only front e is =
        elim s.lower_first [
          | inl none ↦ none
          | inr none ↦ absurd (nil_cons e [] (sym (nil_append front (e ∷ []) (sym none ∙ is)).1))
        ]

    module _ (e : Entry K V) (after : F) (step : Step last e after) (over : Fit w n (entries now) → ⊥) (next : Segmented K V S) where
      from_lower : (front : List (Entry K V)) → now.lower ≡ front ++ e ∷ [] → next ≡ with_segments now now.upper front → Receding after next
      from_lower front is left =
          let none = lower_only front e is in
          let upper : next.upper ≡ now.upper = ap (λ (c : Segmented K V S). c.upper) left in
          let lower : next.lower ≡ front = ap (λ (c : Segmented K V S). c.lower) left in
          let whole : (next.upper ++ next.lower) ++ e ∷ [] ≡ entries now =
          ap (λ zs. (zs ++ next.lower) ++ e ∷ []) upper ∙ ap (λ zs. (now.upper ++ zs) ++ e ∷ []) lower ∙ append_assoc now.upper front (e ∷ []) ∙ ap (λ zs. now.upper ++ zs) (sym is) in
          record {
            upper_gone = [];
            lower_gone = e ∷ s.lower_gone;
            upper_parts = s.upper_parts ∙ ap (λ zs. now.upper ++ zs) none ∙ ap (λ zs. zs ++ []) (sym upper);
            lower_parts = s.lower_parts ∙ ap (λ zs. zs ++ s.lower_gone) is ∙ append_assoc front (e ∷ []) s.lower_gone ∙ ap (λ zs. zs ++ e ∷ s.lower_gone) (sym lower);
            lower_first = inl refl;
            needed = λ x rest to fit. over (subst (Fit w n) (ap (λ y. (next.upper ++ next.lower) ++ y ∷ []) (sym (same_head e x s.lower_gone rest to)) ∙ whole) fit);
            shown = shown_before Step visit last s.lower_gone e after e refl step (subst (λ zs. FoldsTo Step visit (reverse (zs ++ s.lower_gone)) last) none s.shown);
            same = left ∙ ap (λ c. with_segments c now.upper front) s.same ∙ ap (λ zs. with_segments old zs front) (sym upper) ∙ ap (with_segments old next.upper) (sym lower);
          }

      from_upper : (front : List (Entry K V)) → now.lower ≡ [] → now.upper ≡ front ++ e ∷ [] → next ≡ with_segments now front [] → Receding after next
      from_upper front none is left =
          let upper : next.upper ≡ front = ap (λ (c : Segmented K V S). c.upper) left in
          let lower : next.lower ≡ [] = ap (λ (c : Segmented K V S). c.lower) left in
          let whole : (next.upper ++ next.lower) ++ e ∷ [] ≡ entries now =
          ap (λ zs. (zs ++ next.lower) ++ e ∷ []) upper ∙ ap (λ zs. (front ++ zs) ++ e ∷ []) lower ∙ ap (λ zs. zs ++ e ∷ []) (append-nil front) ∙ sym is ∙ sym (append-nil now.upper) ∙ ap (λ zs. now.upper ++ zs) (sym none) in
          record {
            upper_gone = e ∷ s.upper_gone;
            lower_gone = s.lower_gone;
            upper_parts = s.upper_parts ∙ ap (λ zs. zs ++ s.upper_gone) is ∙ append_assoc front (e ∷ []) s.upper_gone ∙ ap (λ zs. zs ++ e ∷ s.upper_gone) (sym upper);
            lower_parts = s.lower_parts ∙ ap (λ zs. zs ++ s.lower_gone) none ∙ ap (λ zs. zs ++ s.lower_gone) (sym lower);
            lower_first = inr lower;
            needed = λ x rest to fit. over (subst (Fit w n) (ap (λ y. (next.upper ++ next.lower) ++ y ∷ []) (sym (same_head e x (s.upper_gone ++ s.lower_gone) rest to)) ∙ whole) fit);
            shown = shown_before Step visit last (s.upper_gone ++ s.lower_gone) e after e refl step s.shown;
            same = left ∙ ap (λ c. with_segments c front []) s.same ∙ ap (λ zs. with_segments old zs []) (sym upper) ∙ ap (with_segments old next.upper) (sym lower);
          }

      -- one more goes
      pub one_gone : PopsLast now (Some e) next → Receding after next
      one_gone pops =
          elim pops [
            | inl (front, (is, left)) ↦ from_lower front is left
            | inr (front, (none, (is, left))) ↦ from_upper front none is left
          ]

    pub fewer : (e : Entry K V) (next : Segmented K V S) → PopsLast now (Some e) next → length (entries next) < length (entries now)
    fewer e next pops =
        elim pops [
          | inl (front, (is, left)) ↦
              omega (arith, ap (λ (c : Segmented K V S). length (entries c)) left, length-append now.upper front, length-append now.upper now.lower, ap length is, length-append front (e ∷ []))
          | inr (front, (none, (is, left))) ↦
              omega (
                arith,
                ap (λ (c : Segmented K V S). length (entries c)) left,
                length-append front [],
                length-append now.upper now.lower,
                ap length is,
                length-append front (e ∷ []),
              )
        ]

    pub all_gone : Fit w n (entries now) → LetsGo Step visit w n old now
    all_gone fit = record {
      gone = s.upper_gone ++ s.lower_gone;
      recedes = record {
        upper_gone = s.upper_gone;
        lower_gone = s.lower_gone;
        upper_parts = s.upper_parts;
        lower_parts = s.lower_parts;
        lower_first = s.lower_first;
        gone_is = refl;
        fits = fit;
        needed = s.needed;
      };
      shown = (last, s.shown);
      same = s.same;
    }
