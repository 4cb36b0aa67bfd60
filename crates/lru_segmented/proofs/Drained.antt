-- All entries go, the first first.
use Rattle.std.proofs.Common.{◌≡◌, ◌<◌, List, [], ◌∷◌, ◌++◌, length, Some, None, refl, sym, ap, ◌∙◌, subst, inl, inr, arith, append_assoc, append-nil}
use Rattle.std.specs.List.{FoldsTo}
use Rattle.lru_owned_cache.specs.declared.entry.Entry.{Entry}
use Rattle.lru_owned_cache.proofs.Lists.{shown_more}
use Rattle.lru_segmented.specs.Segmented.{Segmented, entries, with_segments, PopsFirst, Drains}

module _ {K V S F : Type 0} (Step : F → Entry K V → F → Type 0) (visit : F) (old : Segmented K V S) where
  -- so far these entries went, the first first, and each was shown
  pub record Draining (last : F) (now : Segmented K V S) : Type 0 where
    pub gone : List (Entry K V)
    pub parts : entries old ≡ gone ++ entries now
    pub shown : FoldsTo Step visit gone last
    pub same : now ≡ with_segments old now.upper now.lower

  pub none_drained : Draining visit old
  none_drained = record { gone = []; parts = refl; shown = refl; same = refl }

  module _ (last : F) (now : Segmented K V S) (s : Draining last now) where
    module _ (e : Entry K V) (next : Segmented K V S) (pops : PopsFirst now (Some e) next) where
      -- the entry stood first, and the others are left
      left : (entries now ≡ e ∷ entries next) × (next ≡ with_segments now next.upper next.lower)
      left =
          elim pops [
            | inl (rest, (upper, is)) ↦ (
              ap (λ us. us ++ now.lower) upper ∙ ap (λ (c : Segmented K V S). e ∷ entries c) (sym is),
              is ∙ ap (λ us. with_segments now us now.lower) (ap (λ (c : Segmented K V S). c.upper) (sym is)) ∙ ap (with_segments now next.upper) (ap (λ (c : Segmented K V S). c.lower) (sym is)),
            )
            | inr (rest, (none, (lower, is))) ↦ (
              ap (λ us. us ++ now.lower) none ∙ lower ∙ ap (λ (c : Segmented K V S). e ∷ entries c) (sym is),
              is ∙ ap (λ us. with_segments now us rest) (ap (λ (c : Segmented K V S). c.upper) (sym is)) ∙ ap (with_segments now next.upper) (ap (λ (c : Segmented K V S). c.lower) (sym is)),
            )
          ]

      pub fewer_left : length (entries next) < length (entries now)
      fewer_left = omega (arith, ap length left.0)

      pub one_drained : (after : F) → Step last e after → Draining after next
      one_drained after step = record {
        gone = s.gone ++ e ∷ [];
        parts = s.parts ∙ ap (λ es. s.gone ++ es) left.0 ∙ sym (append_assoc s.gone (e ∷ []) (entries next));
        shown = shown_more Step visit last s.gone e after e refl step s.shown;
        same = left.1 ∙ ap (λ c. with_segments c next.upper next.lower) s.same;
      }

    pub all_drained : (next : Segmented K V S) → PopsFirst now None next → Drains Step visit old next
    all_drained next (upper, (lower, is)) =
        let none : entries now ≡ [] = ap (λ us. us ++ now.lower) upper ∙ lower in (
          (last, subst (λ es. FoldsTo Step visit es last) (sym (s.parts ∙ ap (λ es. s.gone ++ es) none ∙ append-nil s.gone)) s.shown),
          is ∙ s.same ∙ ap (λ us. with_segments old us now.lower) upper ∙ ap (with_segments old []) lower,
        )
