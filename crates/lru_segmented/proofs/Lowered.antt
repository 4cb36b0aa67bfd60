-- Rows of the upper segment that become the first of the lower one, so that the others fit.
use Rattle.std.proofs.Common.{◌≡◌, ℕ, ◌<◌, List, [], ◌∷◌, ◌++◌, length, refl, sym, ap, ◌∙◌, subst, arith, append_assoc, append-nil}
use Rattle.std.proofs.lemmas.List.{length-append}
use Rattle.lru_rows.specs.Rows.{Placed}
use Rattle.lru_owned_cache.specs.Entries.{weight_in}
use Rattle.lru_owned_cache.specs.Partings.{RowsFit}
use Rattle.lru_owned_cache.proofs.Lists.{same_head}
use Rattle.lru_segmented.specs.Seats.{Seated, seated, Lowers, Lowering, LowersLast}
use Rattle.lru_segmented.proofs.Lists.{nil_cons}

module _ {K V S : Type 0} (w n : ℕ) (old : Seated K V S) where
  pub none_lowered : Lowering w n old old
  none_lowered = record { back = []; parts = sym (append-nil old.upper); needed = λ r rest is fit. nil_cons r rest is; now_is = refl }

  module _ (now : Seated K V S) (s : Lowering w n old now) where
    -- a segment over its limits has rows
    pub some_upper : (RowsFit w n now.upper → ⊥) → 0 < length now.upper
    some_upper over = from now.upper refl
      where
        from : (us : List (Placed K V)) → now.upper ≡ us → 0 < length now.upper
        from [] none = absurd (over (omega (arith, ap weight_in none), omega (arith, ap length none)))
        from (u ∷ us) some = omega (arith, ap length some)

    module _ (next : Seated K V S) (l : LowersLast now next) where
      upper_is : next.upper ≡ l.front
      upper_is = ap (λ (x : Seated K V S). x.upper) l.left

      pub fewer_upper : length next.upper < length now.upper
      fewer_upper = omega (arith, ap length upper_is, ap length l.parts, length-append l.front (l.row ∷ []))

      pub one_lowered : (RowsFit w n now.upper → ⊥) → Lowering w n old next
      one_lowered over = record {
        back = l.row ∷ s.back;
        parts = s.parts ∙ ap (λ zs. zs ++ s.back) l.parts ∙ append_assoc l.front (l.row ∷ []) s.back ∙ ap (λ zs. zs ++ l.row ∷ s.back) (sym upper_is);
        needed = λ r rest to fit. over (subst (RowsFit w n) (ap (λ zs. zs ++ r ∷ []) upper_is ∙ ap (λ y. l.front ++ y ∷ []) (sym (same_head l.row r s.back rest to)) ∙ sym l.parts) fit);
        now_is =
            l.left ∙ ap (λ (x : Seated K V S). seated l.front (l.row ∷ x.lower) x.free x.hashes) s.now_is
            ∙ ap (λ zs. seated zs (l.row ∷ s.back ++ old.lower) old.free old.hashes) (sym upper_is);
      }

    pub all_lowered : RowsFit w n now.upper → Lowers w n old now
    all_lowered fit = record { front = now.upper; back = s.back; parts = s.parts; fits = fit; needed = s.needed; left = s.now_is }
