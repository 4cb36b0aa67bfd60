-- The rows that go, so that the others fit.
use Rattle.std.proofs.Common.{◌≡◌, Some, ℕ, ◌-◌, ◌<◌, ◌≤◌, List, [], ◌∷◌, ◌++◌, length, refl, sym, ap, ◌∙◌, subst, arith, true, false, append_assoc, append-nil}
use Rattle.std.specs.Prelude.{nat_le, ◌&&◌}
use Rattle.std.proofs.lemmas.Bool.{false≢true, leb-true, le-leb}
use Rattle.std.specs.Cmp.Derive.{both_true}
use Rattle.std.proofs.lemmas.List.{length-append}
use Rattle.lru_rows.specs.declared.rows.Taken.{Taken}
use Rattle.lru_rows.specs.Rows.{Placed, Recency, recency, PopsLast}
use Rattle.lru_owned_cache.specs.declared.entry.Entry.{Entry}
use Rattle.lru_owned_cache.specs.Entries.{entry, entry_in, entries_in, weight_in}
use Rattle.lru_owned_cache.specs.Partings.{RowsFit, Shrinks, Shrinking}
use Rattle.lru_owned_cache.proofs.Lists.{same_head, shown_before}
use Rattle.lru_owned_cache.proofs.Rows.{by_bool, weight-append, weight-cons}

-- what a test of two limits says
pub both_le : (a b c d : ℕ) → (nat_le a b && nat_le c d) ≡ true → (a ≤ b) × (c ≤ d)
both_le a b c d e =
    by_bool (nat_le a b)
    (λ p. (leb-true a b p, leb-true c d (sym (ap (λ x. x && nat_le c d) p) ∙ e)))
    (λ p. absurd (false≢true (sym (ap (λ x. x && nat_le c d) p) ∙ e)))

pub not_both : (a b c d : ℕ) → (nat_le a b && nat_le c d) ≡ false → (a ≤ b) × (c ≤ d) → ⊥
not_both a b c d e both = false≢true (sym e ∙ both_true (le-leb a b both.0) (le-leb c d both.1))

pub none_gone : {K V F : Type 0} (Step : F → Entry K V → F → Type 0) (visit : F) (w n : ℕ) (old : Recency K V) (used : ℕ) → used ≡ weight_in old.rows → Shrinking Step visit visit w n old old used
none_gone {K} {V} Step visit w n old used is = record {
  back = [];
  parts = sym (append-nil old.rows);
  needed = λ r rest e fit. nil_not_cons r rest e;
  free_is = omega arith;
  shown = refl;
  used_is = is;
}
  where
    nil_not_cons : (r : Placed K V) (rest : List (Placed K V)) → [] ≡ r ∷ rest → ⊥
    nil_not_cons r rest e = cc

module _ {K V F : Type 0} {Step : F → Entry K V → F → Type 0} {visit : F} {w n : ℕ} {old : Recency K V} where
  module _ {last : F} {now : Recency K V} {used : ℕ} (s : Shrinking Step visit last w n old now used) where
    -- rows that do not fit are some
    pub not_none : now.rows ≡ [] → ((used ≤ w) × (length now.rows ≤ n) → ⊥) → ⊥
    not_none none over = over (omega (arith, s.used_is, ap weight_in none), omega (arith, ap length none))

    pub last_part : {t : Taken K V} {next : Recency K V} → PopsLast now (Some t) next → t.weight ≤ used
    last_part pops = omega (arith, s.used_is, ap weight_in pops.2, weight-append pops.1 (pops.0 ∷ []), weight-cons pops.0 [], ap (λ (x : Taken K V). x.weight) pops.3)

    pub fewer : {t : Taken K V} {next : Recency K V} → PopsLast now (Some t) next → length next.rows < length now.rows
    fewer pops = omega (arith, ap length pops.2, length-append pops.1 (pops.0 ∷ []), ap (λ (x : Recency K V). length x.rows) pops.4)

    -- one more goes
    pub one_gone : {t : Taken K V} {next : Recency K V} → PopsLast now (Some t) next → ((used ≤ w) × (length now.rows ≤ n) → ⊥) → (after : F) → Step last (entry t.key t.value t.weight) after →
        Shrinking Step visit after w n old next (used - t.weight)
    one_gone {t} {next} pops over after step = record {
      back = pops.0 ∷ s.back;
      parts = s.parts ∙ ap (λ rs. rs ++ s.back) pops.2 ∙ append_assoc pops.1 (pops.0 ∷ []) s.back ∙ ap (λ (x : Recency K V). x.rows ++ pops.0 ∷ s.back) (sym pops.4);
      needed = λ r rest e fit. over (let fits = was_fit r rest e fit in (omega (arith, s.used_is, ap weight_in pops.2, fits.0), omega (arith, ap length pops.2, fits.1)));
      free_is = omega (arith, s.free_is, ap (λ (x : Recency K V). x.free) pops.4);
      shown = shown_before Step visit last (entries_in s.back) (entry_in pops.0) after (entry t.key t.value t.weight) (ap (λ (x : Taken K V). entry x.key x.value x.weight) pops.3) step s.shown;
      used_is = omega (arith, s.used_is, ap weight_in pops.2, weight-append pops.1 (pops.0 ∷ []), weight-cons pops.0 [], ap (λ (x : Taken K V). x.weight) pops.3, ap (λ (x : Recency K V). weight_in x.rows) pops.4);
    }
      where
        was_fit : (r : Placed K V) (rest : List (Placed K V)) → pops.0 ∷ s.back ≡ r ∷ rest → RowsFit w n (next.rows ++ r ∷ []) → RowsFit w n (pops.1 ++ pops.0 ∷ [])
        was_fit r rest e fit = subst (λ (x : Recency K V). RowsFit w n (x.rows ++ pops.0 ∷ [])) pops.4 (subst (λ x. RowsFit w n (next.rows ++ x ∷ [])) (sym (same_head pops.0 r s.back rest e)) fit)

    pub all_gone : (used ≤ w) × (length now.rows ≤ n) → Shrinks Step visit w n old now
    all_gone fit = record {
      front = now.rows;
      back = s.back;
      parts = s.parts;
      fits = (omega (arith, s.used_is, fit.0), fit.1);
      needed = s.needed;
      left = ap (recency now.rows) s.free_is;
      shown = (last, s.shown);
    }
