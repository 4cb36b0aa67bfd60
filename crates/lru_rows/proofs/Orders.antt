-- What is found of a place among the pairs of an order, once one more stands there, one goes, or one moves.
use Rattle.std.proofs.Common.{◌≡◌, ◌≢◌, ℕ, not, eqb, List, [], ◌∷◌, ◌++◌, Some, None, refl, sym, ap, ◌∙◌, subst, inl, inr}
use Rattle.std.specs.Option.{option_map_or}
use Rattle.std.proofs.lemmas.Bool.{cond_both, cases_eq, eqb-true, eqb-false, not-true, not-false}
use Rattle.lru_index.specs.Index.{put, gone}
use Rattle.lru_index.proofs.Tables.{put_here, put_other, gone_here, gone_other}
use Rattle.lru_list.specs.Linked.{Linked, item_of, indices_of, times, without, promoted, demoted}
use Rattle.lru_list.proofs.Chains.{absent_head, absent_tail}
use Rattle.lru_list.proofs.LinkedLaws.{item_of_same, item_of_other}

module _ {K : Type 0} where
  -- a goal on the pairs without a place's, by the two cases of the first
  pub by_place : (i : ℕ) (p : ℕ × K) (ps : List (ℕ × K)) (P : List (ℕ × K) → Type 0) → (p.0 ≡ i → P (without ps i)) → (p.0 ≢ i → P (p ∷ without ps i)) → P (without (p ∷ ps) i)
  by_place i p ps P here other =
      cond_both (not (eqb p.0 i)) (p ∷ without ps i) (without ps i) P (λ e. other (eqb-false _ _ (not-true _ e))) (λ e. here (eqb-true _ _ (not-false _ e)))

  -- a place that no pair has
  pub item_absent : (ps : List (ℕ × K)) (i : ℕ) → times i (indices_of ps) ≡ 0 → item_of ps i ≡ None
  item_absent [] i none = refl
  item_absent (p ∷ ps) i none = item_of_other p ps i (absent_head i p.0 (indices_of ps) none) ∙ item_absent ps i (absent_tail i p.0 (indices_of ps) none)

  -- a pair at the end
  pub item_end : (ps : List (ℕ × K)) (i : ℕ) (x : K) → times i (indices_of ps) ≡ 0 → item_of (ps ++ (i, x) ∷ []) i ≡ Some x
  item_end [] i x none = item_of_same (i, x) [] i refl
  item_end (p ∷ ps) i x none =
      item_of_other p (ps ++ (i, x) ∷ []) i (absent_head i p.0 (indices_of ps) none) ∙ item_end ps i x (absent_tail i p.0 (indices_of ps) none)

  pub item_before_end : (ps : List (ℕ × K)) (i : ℕ) (x : K) (q : ℕ) → i ≢ q → item_of (ps ++ (i, x) ∷ []) q ≡ item_of ps q
  item_before_end [] i x q ne = item_of_other (i, x) [] q ne
  item_before_end (p ∷ ps) i x q ne =
      elim (cases_eq p.0 q) [
        | inl e ↦ item_of_same p (ps ++ (i, x) ∷ []) q e ∙ sym (item_of_same p ps q e)
        | inr other ↦ item_of_other p (ps ++ (i, x) ∷ []) q other ∙ item_before_end ps i x q ne ∙ sym (item_of_other p ps q other)
      ]

  -- one pair more, first or last
  pub put_first : (ps : List (ℕ × K)) (i : ℕ) (x : K) (q : ℕ) → put (item_of ps) i x q ≡ item_of ((i, x) ∷ ps) q
  put_first ps i x q =
      elim (cases_eq i q) [
        | inl e ↦ subst (λ z. put (item_of ps) i x z ≡ item_of ((i, x) ∷ ps) z) e (put_here (item_of ps) i x ∙ sym (item_of_same (i, x) ps i refl))
        | inr ne ↦ put_other (item_of ps) i x q ne ∙ sym (item_of_other (i, x) ps q ne)
      ]

  pub put_last : (ps : List (ℕ × K)) (i : ℕ) (x : K) → times i (indices_of ps) ≡ 0 → (q : ℕ) → put (item_of ps) i x q ≡ item_of (ps ++ (i, x) ∷ []) q
  put_last ps i x none q =
      elim (cases_eq i q) [
        | inl e ↦ subst (λ z. put (item_of ps) i x z ≡ item_of (ps ++ (i, x) ∷ []) z) e (put_here (item_of ps) i x ∙ sym (item_end ps i x none))
        | inr ne ↦ put_other (item_of ps) i x q ne ∙ sym (item_before_end ps i x q ne)
      ]

  -- a pair gone
  item_gone : (ps : List (ℕ × K)) (i : ℕ) → item_of (without ps i) i ≡ None
  item_gone [] i = refl
  item_gone (p ∷ ps) i =
      by_place i p ps (λ rest. item_of rest i ≡ None) (λ e. item_gone ps i) (λ ne. item_of_other p (without ps i) i ne ∙ item_gone ps i)

  pub item_kept : (ps : List (ℕ × K)) (i q : ℕ) → i ≢ q → item_of (without ps i) q ≡ item_of ps q
  item_kept [] i q ne = refl
  item_kept (p ∷ ps) i q ne =
      by_place i p ps (λ rest. item_of rest q ≡ item_of (p ∷ ps) q) (λ e. item_kept ps i q ne ∙ sym (item_of_other p ps q (λ f. ne (sym e ∙ f))))
      (λ other. elim (cases_eq p.0 q) [
        | inl e ↦ item_of_same p (without ps i) q e ∙ sym (item_of_same p ps q e)
        | inr off ↦ item_of_other p (without ps i) q off ∙ item_kept ps i q ne ∙ sym (item_of_other p ps q off)
      ])

  pub gone_without : (ps : List (ℕ × K)) (i q : ℕ) → gone (item_of ps) i q ≡ item_of (without ps i) q
  gone_without ps i q =
      elim (cases_eq i q) [
        | inl e ↦ subst (λ z. gone (item_of ps) i z ≡ item_of (without ps i) z) e (gone_here (item_of ps) i ∙ sym (item_gone ps i))
        | inr ne ↦ gone_other (item_of ps) i q ne ∙ sym (item_kept ps i q ne)
      ]

  -- a pair that goes first
  moved : (ps : List (ℕ × K)) (i : ℕ) (x : K) → item_of ps i ≡ Some x → (q : ℕ) → item_of ps q ≡ item_of ((i, x) ∷ without ps i) q
  moved ps i x found q =
      elim (cases_eq i q) [
        | inl e ↦ subst (λ z. item_of ps z ≡ item_of ((i, x) ∷ without ps i) z) e (found ∙ sym (item_of_same (i, x) (without ps i) i refl))
        | inr ne ↦ sym (item_kept ps i q ne) ∙ sym (item_of_other (i, x) (without ps i) q ne)
      ]

  pub promoted_is : (l : Linked K) (i : ℕ) (x : K) → item_of l.live i ≡ Some x → (promoted l i).live ≡ (i, x) ∷ without l.live i
  promoted_is l i x found = ap (λ o. option_map_or (λ y. (i, y) ∷ without l.live i) o l.live) found

  pub same_promoted : (l : Linked K) (i : ℕ) (x : K) → item_of l.live i ≡ Some x → (q : ℕ) → item_of l.live q ≡ item_of (promoted l i).live q
  same_promoted l i x found q = moved l.live i x found q ∙ ap (λ ps. item_of ps q) (sym (promoted_is l i x found))

  pub demoted_is : (l : Linked K) (i : ℕ) (x : K) → item_of l.live i ≡ Some x → (demoted l i).live ≡ without l.live i ++ (i, x) ∷ []
  demoted_is l i x found = ap (λ o. option_map_or (λ y. without l.live i ++ (i, y) ∷ []) o l.live) found

  -- a first pair that is taken back
  pub taken_back : (ps : List (ℕ × K)) (i : ℕ) (x : K) → times i (indices_of ps) ≡ 0 → without ((i, x) ∷ ps) i ≡ ps
  taken_back ps i x none = by_place i (i, x) ps (λ rest. rest ≡ ps) (λ e. without_absent ps i none) (λ ne. absurd (ne refl))
    where
      without_absent : (ps : List (ℕ × K)) (i : ℕ) → times i (indices_of ps) ≡ 0 → without ps i ≡ ps
      without_absent [] i none = refl
      without_absent (p ∷ ps) i none =
          by_place i p ps (λ rest. rest ≡ p ∷ ps) (λ e. absurd (absent_head i p.0 (indices_of ps) none e)) (λ ne. ap (λ rest. p ∷ rest) (without_absent ps i (absent_tail i p.0 (indices_of ps) none)))
