-- For callers: what stands first where another pair is put in its place, and that its key equals the one that was asked for.
use Rattle.std.proofs.Common.{◌≡◌, ℕ, cond, List, [], ◌∷◌, Some, refl, sym, ap, ◌∙◌, inl, inr}
use Rattle.std.specs.Prelude.{Bool, is_some, IsTrue}
use Rattle.std.proofs.lemmas.Bool.{cases_Bool, eq-eqb, ne_eqb, false≢true}
use Rattle.lru_rows.specs.Rows.{Placed, placed, row_of, without}
use Rattle.lru_rows.proofs.Listed.{some_of, by_row}
use Rattle.lru_pairs.specs.Pairs.{with_entry}

module _ {K V : Type 0} where
  pub with_entry-first : (p : ℕ) (k : K) (v : V) (w : ℕ) (r : Placed K V) (rs : List (Placed K V)) → r.place ≡ p → with_entry (r ∷ rs) p k v w ≡ placed p k v w ∷ with_entry rs p k v w
  with_entry-first p k v w r rs e = ap (λ b. cond b (placed p k v w) r ∷ with_entry rs p k v w) (eq-eqb r.place p e)

  pub with_entry-without : (p : ℕ) (k : K) (v : V) (w : ℕ) (rows : List (Placed K V)) → with_entry (without rows p) p k v w ≡ without rows p
  with_entry-without p k v w [] = refl
  with_entry-without p k v w (r ∷ rs) =
      by_row p r rs (λ xs. with_entry xs p k v w ≡ xs) (λ e. with_entry-without p k v w rs)
      (λ ne. ap (λ b. cond b (placed p k v w) r ∷ with_entry (without rs p) p k v w) (ne_eqb r.place p ne) ∙ ap (λ xs. r ∷ xs) (with_entry-without p k v w rs))

  pub found_same : (eq : K → K → Bool) (rows : List (Placed K V)) (key : K) (r : Placed K V) → row_of eq rows key ≡ Some r → IsTrue (eq r.key key)
  found_same eq [] key r e = absurd (false≢true (ap is_some e))
  found_same eq (x ∷ xs) key r e =
      elim (cases_Bool (eq x.key key)) [
        | inl hit ↦ ap (λ (y : Placed K V). eq y.key key) (sym (some_of x r (sym (ap (λ b. cond b (Some x) (row_of eq xs key)) hit) ∙ e))) ∙ hit
        | inr miss ↦ found_same eq xs key r (sym (ap (λ b. cond b (Some x) (row_of eq xs key)) miss) ∙ e)
      ]
