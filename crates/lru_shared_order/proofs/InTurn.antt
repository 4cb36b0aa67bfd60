-- A batch taken one admission at a time.
use Rattle.std.proofs.Common.{◌≡◌, ℕ, ◌+◌, ◌<◌, ◌≤◌, List, [], ◌∷◌, ◌++◌, length, take, drop, refl, sym, ap, ◌∙◌, subst, append_assoc, append-nil, arith}
use Rattle.std.proofs.Math.ListN.{set, get_or}
use Rattle.std.proofs.lemmas.List.{drop_more, drop_all, take_all, take_more_set, drop-set-lt}
use Rattle.lru_shard.specs.Shard.{Shard}
use Rattle.lru_shared_order.specs.declared.admission.Admission.{Admission}
use Rattle.lru_shared_order.specs.Batches.{AdmitsOne, AdmitsEach}

module _ {T : Type 0} (n s : ℕ) (first : Shard T) (batch : List (Admission T)) where
  -- whatever becomes of those from p on, with the answers so far it becomes of the batch
  abbrev pub GoesOn : Shard T → List (Admission T) → ℕ → Type 0
  GoesOn unit items p = (answered : List (Admission T)) (last : Shard T) → AdmitsEach n s unit (drop p items) answered last → AdmitsEach n s first batch (take p items ++ answered) last

  pub goes_on : (unit mid : Shard T) (items : List (Admission T)) (p : ℕ) (a b : Admission T) → p < length items → a ≡ get_or items p a → AdmitsOne n s unit a b mid
      → GoesOn unit items p → GoesOn mid (set items p b) (p + 1)
  goes_on unit mid items p a b within is_a one so_far answered last h =
      let parts : a ∷ drop (p + 1) items ≡ drop p items = ap (λ x. x ∷ drop (p + 1) items) is_a ∙ sym (drop_more items p a within) in
      let rest : drop (p + 1) (set items p b) ≡ drop (p + 1) items = drop-set-lt (p + 1) items p b (omega arith) in
      let later : AdmitsEach n s mid (drop (p + 1) items) answered last = subst (λ l. AdmitsEach n s mid l answered last) rest h in
      let all : AdmitsEach n s unit (drop p items) (b ∷ answered) last = subst (λ l. AdmitsEach n s unit l (b ∷ answered) last) parts (mid, (one, later)) in
      let front : take p items ++ b ∷ answered ≡ take (p + 1) (set items p b) ++ answered =
      sym (ap (λ l. l ++ answered) (take_more_set items p b within) ∙ append_assoc (take p items) (b ∷ []) answered) in
      subst (λ l. AdmitsEach n s first batch l last) front (so_far (b ∷ answered) last all)

  pub at_end : (unit : Shard T) (items : List (Admission T)) (p : ℕ) → length items ≤ p → GoesOn unit items p → AdmitsEach n s first batch items unit
  at_end unit items p past so_far =
      let none : AdmitsEach n s unit (drop p items) [] unit = subst (λ l. AdmitsEach n s unit l [] unit) (sym (drop_all p items past)) refl in
      subst (λ l. AdmitsEach n s first batch l unit) (append-nil (take p items) ∙ take_all p items past) (so_far [] unit none)
