-- Which admissions of a batch wait no longer once its loop has passed them.
use Rattle.std.proofs.Common.{◌≡◌, ℕ, ◌+◌, ◌%◌, ◌<◌, false, List, length, None, Some, refl, sym, ap, ◌∙◌, arith, inl, inr}
use Rattle.std.proofs.Math.ListN.{get_or}
use Rattle.std.proofs.lemmas.Bool.{cases_eq}
use Rattle.std.proofs.lemmas.List.{get_or_read}
use Rattle.lru_shard.specs.Shard.{Shard}
use Rattle.lru_shared_order.specs.declared.admission.Admission.{Admission}
use Rattle.lru_shared_order.specs.declared.admission.Fate.{Fate}
use Rattle.lru_shared_order.specs.declared.admission.Fate.TheVariants.{Waiting, Admitted, HandedBack}
use Rattle.lru_shared_order.specs.Batches.{is_waiting, awaited, home_of, AdmitsEach}
use Rattle.lru_shared_order.proofs.Answered.{each_done}

module _ {T : Type 0} where
  -- of the first so many none waits
  abbrev pub ArePassed : List (Admission T) → ℕ → Type 0
  ArePassed batch p = (q : ℕ) (d : Admission T) → q < p → is_waiting (get_or batch q d).fate ≡ false

  awaits_none : (n k : ℕ) (x : Fate T) → awaited n k x ≡ None → is_waiting x ≡ false
  awaits_none n k (Waiting d) h = absurd (let bad : Some (k % n) ≡ None = h in cc)
  awaits_none n k (Admitted s) h = refl
  awaits_none n k (HandedBack r) h = refl

  -- one that awaits no shard is passed
  pub passed_one : (n : ℕ) (batch : List (Admission T)) (p : ℕ) (a : Admission T) → p < length batch → a ≡ get_or batch p a → home_of n a ≡ None → ArePassed batch p → ArePassed batch (p + 1)
  passed_one n batch p a within is_a none before = λ q d lt.
      elim (cases_eq q p) [
        | inl here ↦
            ap (λ (x : Admission T). is_waiting x.fate) (ap (λ i. get_or batch i d) here ∙ sym (get_or_read batch p a within is_a d)) ∙ awaits_none n a.key a.fate none
        | inr other ↦ before q d (omega (arith, lt, other))
      ]

  -- where its shard is asked, all are passed that wait for that shard
  pub passed_all : (n s : ℕ) (old new : Shard T) (batch answered : List (Admission T)) (p : ℕ) (a : Admission T) → p < length batch → a ≡ get_or batch p a → home_of n a ≡ Some s
      → AdmitsEach n s old batch answered new → ArePassed batch p → ArePassed answered (p + 1)
  passed_all n s old new batch answered p a within is_a home asked before = λ q d lt.
      let done = each_done n s old new batch answered asked q d (omega (arith, lt, within)) in
      elim (cases_eq q p) [
        | inl here ↦ done.1 (ap (home_of n) (ap (λ i. get_or batch i d) here ∙ sym (get_or_read batch p a within is_a d)) ∙ home)
        | inr other ↦ done.0 (before q d (omega (arith, lt, other)))
      ]
