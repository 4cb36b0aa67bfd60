-- Batches of admissions, each answered in its own place.
use Rattle.std.specs.Prelude.{◌≡◌, ℕ, ◌%◌, ◌≤◌, ◌==◌, ◌&&◌, max, Bool, true, false, MatchBool, List, [], ◌∷◌, Option, None, Some, Ok, Err}
use Rattle.lru_shard.specs.declared.unit.Refused.{Refused}
use Rattle.lru_shard.specs.Shard.{Shard}
use Rattle.lru_shard.specs.Limits.{cap_of}
use Rattle.lru_shard.specs.ShardCalls.{AdmitsRaised}
use Rattle.lru_shared_order.specs.declared.admission.Admission.{Admission}
use Rattle.lru_shared_order.specs.declared.admission.Fate.{Fate}
use Rattle.lru_shared_order.specs.declared.admission.Fate.TheVariants.{Waiting, Admitted, HandedBack}

module _ {T : Type 0} where
  abbrev pub waiting : ℕ → T → ℕ → Admission T
  waiting k d w = record { key = k; weight = w; fate = Waiting d }

  abbrev pub is_waiting : Fate T → Bool
  is_waiting (Waiting _) = true
  is_waiting _ = false

  -- the shard of n that a fate of this key waits for
  abbrev pub awaited : ℕ → ℕ → Fate T → Option ℕ
  awaited n k (Waiting _) = Some (k % n)
  awaited n k _ = None

  abbrev pub home_of : ℕ → Admission T → Option ℕ
  home_of n a = awaited n a.key a.fate

  -- an admission waits for shard s of n
  abbrev pub waits_for : ℕ → ℕ → Admission T → Bool
  waits_for n s a = is_waiting a.fate && (a.key % n == s)

  -- what waits is asked of shard s, and has its answer
  abbrev pub IsAsked : ℕ → Shard T → ℕ → ℕ → Fate T → Fate T → Shard T → Type 0
  IsAsked s old k w (Waiting d) (Admitted at) new = (at ≡ s) × ((was : ℕ) × AdmitsRaised old k d w (Ok was) new)
  IsAsked s old k w (Waiting d) (HandedBack r) new = AdmitsRaised old k d w (Err r) new
  IsAsked s old k w _ _ new = ⊥

  -- one admission at its turn: asked of the shard, if it waits for it, and else left as it is
  abbrev pub AdmitsOne : ℕ → ℕ → Shard T → Admission T → Admission T → Shard T → Type 0
  AdmitsOne n s old a b new =
      MatchBool (waits_for n s a) ((b ≡ record a { fate = b.fate }) × IsAsked s old a.key a.weight a.fate b.fate new) ((b ≡ a) × (new ≡ old))

  -- a batch, as far as it is for shard s: one admission after the other, in order, each answered in its place
  abbrev pub AdmitsEach : ℕ → ℕ → Shard T → List (Admission T) → List (Admission T) → Shard T → Type 0
  AdmitsEach n s old [] [] new = new ≡ old
  AdmitsEach n s old (a ∷ batch) (b ∷ answered) new = (mid : Shard T) × (AdmitsOne n s old a b mid × AdmitsEach n s mid batch answered new)
  AdmitsEach n s old _ _ new = ⊥

  -- what an answer tells by itself, where nothing is known of the shards; what was answered before stays
  abbrev pub IsFate : ℕ → ℕ → ℕ → Fate T → Fate T → Type 0
  IsFate n k w (Waiting d) (Waiting e) = ⊥
  IsFate n k w (Waiting d) (Admitted s) = (s ≡ k % n) × (max w 1 ≤ cap_of n)
  IsFate n k w (Waiting d) (HandedBack r) = r.held ≡ d
  IsFate n k w (Admitted s) after = after ≡ Admitted s
  IsFate n k w (HandedBack r) after = after ≡ HandedBack r

  abbrev pub IsAnswered : ℕ → Admission T → Admission T → Type 0
  IsAnswered n a b = (b ≡ record a { fate = b.fate }) × IsFate n a.key a.weight a.fate b.fate

  -- each admission of a batch is answered in its place
  abbrev pub AreAnswered : ℕ → List (Admission T) → List (Admission T) → Type 0
  AreAnswered n [] [] = Unit {0}
  AreAnswered n (a ∷ batch) (b ∷ answered) = IsAnswered n a b × AreAnswered n batch answered
  AreAnswered n _ _ = ⊥
