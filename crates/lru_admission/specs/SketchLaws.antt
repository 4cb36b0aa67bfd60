-- What holds of estimates after any uses.
use Rattle.std.specs.Prelude.{◌≡◌, ℕ, ◌+◌, ◌*◌, ◌/◌, ◌≤◌, ◌==◌, min, max, List, [], count_by}
use Rattle.lru_admission.specs.Sketch.{Counted, IsSketch, estimate, fresh, raised, least_of, halved, counted_all, since_halving}

-- from the first use on: no fewer than the uses of a hash since the last halving, up to 15
abbrev pub NeverTooLow : Type 0
NeverTooLow = (entries : ℕ) (hashes : List ℕ) (hash : ℕ) →
    min 15 (count_by (λ used. used == hash) (since_halving (10 * max 1 entries) [] hashes)) ≤ estimate (counted_all (fresh entries) hashes) hash

-- a use raises the estimate of its hash by one, up to 15, and none sinks
pub record AfterAUse (s : Counted) (hash : ℕ) : Type 0 where
  pub own : least_of (raised s.counts hash) hash ≡ min 15 (estimate s hash + 1)
  pub others : (other : ℕ) → estimate s other ≤ least_of (raised s.counts hash) other

abbrev pub NeverSinks : Type 0
NeverSinks = (s : Counted) (hash : ℕ) → IsSketch s → AfterAUse s hash

-- a halving halves each estimate, rounded down
abbrev pub HalvesEstimates : Type 0
HalvesEstimates = (s : Counted) (hash : ℕ) → estimate (halved s) hash ≡ estimate s hash / 2
