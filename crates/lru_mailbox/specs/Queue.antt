-- Where evicted pairs go: those that wait, the first one first, and a count of those that are lost.
use Rattle.std.specs.Prelude.{ℕ, ◌+◌, ◌%◌, ◌^◌, Bool, List, [], ◌∷◌, ◌++◌, if◌then◌else◌}

-- `lost` begins again at 2 ^ 64
pub record Queue (K : Type 0) : Type 0 where
  pub waiting : List (K × ℕ)
  pub closed : Bool
  pub lost : ℕ

-- a pair of a key and a weight waits last, or where the queue is closed is lost
abbrev pub dispatched : {K : Type 0} → Queue K → K → ℕ → Queue K
dispatched q key weight =
    if q.closed then record q { lost = (q.lost + 1) % 2 ^ 64 } else record q { waiting = q.waiting ++ (key, weight) ∷ [] }
