-- What happens to two tiers, call by call; and where the row of each key is in the end.
use Rattle.std.specs.Prelude.{◌≡◌, ℕ, ◌+◌, ◌==◌, List, [], ◌∷◌, map, Option, Result, Ok, Err, ◌⊎◌, if◌then◌else◌}
use Rattle.lru_shard.specs.declared.unit.Refused.{Refused}
use Rattle.lru_shard.specs.declared.unit.Cause.{Cause}
use Rattle.lru_shard.specs.Row.{Row, pair_of, times}
use Rattle.rand_core.specs.Stream.{Stream}
use Rattle.lru_cores.specs.declared.tiered.Tier.{Tier}
use Rattle.lru_cores.specs.Tiers.{Tiers, tiers, core_without, times_of}
use Rattle.lru_cores.specs.TierCalls.{AdmitsHot, Touches, Spills, Balances}

-- a call that was made
pub data Event (T : Type 0) : Type 0 where
  -- an `admit` that was granted, or refused
  Admitted : (k : ℕ) → (d : T) → (w : ℕ) → Event T
  NotAdmitted : (k : ℕ) → (d : T) → (w : ℕ) → Event T
  Touched : (k : ℕ) → Event T
  Removed : (k : ℕ) → Event T
  Spilled : (a b : ℕ) → Event T
  -- a `balance`, with the pairs that it answered as evicted, also in its error
  Balanced : (pairs : List (T × ℕ)) → Event T

module _ {T : Type 0} where
  abbrev pub Happens : Tiers T → Event T → Tiers T → Type 0
  Happens old (Admitted k d w) new = (s : ℕ) × AdmitsHot old k d w (Ok s) new
  Happens old (NotAdmitted k d w) new = (r : Refused T) × AdmitsHot old k d w (Err r) new
  Happens old (Touched k) new = (answer : Result (Option Tier) Cause) × Touches old k answer new
  Happens old (Removed k) new = new ≡ tiers (core_without old.hot k) (core_without old.cold k)
  Happens old (Spilled a b) new = (answer : Result (Option ℕ) Cause) × Spills old a b answer new
  Happens old (Balanced pairs) new =
      (words : Stream) × ((rest : Stream) × (Balances old words (Ok pairs) new rest ⊎ ((cause : Cause) × Balances old words (Err (cause, pairs)) new rest)))

  abbrev pub Runs : Tiers T → List (Event T) → Tiers T → Type 0
  Runs old [] new = new ≡ old
  Runs old (e ∷ es) new = (mid : Tiers T) × (Happens old e mid × Runs mid es new)

  -- these rows were answered as evicted, row by row as their pairs; for each event
  abbrev pub AreGone : Event T → List (Row T) → Type 0
  AreGone (Balanced pairs) rows = map pair_of rows ≡ pairs
  AreGone _ rows = rows ≡ []

  abbrev pub AreAllGone : List (Event T) → List (List (Row T)) → Type 0
  AreAllGone [] [] = Unit {0}
  AreAllGone (e ∷ es) (rows ∷ gone) = AreGone e rows × AreAllGone es gone
  AreAllGone _ _ = ⊥

  -- how many rows of a key have to be somewhere, if n had to before: one since it was admitted, none since it was removed
  abbrev pub due : ℕ → ℕ → List (Event T) → ℕ
  due k n [] = n
  due k n (Admitted j d w ∷ es) = due k (if j == k then 1 else n) es
  due k n (Removed j ∷ es) = due k (if j == k then 0 else n) es
  due k n (e ∷ es) = due k n es

  -- how many rows of a key were answered as evicted since it was last admitted or removed, if n were before
  abbrev pub told : ℕ → ℕ → List (Event T) → List (List (Row T)) → ℕ
  told k n (Admitted j d w ∷ es) (rows ∷ gone) = told k (if j == k then 0 else n) es gone
  told k n (Removed j ∷ es) (rows ∷ gone) = told k (if j == k then 0 else n) es gone
  told k n (e ∷ es) (rows ∷ gone) = told k (n + times k rows) es gone
  told k n _ _ = n

  -- each key that has to be somewhere is once in a tier, or once among what was answered; no other key is anywhere
  pub record IsAccounted (old : Tiers T) (events : List (Event T)) (new : Tiers T) : Type 0 where
    pub gone : List (List (Row T))
    pub answered : AreAllGone events gone
    pub each : (k : ℕ) → times_of k new + told k 0 events gone ≡ due k (times_of k old) events
