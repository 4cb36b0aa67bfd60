use Rattle.std.proofs.Common.{ℕ, ◌<◌, ◌≤◌, arith}
use Rattle.std.specs.Prelude.{nat_lt}
use Rattle.std.proofs.lemmas.Bool.{lt-ltb}
use Rattle.std.proofs.lemmas.List.Sums.{list_all-from_AllPass}
use Rattle.lru_admission.specs.Sketch.{estimate, fresh, counted_all}
use Rattle.lru_admission.proofs.laws.admission_law.Goals as goal

below : (a b c : ℕ) → a < b → b ≤ c → a < c
below a b c h k = omega arith

-- the key's estimate is no less than its uses, and each of the others' is less than those
pub returns : goal.returns
returns g c = λ hash entries hashes key gone rarer.
    let sketch = counted_all (fresh entries) hashes in
    list_all-from_AllPass (λ e. nat_lt (estimate sketch (hash e.key)) (estimate sketch (hash key))) gone
    (λ k d h. lt-ltb _ _ (below _ _ _ (rarer k d h) (c.estimates_law.ensures.counted entries hashes (hash key))))
