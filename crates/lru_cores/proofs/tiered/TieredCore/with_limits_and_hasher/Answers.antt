use Rattle.std.proofs.Common.{◌≡◌, ℕ, ◌<◌, List, [], zero, suc, get_or, refl, ap, arith}
use Rattle.std.specs.Prelude.{replicate}
use Rattle.std.proofs.lemmas.List.{length-replicate}
use Rattle.std.proofs.lemmas.List.Folds.{sum_by-replicate}
use Rattle.lru_shard.specs.Row.{Row, times}
use Rattle.lru_cores.specs.Tiers.{tiers, empty_tier, IsTier, AreTiers}
use Rattle.lru_cores.proofs.tiered.TieredCore.with_limits_and_hasher.Goals as goal

module _ {T : Type 0} where
  abbrev no_lists : ℕ → List (List (Row T))
  no_lists n = replicate n []

  none_at : (n s : ℕ) → get_or (no_lists n) s [] ≡ []
  none_at zero s = refl
  none_at (suc n) zero = refl
  none_at (suc n) (suc s) = none_at n s

  empty_is : (n limit : ℕ) → 0 < n → IsTier n (empty_tier {T = T} n limit)
  empty_is n limit some = record {
    some = some;
    count = length-replicate n [];
    homes = λ s k h. absurd (omega (arith, ap (times k) (none_at n s), h));
    unmarked = refl;
  }

  empty_tiers : (n hot cold : ℕ) → 0 < n → AreTiers n (tiers (empty_tier {T = T} n hot) (empty_tier n cold))
  empty_tiers n hot cold some = record {
    hot = empty_is n hot some;
    cold = empty_is n cold some;
    apart = λ k. omega (arith, sum_by-replicate (λ (rows : List (Row T)). times k rows) n []);
  }

pub invariant_of-result : goal.invariant_of-result
invariant_of-result g c =
    let hot : c.in_ok-with_capacity_and_hasher.field-0 ≡ empty_tier g.row.N c.args.hot_limit = c.in_ok-with_capacity_and_hasher.ensures in
    let cold : c.in_ok-with_capacity_and_hasher-2.field-0 ≡ empty_tier g.row.N c.args.cold_limit = c.in_ok-with_capacity_and_hasher-2.ensures in
    rw hot (rw cold (empty_tiers g.row.N c.args.hot_limit c.args.cold_limit c.requires))
