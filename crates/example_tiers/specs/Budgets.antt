-- Both tiers within their budgets.
use Rattle.std.specs.Prelude.{IsFalse}
use Rattle.lru_cores.specs.Eviction.{is_over}
use Rattle.lru_cores.specs.Tiers.{Tiers}

pub record IsWithin {T : Type 0} (t : Tiers T) : Type 0 where
  pub hot : IsFalse (is_over t.hot)
  pub cold : IsFalse (is_over t.cold)
