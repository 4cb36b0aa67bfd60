use Rattle.lru_cores.specs.Tiers.{tiers}
use Rattle.lru_cores.proofs.Keeping.{keeps_evicted}
use Rattle.lru_cores.proofs.tiered.TieredCore.balance.Goals as goal
use Rattle.lru_cores.proofs.tiered.TieredCore.balance.Goals.{in-Ok, in-Err-evict_to_limit}

pub invariant_of-self : goal.invariant_of-self
invariant_of-self g c =
    let t = tiers c.self.inside.hot c.self.inside.cold in
    elim c.match-evict_to_limit.branch [
      | in-Ok w ↦ keeps_evicted g.row.N t c.self.invariant (g.R.Rng.stream c.spill_to_limit.new.rng) w.in-Ok.pairs.items c.evict_to_limit.new.self (g.R.Rng.stream c.evict_to_limit.new.rng) w.in-Ok.ensures.ok.run
      | in-Err-evict_to_limit w ↦ keeps_evicted g.row.N t c.self.invariant (g.R.Rng.stream c.spill_to_limit.new.rng) w.in-Err-evict_to_limit.stopped.evicted.items c.evict_to_limit.new.self (g.R.Rng.stream c.evict_to_limit.new.rng) w.in-Err-evict_to_limit.ensures.err.run
    ]
