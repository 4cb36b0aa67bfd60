use Rattle.std.proofs.Common.{◌≡◌}
use Rattle.lru_cores.specs.Core.{core_len}
use Rattle.lru_cores.specs.Eviction.{EvictionRun}
use Rattle.lru_cores.proofs.lru_core.LruCore.evict_to_limit.Given as goal

abbrev pub invariant-loop-self : goal.invariant-loop-self
invariant-loop-self g l = record {
  run : EvictionRun l.fn.self (g.R.Rng.stream l.fn.rng) l.evicted.items l.self (g.R.Rng.stream l.rng);
  undrawn : g.row.N ≡ 1 → l.rng ≡ l.fn.rng;
}

abbrev pub decreases-loop-self : goal.decreases-loop-self
decreases-loop-self g l = core_len l.self
