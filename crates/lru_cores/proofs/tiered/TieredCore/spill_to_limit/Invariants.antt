use Rattle.std.proofs.Common.{ℕ, List}
use Rattle.lru_cores.specs.Core.{core_len}
use Rattle.lru_cores.specs.TierCalls.{SpillRun}
use Rattle.lru_cores.proofs.tiered.TieredCore.spill_to_limit.Given as goal

-- what was spilled so far is a run
abbrev pub invariant-loop-self : goal.invariant-loop-self
invariant-loop-self g l = (keys : List ℕ) × SpillRun l.fn.self (g.R.Rng.stream l.fn.rng) keys l.self (g.R.Rng.stream l.rng)

abbrev pub decreases-loop-self : goal.decreases-loop-self
decreases-loop-self g l = core_len l.self.hot
