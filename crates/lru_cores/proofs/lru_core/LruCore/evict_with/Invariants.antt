use Rattle.std.proofs.Common.{◌≡◌, ℕ, List}
use Rattle.std.specs.List.{FoldsTo}
use denote.Param.Always.{always_mut}
use Rattle.lru_cores.specs.Core.{core_len}
use Rattle.lru_cores.specs.Eviction.{EvictionRun}
use Rattle.lru_cores.proofs.lru_core.LruCore.evict_with.Given as goal

abbrev pub invariant-loop-self : goal.invariant-loop-self
invariant-loop-self g l =
    always_mut g.F.FnMut l.hand_over
    × ((pairs : List (g.row.T.Denot × ℕ))
    × (EvictionRun l.fn.self (g.R.Rng.stream l.fn.rng) pairs l.self (g.R.Rng.stream l.rng)
    × (FoldsTo (λ p x q. goal.F-step g p x tt q) l.fn.hand_over pairs l.hand_over
    × (g.row.N ≡ 1 → l.rng ≡ l.fn.rng))))

abbrev pub decreases-loop-self : goal.decreases-loop-self
decreases-loop-self g l = core_len l.self
