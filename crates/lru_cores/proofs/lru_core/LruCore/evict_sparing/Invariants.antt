use Rattle.std.proofs.Common.{◌≡◌, ℕ, List}
use Rattle.std.specs.List.{FoldsTo}
use denote.Param.Always.{always_mut}
use Rattle.lru_shard.specs.Row.{Row}
use Rattle.lru_cores.specs.Core.{core_len}
use Rattle.lru_cores.specs.Sparing.{SparingRun, StandsFirst}
use Rattle.lru_cores.proofs.lru_core.LruCore.evict_sparing.Given as goal

abbrev pub invariant-loop-victim : goal.invariant-loop-victim
invariant-loop-victim g l =
    always_mut g.F.FnMut l.visit
    × ((pairs : List (g.row.T.Denot × ℕ))
    × (SparingRun l.fn.self l.fn.key pairs l.self
    × (FoldsTo (λ p x q. goal.F-step g p x tt q) l.fn.visit pairs l.visit
    × ((r : Row g.row.T.Denot) → r.key ≡ l.fn.key → StandsFirst l.fn.self r → StandsFirst l.self r))))

abbrev pub decreases-loop-victim : goal.decreases-loop-victim
decreases-loop-victim g l = core_len l.self
