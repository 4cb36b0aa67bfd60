use Rattle.std.proofs.Common.{◌≡◌, length}
use denote.Param.Always.{always_mut}
use Rattle.lru_owned_cache.specs.Partings.{Shrinking}
use Rattle.lru_owned_cache.proofs.shrinking.let_go.Given as goal

abbrev pub invariant-loop-rows : goal.invariant-loop-rows
invariant-loop-rows g l =
    always_mut g.F.FnMut l.visit × Shrinking (λ p x q. goal.F-step g p x tt q) l.fn.visit l.visit l.most_weight l.most_rows l.fn.rows.held l.rows.held l.used × (l.rows.hashes ≡ l.fn.rows.hashes)

abbrev pub decreases-loop-rows : goal.decreases-loop-rows
decreases-loop-rows g l = length l.rows.held.rows
