use Rattle.std.proofs.Common.{◌≡◌}
use denote.Param.Always.{always_mut}
use Rattle.lru_owned_cache.specs.Partings.{Asking}
use Rattle.lru_owned_cache.proofs.keeping.ask_last.Given as goal

abbrev pub invariant-loop-left : goal.invariant-loop-left
invariant-loop-left g l =
    always_mut g.F.FnMut l.keep × always_mut g.G.FnMut l.visit
    × Asking (λ p k v w b q. goal.F-step g p k v w b q) l.fn.keep l.keep (λ p x q. goal.G-step g p x tt q) l.fn.visit l.visit l.most l.fn.rows.held l.rows.held l.used l.left l.kept
    × (l.rows.hashes ≡ l.fn.rows.hashes)

abbrev pub decreases-loop-left : goal.decreases-loop-left
decreases-loop-left g l = l.left
