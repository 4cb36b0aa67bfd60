use denote.Param.Always.{always_mut}
use Rattle.lru_segmented.specs.Retained.{Asking}
use Rattle.lru_segmented.proofs.keeping.retain_last.Given as goal

abbrev pub invariant-loop-left : goal.invariant-loop-left
invariant-loop-left g l =
    always_mut g.F.FnMut l.keep × always_mut g.G.FnMut l.visit
    × Asking (λ p k v w b q. goal.F-step g p k v w b q) l.fn.keep l.keep (λ p x q. goal.G-step g p x tt q) l.fn.visit l.visit l.most l.fn.seats l.seats l.next l.left

abbrev pub decreases-loop-left : goal.decreases-loop-left
decreases-loop-left g l = l.left
