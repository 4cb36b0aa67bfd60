use Rattle.std.proofs.Common.{length}
use denote.Param.Always.{always_mut}
use Rattle.lru_segmented.specs.Segmented.{entries}
use Rattle.lru_segmented.proofs.Receding.{Receding}
use Rattle.lru_segmented.proofs.segmented.SegmentedCache.let_go.Given as goal

abbrev pub invariant-loop-self : goal.invariant-loop-self
invariant-loop-self g l = always_mut g.F.FnMut l.visit × Receding (λ p x q. goal.F-step g p x tt q) l.fn.visit l.most_weight l.most_entries l.fn.self l.visit l.self

abbrev pub decreases-loop-self : goal.decreases-loop-self
decreases-loop-self g l = length (entries l.self)
