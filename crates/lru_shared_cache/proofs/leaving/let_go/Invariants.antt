use Rattle.std.proofs.Common.{length}
use denote.Param.Always.{always_mut}
use Rattle.lru_shared_cache.proofs.Parted.{Going}
use Rattle.lru_shared_cache.proofs.leaving.let_go.Given as goal

abbrev pub invariant-loop-cache : goal.invariant-loop-cache
invariant-loop-cache g l = always_mut g.F.FnMut l.visit × Going (λ p x q. goal.F-step g p x tt q) l.fn.visit l.visit l.most_weight l.most_entries l.fn.cache l.cache

abbrev pub decreases-loop-cache : goal.decreases-loop-cache
decreases-loop-cache g l = length l.cache.entries
