use Rattle.std.proofs.Common.{length}
use denote.Param.Always.{always_mut}
use Rattle.lru_shared_cache.proofs.Parted.{Draining}
use Rattle.lru_shared_cache.proofs.leaving.drain.Given as goal

abbrev pub invariant-loop-first : goal.invariant-loop-first
invariant-loop-first g l = always_mut g.F.FnMut l.visit × Draining (λ p x q. goal.F-step g p x tt q) l.fn.visit l.visit l.fn.cache l.cache

abbrev pub decreases-loop-first : goal.decreases-loop-first
decreases-loop-first g l = length l.cache.entries
