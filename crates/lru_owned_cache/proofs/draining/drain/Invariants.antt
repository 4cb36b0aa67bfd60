use Rattle.std.proofs.Common.{◌≡◌, length}
use denote.Param.Always.{always_mut}
use Rattle.lru_owned_cache.specs.Partings.{Draining}
use Rattle.lru_owned_cache.proofs.draining.drain.Given as goal

abbrev pub invariant-loop-first : goal.invariant-loop-first
invariant-loop-first g l = always_mut g.F.FnMut l.visit × Draining (λ p x q. goal.F-step g p x tt q) l.fn.visit l.visit l.fn.rows.held l.rows.held × (l.rows.hashes ≡ l.fn.rows.hashes)

abbrev pub decreases-loop-first : goal.decreases-loop-first
decreases-loop-first g l = length l.rows.held.rows
