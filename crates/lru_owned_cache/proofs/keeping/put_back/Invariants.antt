use Rattle.std.proofs.Common.{◌≡◌}
use Rattle.lru_owned_cache.specs.Partings.{PuttingBack}
use Rattle.lru_owned_cache.proofs.keeping.put_back.Given as goal

abbrev pub invariant-loop-left : goal.invariant-loop-left
invariant-loop-left g l = PuttingBack l.count l.fn.rows.held l.rows.held l.left × (l.rows.hashes ≡ l.fn.rows.hashes)

abbrev pub decreases-loop-left : goal.decreases-loop-left
decreases-loop-left g l = l.left
