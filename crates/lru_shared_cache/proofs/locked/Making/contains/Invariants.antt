use Rattle.std.proofs.Common.{◌≡◌, length}
use Rattle.lru_shared_cache.specs.Making.{is_among}
use Rattle.lru_shared_cache.proofs.locked.Making.contains.Given as goal

abbrev pub invariant-loop-note : goal.invariant-loop-note
invariant-loop-note l = is_among l.rest l.hash ≡ is_among l.fn.self.notes.items l.hash

abbrev pub decreases-loop-note : goal.decreases-loop-note
decreases-loop-note l = length l.rest
