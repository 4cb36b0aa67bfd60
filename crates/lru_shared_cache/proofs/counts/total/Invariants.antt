use Rattle.std.proofs.Common.{◌≡◌, length}
use Rattle.std.specs.List.{fold}
use Rattle.lru_shared_cache.specs.Counts.{both_counts, total}
use Rattle.lru_shared_cache.proofs.counts.total.Given as goal

abbrev pub invariant-loop-one : goal.invariant-loop-one
invariant-loop-one g l = fold (λ sum one. both_counts sum one.counts) l.stats l.rest ≡ total l.fn.counted

abbrev pub decreases-loop-one : goal.decreases-loop-one
decreases-loop-one g l = length l.rest
