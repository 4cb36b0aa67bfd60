use Rattle.std.proofs.Common.{◌≡◌, take}
use Rattle.std.specs.Prelude.{count_by}
use Rattle.lru_workers.proofs.bench.evictions_in.Given as goal

-- those of the first so many that asked
abbrev pub invariant-loop-asked : goal.invariant-loop-asked
invariant-loop-asked g l = l.count ≡ count_by (λ a. a.evicts) (take l.asked-index l.asked.items)
