use Rattle.std.proofs.Common.{◌≡◌, []}
use Rattle.lru_workers.proofs.bench.clear.Given as goal

abbrev pub invariant-loop : goal.invariant-loop
invariant-loop g l = l.items.items ≡ []
