use Rattle.std.proofs.Common.{◌≡◌, []}
use Rattle.std.specs.Prelude.{replicate}
use Rattle.lru_shard.specs.Shard.{shard}
use Rattle.lru_cores.proofs.lru_core.empty_units.Given as goal

abbrev pub invariant-loop : goal.invariant-loop
invariant-loop g l = l.units.items ≡ replicate l.counter (shard [] l.cap)
