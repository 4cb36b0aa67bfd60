use Rattle.std.proofs.Common.{arith}
use Rattle.lru_owned_cache.proofs.RetainedEntries.{retains_rows}
use Rattle.lru_owned_cache.proofs.keeping.retain.Goals as goal

pub returns-clause-retains : goal.returns-clause-retains
returns-clause-retains g c = retains_rows c.ask_last-used.ensures.asks (omega (arith, c.len-most.ensures.value))
