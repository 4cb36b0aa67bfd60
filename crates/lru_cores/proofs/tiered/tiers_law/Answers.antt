use Rattle.lru_cores.proofs.Counting.{accounted}
use Rattle.lru_cores.proofs.tiered.tiers_law.Goals as goal

pub returns : goal.returns
returns g c n old new events is run = accounted n old is events new run
