use Rattle.lru_segmented.proofs.UnitWalked.{no_walk}
use Rattle.lru_segmented.proofs.unit_laws.no_walk_evicts.Goals as goal

pub returns : goal.returns
returns g c = no_walk
