use Rattle.std.proofs.Common.{refl}
use Rattle.lru_index.specs.Hashing.{unseeded}
use Rattle.lru_index.proofs.hashing.SeededHashes.fixed.Goals as goal

pub returns : goal.returns
unfolding unseeded
returns c = refl
