use Rattle.std.proofs.Common.{refl}
use Rattle.lru_index.specs.Hashing.{spread}
use Rattle.lru_index.proofs.hashing.draw.Goals as goal

pub returns : goal.returns
unfolding spread
returns c = refl
