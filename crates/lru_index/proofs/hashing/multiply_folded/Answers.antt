use Rattle.std.proofs.Common.{refl}
use Rattle.lru_index.specs.Hashing.{folded_multiply}
use Rattle.lru_index.proofs.hashing.multiply_folded.Goals as goal

pub returns : goal.returns
unfolding folded_multiply
returns c = refl
