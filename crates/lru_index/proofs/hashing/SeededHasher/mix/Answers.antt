use Rattle.lru_index.specs.Hashing.{mixed}
use Rattle.lru_index.proofs.hashing.SeededHasher.mix.Goals as goal

pub returns : goal.returns
unfolding mixed
returns c = simp c.multiply_folded-self.ensures
