use Rattle.lru_index.specs.Hashing.{seeded}
use Rattle.lru_index.proofs.hashing.SeededHashes.with_seed.Goals as goal

pub returns : goal.returns
unfolding seeded
returns c = simp (c.draw.ensures, c.draw-2.ensures)
