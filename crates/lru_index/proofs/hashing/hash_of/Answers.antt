use Rattle.std.proofs.Common.{rules}
use Rattle.lru_index.specs.Hashing.{hash_by}
use Rattle.lru_index.proofs.hashing.hash_of.Goals as goal

pub returns : goal.returns
unfolding hash_by
returns g c = search rules
