use Rattle.std.proofs.Common.{add_assoc, arith}
use Rattle.lru_index.specs.Hashing.{number_at}
use Rattle.lru_index.proofs.hashing.read_half.Goals as goal

pub returns-clause-number : goal.returns-clause-number
unfolding number_at
returns-clause-number c = simp add_assoc (omega arith)
