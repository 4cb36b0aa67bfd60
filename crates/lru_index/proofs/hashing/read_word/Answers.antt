use Rattle.std.proofs.Common.{add_assoc, arith}
use Rattle.lru_index.specs.Hashing.{number_at}
use Rattle.lru_index.proofs.hashing.read_word.Goals as goal

pub returns : goal.returns
unfolding number_at
returns c = simp add_assoc (omega arith)
