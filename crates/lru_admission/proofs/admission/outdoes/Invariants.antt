use Rattle.std.proofs.Common.{length}
use Rattle.std.specs.Prelude.{nat_lt}
use Rattle.lru_index.specs.Hashing.{key_hash}
use Rattle.lru_admission.specs.Sketch.{estimate}
use Rattle.lru_admission.proofs.Asking.{Asking}
use Rattle.lru_admission.proofs.admission.outdoes.Given as goal

-- those that went so far are rarer, and the others are left
abbrev pub invariant-victims : goal.invariant-victims
invariant-victims g l =
    Asking (λ e. nat_lt (estimate l.sketch (key_hash g.S.BuildHasher g.S.Hasher.Hasher g.K.Hash.hash_input l.cache.hashes e.key)) l.count) l.most_weight l.most_entries l.cache.entries l.left l.weight l.entries

abbrev pub decreases-victims : goal.decreases-victims
decreases-victims g l = length l.left
