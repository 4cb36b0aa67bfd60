use Rattle.std.proofs.Common.{◌^◌, ◌-◌}
use Rattle.lru_index.specs.Hashing.{key_hash}
use Rattle.lru_index.specs.Representation.Cells.{IsFilled}
use Rattle.lru_index.proofs.cells.fill.Given as goal

abbrev pub invariant-loop-place : goal.invariant-loop-place
invariant-loop-place g l =
    IsFilled (key_hash g.S.BuildHasher g.S.Hasher.Hasher g.K.Hash.hash_input l.hash_builder) (2 ^ (64 - l.shift)) l.shift l.place (g.T.Keys.key_of l.keys) l.cells
