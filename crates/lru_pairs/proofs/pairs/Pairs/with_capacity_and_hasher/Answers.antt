use Rattle.std.proofs.Common.{arith}
use Rattle.lru_index.specs.Hashing.{key_hash}
use Rattle.lru_pairs.proofs.Kept.{kept_none}
use Rattle.lru_pairs.proofs.pairs.Pairs.with_capacity_and_hasher.Goals as goal

pub invariant_of-result : goal.invariant_of-result
invariant_of-result g c =
    kept_none g.K.PartialEq.eq (key_hash g.S.BuildHasher g.S.Hasher.Hasher g.K.Hash.hash_input) c.in_ok-nodes.nodes c.in_ok-index.index c.in_ok-nodes.ensures.empty c.in_ok-nodes.ensures.valid c.in_ok-index.ensures.empty (omega (arith, c.in_ok-index.ensures.room))
