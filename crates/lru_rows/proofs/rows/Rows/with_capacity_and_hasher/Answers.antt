use Rattle.lru_index.specs.Hashing.{key_hash}
use Rattle.lru_rows.proofs.Moves.{kept_none}
use Rattle.lru_rows.proofs.rows.Rows.with_capacity_and_hasher.Goals as goal

pub invariant_of-result : goal.invariant_of-result
invariant_of-result g c =
    let columns = c.in_ok-columns.columns in
    kept_none g.K.PartialEq.eq (key_hash g.S.BuildHasher g.S.Hasher.Hasher g.K.Hash.hash_input) c.in_ok-list.list columns.index columns.weights.items columns.values.items
    c.in_ok-list.ensures.empty c.in_ok-list.ensures.numbered c.in_ok-columns.ensures.empty c.in_ok-columns.ensures.room c.in_ok-columns.ensures.weights c.in_ok-columns.ensures.values
