use Rattle.lru_index.specs.Hashing.{key_hash}
use Rattle.std.proofs.Common.{refl}
use Rattle.lru_rows.specs.Rows.{with_value}
use Rattle.lru_pairs.specs.Representation.Nodes.{with_rows}
use Rattle.lru_pairs.proofs.Kept.{kept_as, keys_value}
use Rattle.lru_pairs.proofs.Lent.{laid_value}
use Rattle.lru_pairs.proofs.pairs.Pairs.value_mut.Goals as goal

pub invariant_of-self-lent : goal.invariant_of-self-lent
invariant_of-self-lent g c = λ w.
    let rows = with_value c.self.inside.nodes.held.rows c.args.place w in
    kept_as g.K.PartialEq.eq (key_hash g.S.BuildHasher g.S.Hasher.Hasher g.K.Hash.hash_input) c.self.inside.nodes c.self.inside.index c.self.invariant (with_rows c.self.inside.nodes rows) rows refl refl (laid_value c.self.inside.nodes c.args.place w c.self.invariant.laid) (keys_value c.self.inside.nodes.held.rows c.args.place w)
