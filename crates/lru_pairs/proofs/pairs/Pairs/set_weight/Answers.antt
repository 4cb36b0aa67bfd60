use Rattle.lru_index.specs.Hashing.{key_hash}
use Rattle.lru_rows.specs.Rows.{with_weight}
use Rattle.lru_pairs.proofs.Kept.{kept_moved, keys_weight}
use Rattle.lru_pairs.proofs.pairs.Pairs.set_weight.Goals as goal

pub invariant_of-self : goal.invariant_of-self
invariant_of-self g c = kept_moved g.K.PartialEq.eq (key_hash g.S.BuildHasher g.S.Hasher.Hasher g.K.Hash.hash_input) c.self.inside.nodes c.self.inside.index c.self.invariant c.set_weight.new.self (with_weight c.self.inside.nodes.held.rows c.args.place c.args.weight) c.set_weight.ensures.rows c.set_weight.ensures.valid (keys_weight c.self.inside.nodes.held.rows c.args.place c.args.weight)
