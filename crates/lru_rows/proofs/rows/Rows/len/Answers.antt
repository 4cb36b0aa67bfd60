use Rattle.lru_index.specs.Hashing.{key_hash}
use Rattle.lru_rows.proofs.Viewed.{seen_len, seen_valid}
use Rattle.lru_rows.proofs.rows.Rows.len.Goals as goal

pub returns-clause-value : goal.returns-clause-value
returns-clause-value g c = seen_len g.K.PartialEq.eq (key_hash g.S.BuildHasher g.S.Hasher.Hasher g.K.Hash.hash_input) c.self.inside.order.list c.self.inside.columns.index c.self.inside.columns.weights.items c.self.inside.columns.values.items c.self.invariant c.args.self.now c.self.view_is c.len.result c.len.ensures.len

pub returns-clause-valid : goal.returns-clause-valid
returns-clause-valid g c = seen_valid g.K.PartialEq.eq (key_hash g.S.BuildHasher g.S.Hasher.Hasher g.K.Hash.hash_input) c.self.inside.order.list c.self.inside.columns.index c.self.inside.columns.weights.items c.self.inside.columns.values.items c.self.invariant c.args.self.now c.self.view_is g.met.K.Eq.laws
