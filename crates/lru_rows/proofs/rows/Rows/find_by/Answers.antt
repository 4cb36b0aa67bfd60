use Rattle.lru_index.specs.Hashing.{key_hash}
use Rattle.lru_rows.proofs.Viewed.{seen_finds_by, seen_valid}
use Rattle.lru_rows.proofs.rows.Rows.find_by.Goals as goal

pub returns-clause-finds : goal.returns-clause-finds
returns-clause-finds g c = seen_finds_by g.K.PartialEq.eq (key_hash g.S.BuildHasher g.S.Hasher.Hasher g.K.Hash.hash_input) c.self.inside.order.list c.self.inside.columns.index c.self.inside.columns.weights.items c.self.inside.columns.values.items c.self.invariant c.args.self.now c.self.view_is g.Q.Query.stands_for c.args.query (g.met.Q.Query.respects_eq c.args.query) c.find_by.result c.find_by.ensures

pub returns-clause-valid : goal.returns-clause-valid
returns-clause-valid g c = seen_valid g.K.PartialEq.eq (key_hash g.S.BuildHasher g.S.Hasher.Hasher g.K.Hash.hash_input) c.self.inside.order.list c.self.inside.columns.index c.self.inside.columns.weights.items c.self.inside.columns.values.items c.self.invariant c.args.self.now c.self.view_is g.met.K.Eq.laws
