use Rattle.lru_index.specs.Hashing.{key_hash}
use Rattle.lru_rows.proofs.Viewed.{seen_held, seen_value_at}
use Rattle.lru_rows.proofs.rows.Rows.value_at.Goals as goal

pub value-requires : goal.value-requires
value-requires g c = seen_held g.K.PartialEq.eq (key_hash g.S.BuildHasher g.S.Hasher.Hasher g.K.Hash.hash_input) c.self.inside.order.list c.self.inside.columns.index c.self.inside.columns.weights.items c.self.inside.columns.values.items c.self.invariant c.args.self.now c.self.view_is c.args.place c.requires

pub returns : goal.returns
returns g c = seen_value_at g.K.PartialEq.eq (key_hash g.S.BuildHasher g.S.Hasher.Hasher g.K.Hash.hash_input) c.self.inside.order.list c.self.inside.columns.index c.self.inside.columns.weights.items c.self.inside.columns.values.items c.self.invariant c.args.self.now c.self.view_is c.args.place c.requires c.value.result.now c.value.ensures
