use Rattle.lru_index.specs.Hashing.{key_hash}
use Rattle.lru_rows.proofs.Viewed.{seen_live, seen_key_at}
use Rattle.lru_rows.proofs.rows.Rows.key_at.Goals as goal

pub key_at-requires : goal.key_at-requires
key_at-requires g c = seen_live g.K.PartialEq.eq (key_hash g.S.BuildHasher g.S.Hasher.Hasher g.K.Hash.hash_input) c.self.inside.order.list c.self.inside.columns.index c.self.inside.columns.weights.items c.self.inside.columns.values.items c.self.invariant c.args.self.now c.self.view_is c.args.place c.requires

pub returns : goal.returns
returns g c = seen_key_at g.K.PartialEq.eq (key_hash g.S.BuildHasher g.S.Hasher.Hasher g.K.Hash.hash_input) c.self.inside.order.list c.self.inside.columns.index c.self.inside.columns.weights.items c.self.inside.columns.values.items c.self.invariant c.args.self.now c.self.view_is c.args.place c.requires c.key_at.result.now c.key_at.ensures
