use Rattle.lru_index.specs.Hashing.{key_hash}
use Rattle.std.proofs.Common.{◌<◌, set, refl, subst, sym}
use Rattle.lru_rows.proofs.Viewed.{seen_within, seen_reweighed}
use Rattle.lru_rows.proofs.rows.Rows.set_weight.Goals as goal

pub index_mut-requires : goal.index_mut-requires
index_mut-requires g c = subst (λ n. c.args.place < n) (sym c.self.inside.columns.weights.ok.0) (seen_within g.K.PartialEq.eq (key_hash g.S.BuildHasher g.S.Hasher.Hasher g.K.Hash.hash_input) c.self.inside.order.list c.self.inside.columns.index c.self.inside.columns.weights.items c.self.inside.columns.values.items c.self.invariant c.args.self.now c.self.view_is c.args.place c.requires)

pub returns : goal.returns
returns g c = seen_reweighed g.K.PartialEq.eq (key_hash g.S.BuildHasher g.S.Hasher.Hasher g.K.Hash.hash_input) c.self.inside.order.list c.self.inside.columns.index c.self.inside.columns.weights.items c.self.inside.columns.values.items c.self.invariant c.args.self.now c.self.view_is c.args.place c.requires c.args.weight (set c.self.inside.columns.weights.items c.args.place c.args.weight) refl
