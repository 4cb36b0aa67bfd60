use Rattle.lru_index.specs.Hashing.{key_hash}
use Rattle.lru_rows.proofs.Viewed.{seen_live, seen_stands, seen_demoted}
use Rattle.lru_rows.proofs.Moves.{kept_demoted}
use Rattle.lru_rows.proofs.rows.Rows.demote.Goals as goal

pub demote-requires : goal.demote-requires
demote-requires g c = seen_live g.K.PartialEq.eq (key_hash g.S.BuildHasher g.S.Hasher.Hasher g.K.Hash.hash_input) c.self.inside.order.list c.self.inside.columns.index c.self.inside.columns.weights.items c.self.inside.columns.values.items c.self.invariant c.args.self.now c.self.view_is c.args.place c.requires

pub invariant_of-self : goal.invariant_of-self
invariant_of-self g c = kept_demoted g.K.PartialEq.eq (key_hash g.S.BuildHasher g.S.Hasher.Hasher g.K.Hash.hash_input) c.self.inside.order.list c.self.inside.columns.index c.self.inside.columns.weights.items c.self.inside.columns.values.items c.self.invariant c.args.place (seen_stands g.K.PartialEq.eq (key_hash g.S.BuildHasher g.S.Hasher.Hasher g.K.Hash.hash_input) c.self.inside.order.list c.self.inside.columns.index c.self.inside.columns.weights.items c.self.inside.columns.values.items c.self.invariant c.args.self.now c.self.view_is c.args.place c.requires) c.demote.new.self c.demote.ensures.demotes c.demote.ensures.numbered

pub returns : goal.returns
returns g c = seen_demoted g.K.PartialEq.eq (key_hash g.S.BuildHasher g.S.Hasher.Hasher g.K.Hash.hash_input) c.self.inside.order.list c.self.inside.columns.index c.self.inside.columns.weights.items c.self.inside.columns.values.items c.self.invariant c.args.self.now c.self.view_is c.args.place c.requires c.demote.new.self c.demote.ensures.demotes c.demote.ensures.numbered
