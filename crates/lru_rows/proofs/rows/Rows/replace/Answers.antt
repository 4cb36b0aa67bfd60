use Rattle.lru_index.specs.Hashing.{key_hash}
use Rattle.lru_rows.proofs.Moves.{kept_value, kept_as}
use Rattle.lru_rows.proofs.Viewed.{seen_stands, seen_held, seen_value_at, seen_rewritten_too}
use Rattle.lru_rows.proofs.rows.Rows.replace.Goals as goal

pub replace-requires : goal.replace-requires
replace-requires g c = seen_held g.K.PartialEq.eq (key_hash g.S.BuildHasher g.S.Hasher.Hasher g.K.Hash.hash_input) c.self.inside.order.list c.self.inside.columns.index c.self.inside.columns.weights.items c.self.inside.columns.values.items c.self.invariant c.args.self.now c.self.view_is c.args.place c.requires

pub invariant_of-self : goal.invariant_of-self
invariant_of-self g c =
    let s = seen_stands g.K.PartialEq.eq (key_hash g.S.BuildHasher g.S.Hasher.Hasher g.K.Hash.hash_input) c.self.inside.order.list c.self.inside.columns.index c.self.inside.columns.weights.items c.self.inside.columns.values.items c.self.invariant c.args.self.now c.self.view_is c.args.place c.requires in
    kept_as g.K.PartialEq.eq (key_hash g.S.BuildHasher g.S.Hasher.Hasher g.K.Hash.hash_input) c.self.inside.order.list c.self.inside.columns.index c.replace.new.self.index
    c.self.inside.columns.weights.items c.replace.new.self.weights.items c.replace.new.self.values.items c.replace.ensures.index c.replace.ensures.weights
    (kept_value g.K.PartialEq.eq (key_hash g.S.BuildHasher g.S.Hasher.Hasher g.K.Hash.hash_input) c.self.inside.order.list c.self.inside.columns.index c.self.inside.columns.weights.items c.self.inside.columns.values.items c.self.invariant c.args.place s c.args.value c.replace.new.self.values.items c.replace.ensures.values)

pub returns-clause-old : goal.returns-clause-old
returns-clause-old g c = seen_value_at g.K.PartialEq.eq (key_hash g.S.BuildHasher g.S.Hasher.Hasher g.K.Hash.hash_input) c.self.inside.order.list c.self.inside.columns.index c.self.inside.columns.weights.items c.self.inside.columns.values.items c.self.invariant c.args.self.now c.self.view_is c.args.place c.requires c.replace.result c.replace.ensures.value

pub returns-clause-rows : goal.returns-clause-rows
returns-clause-rows g c = seen_rewritten_too g.K.PartialEq.eq (key_hash g.S.BuildHasher g.S.Hasher.Hasher g.K.Hash.hash_input) c.self.inside.order.list c.self.inside.columns.index c.self.inside.columns.weights.items c.self.inside.columns.values.items c.self.invariant c.args.self.now c.self.view_is c.args.place c.requires c.args.value c.replace.new.self.weights.items c.replace.new.self.values.items c.replace.ensures.weights c.replace.ensures.values
