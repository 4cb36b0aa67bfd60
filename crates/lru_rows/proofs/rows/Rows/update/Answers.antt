use Rattle.lru_index.specs.Hashing.{key_hash}
use Rattle.std.proofs.Common.{get_or}
use Rattle.lru_rows.specs.Rows.{placed}
use Rattle.lru_rows.proofs.Moves.{kept_value, kept_as}
use Rattle.lru_rows.proofs.Viewed.{seen_stands, seen_held, seen_within, seen_row, seen_rewritten_too}
use Rattle.lru_rows.proofs.rows.Rows.update.Goals as goal

pub update-requires-clause-held : goal.update-requires-clause-held
update-requires-clause-held g c = seen_held g.K.PartialEq.eq (key_hash g.S.BuildHasher g.S.Hasher.Hasher g.K.Hash.hash_input) c.self.inside.order.list c.self.inside.columns.index c.self.inside.columns.weights.items c.self.inside.columns.values.items c.self.invariant c.args.self.now c.self.view_is c.args.place c.requires.held

pub update-requires-clause-weighed : goal.update-requires-clause-weighed
update-requires-clause-weighed g c = seen_within g.K.PartialEq.eq (key_hash g.S.BuildHasher g.S.Hasher.Hasher g.K.Hash.hash_input) c.self.inside.order.list c.self.inside.columns.index c.self.inside.columns.weights.items c.self.inside.columns.values.items c.self.invariant c.args.self.now c.self.view_is c.args.place c.requires.held

pub invariant_of-self : goal.invariant_of-self
invariant_of-self g c =
    let s = seen_stands g.K.PartialEq.eq (key_hash g.S.BuildHasher g.S.Hasher.Hasher g.K.Hash.hash_input) c.self.inside.order.list c.self.inside.columns.index c.self.inside.columns.weights.items c.self.inside.columns.values.items c.self.invariant c.args.self.now c.self.view_is c.args.place c.requires.held in
    let wrote = c.update.ensures.values s.value s.holds in
    kept_as g.K.PartialEq.eq (key_hash g.S.BuildHasher g.S.Hasher.Hasher g.K.Hash.hash_input) c.self.inside.order.list c.self.inside.columns.index c.update.new.self.index
    c.self.inside.columns.weights.items c.update.new.self.weights.items c.update.new.self.values.items c.update.ensures.index c.update.ensures.weights
    (kept_value g.K.PartialEq.eq (key_hash g.S.BuildHasher g.S.Hasher.Hasher g.K.Hash.hash_input) c.self.inside.order.list c.self.inside.columns.index c.self.inside.columns.weights.items c.self.inside.columns.values.items c.self.invariant c.args.place s wrote.0 c.update.new.self.values.items wrote.1.1)

pub returns : goal.returns
returns g c =
    let s = seen_stands g.K.PartialEq.eq (key_hash g.S.BuildHasher g.S.Hasher.Hasher g.K.Hash.hash_input) c.self.inside.order.list c.self.inside.columns.index c.self.inside.columns.weights.items c.self.inside.columns.values.items c.self.invariant c.args.self.now c.self.view_is c.args.place c.requires.held in
    let wrote = c.update.ensures.values s.value s.holds in (
      placed c.args.place s.key s.value (get_or c.self.inside.columns.weights.items c.args.place 0),
      seen_row g.K.PartialEq.eq (key_hash g.S.BuildHasher g.S.Hasher.Hasher g.K.Hash.hash_input) c.self.inside.order.list c.self.inside.columns.index c.self.inside.columns.weights.items c.self.inside.columns.values.items c.self.invariant c.args.self.now c.self.view_is c.args.place c.requires.held,
      wrote.0,
      wrote.1.0,
      seen_rewritten_too g.K.PartialEq.eq (key_hash g.S.BuildHasher g.S.Hasher.Hasher g.K.Hash.hash_input) c.self.inside.order.list c.self.inside.columns.index c.self.inside.columns.weights.items c.self.inside.columns.values.items c.self.invariant c.args.self.now c.self.view_is c.args.place c.requires.held wrote.0 c.update.new.self.weights.items c.update.new.self.values.items c.update.ensures.weights wrote.1.1,
    )
