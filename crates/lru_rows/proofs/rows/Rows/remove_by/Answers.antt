use Rattle.lru_index.specs.Hashing.{key_hash}
use Rattle.lru_rows.proofs.Viewed.{seen_valid}
use Rattle.lru_rows.proofs.Gone.{removes_none_by, kept_out, removes_row_by}
use Rattle.lru_rows.proofs.rows.Rows.remove_by.Goals as goal

pub returns-in_err-place-clause-removes : goal.returns-in_err-place-clause-removes
returns-in_err-place-clause-removes g c = removes_none_by g.K.PartialEq.eq (key_hash g.S.BuildHasher g.S.Hasher.Hasher g.K.Hash.hash_input) c.self.inside.order.list c.self.inside.columns.index c.self.inside.columns.weights.items c.self.inside.columns.values.items c.self.invariant c.args.self.now c.self.view_is g.Q.Query.stands_for c.args.query (g.met.Q.Query.respects_eq c.args.query) c.in_err-place.ensures.finds c.from_residual.result c.from_residual.ensures

pub returns-in_err-place-clause-valid : goal.returns-in_err-place-clause-valid
returns-in_err-place-clause-valid g c = seen_valid g.K.PartialEq.eq (key_hash g.S.BuildHasher g.S.Hasher.Hasher g.K.Hash.hash_input) c.self.inside.order.list c.self.inside.columns.index c.self.inside.columns.weights.items c.self.inside.columns.values.items c.self.invariant c.args.self.now c.self.view_is g.met.K.Eq.laws

pub invariant_of-self-2 : goal.invariant_of-self-2
invariant_of-self-2 g c =
    kept_out g.K.PartialEq.eq (key_hash g.S.BuildHasher g.S.Hasher.Hasher g.K.Hash.hash_input) c.self.inside.order.list c.self.inside.columns.index c.self.inside.columns.weights.items c.self.inside.columns.values.items c.self.invariant c.args.self.now c.self.view_is g.K.Default.is_default c.in_ok-place.place c.in_ok-place.ensures.finds.0 c.in_ok-place.ensures.finds.1 c.remove-key.new.self c.remove-key.result c.remove-key.ensures.removes c.remove-key.ensures.numbered
    c.remove_by.new.self c.in_ok-place.ensures.indexes c.in_ok-place.ensures.room c.take-value.new.self.index c.take-value.new.self.weights.items c.take-value.new.self.values.items
    c.take-value.ensures.index c.take-value.ensures.weights c.take-value.ensures.values c.take-value.result.0 c.take-value.result.1 c.take-value.ensures.value c.take-value.ensures.weight

pub returns-clause-removes : goal.returns-clause-removes
returns-clause-removes g c =
    removes_row_by g.K.PartialEq.eq (key_hash g.S.BuildHasher g.S.Hasher.Hasher g.K.Hash.hash_input) c.self.inside.order.list c.self.inside.columns.index c.self.inside.columns.weights.items c.self.inside.columns.values.items c.self.invariant c.args.self.now c.self.view_is g.K.Default.is_default c.in_ok-place.place c.in_ok-place.ensures.finds.0 c.in_ok-place.ensures.finds.1 c.remove-key.new.self c.remove-key.result c.remove-key.ensures.removes c.remove-key.ensures.numbered
    c.remove_by.new.self c.in_ok-place.ensures.indexes c.in_ok-place.ensures.room c.take-value.new.self.index c.take-value.new.self.weights.items c.take-value.new.self.values.items
    c.take-value.ensures.index c.take-value.ensures.weights c.take-value.ensures.values c.take-value.result.0 c.take-value.result.1 c.take-value.ensures.value c.take-value.ensures.weight
    g.Q.Query.stands_for c.args.query (g.met.Q.Query.respects_eq c.args.query) c.in_ok-place.ensures.finds

pub returns-clause-valid : goal.returns-clause-valid
returns-clause-valid g c = seen_valid g.K.PartialEq.eq (key_hash g.S.BuildHasher g.S.Hasher.Hasher g.K.Hash.hash_input) c.self.inside.order.list c.self.inside.columns.index c.self.inside.columns.weights.items c.self.inside.columns.values.items c.self.invariant c.args.self.now c.self.view_is g.met.K.Eq.laws
