use Rattle.lru_index.specs.Hashing.{key_hash}
use Rattle.std.proofs.Common.{Some, None, arith, ◌∙◌}
use Rattle.lru_rows.proofs.Viewed.{first_place, first_fits, seen_valid}
use Rattle.lru_rows.proofs.rows.Rows.first.Goals as goal

pub returns-in_err-place-clause-place : goal.returns-in_err-place-clause-place
returns-in_err-place-clause-place g c = c.from_residual.ensures ∙ first_place g.K.PartialEq.eq (key_hash g.S.BuildHasher g.S.Hasher.Hasher g.K.Hash.hash_input) c.self.inside.order.list c.self.inside.columns.index c.self.inside.columns.weights.items c.self.inside.columns.values.items c.self.invariant c.args.self.now c.self.view_is None c.in_err-place.ensures.index

pub overflow_cast-result : goal.overflow_cast-result
overflow_cast-result g c = omega (arith, first_fits g.K.PartialEq.eq (key_hash g.S.BuildHasher g.S.Hasher.Hasher g.K.Hash.hash_input) c.self.inside.order.list c.self.inside.columns.index c.self.inside.columns.weights.items c.self.inside.columns.values.items c.self.invariant c.args.self.now c.self.view_is c.in_ok-place.place c.in_ok-place.ensures.index)

pub returns-clause-place : goal.returns-clause-place
returns-clause-place g c = first_place g.K.PartialEq.eq (key_hash g.S.BuildHasher g.S.Hasher.Hasher g.K.Hash.hash_input) c.self.inside.order.list c.self.inside.columns.index c.self.inside.columns.weights.items c.self.inside.columns.values.items c.self.invariant c.args.self.now c.self.view_is (Some c.in_ok-place.place) c.in_ok-place.ensures.index

pub returns-in_err-place-clause-valid : goal.returns-in_err-place-clause-valid
returns-in_err-place-clause-valid g c = seen_valid g.K.PartialEq.eq (key_hash g.S.BuildHasher g.S.Hasher.Hasher g.K.Hash.hash_input) c.self.inside.order.list c.self.inside.columns.index c.self.inside.columns.weights.items c.self.inside.columns.values.items c.self.invariant c.args.self.now c.self.view_is g.met.K.Eq.laws

pub returns-clause-valid : goal.returns-clause-valid
returns-clause-valid g c = seen_valid g.K.PartialEq.eq (key_hash g.S.BuildHasher g.S.Hasher.Hasher g.K.Hash.hash_input) c.self.inside.order.list c.self.inside.columns.index c.self.inside.columns.weights.items c.self.inside.columns.values.items c.self.invariant c.args.self.now c.self.view_is g.met.K.Eq.laws
