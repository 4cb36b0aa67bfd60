use Rattle.lru_index.specs.Hashing.{key_hash}
use Rattle.lru_index.specs.Index.{Indexes, room_of}
use Rattle.lru_list.specs.Linked.{item_of}
use Rattle.std.proofs.Common.{arith, ap, refl, sym, subst, ◌∙◌}
use Rattle.lru_rows.proofs.Kept.{live_weighed, live_known}
use Rattle.lru_rows.proofs.Viewed.{seen_valid, last_fits, last_live}
use Rattle.lru_rows.proofs.Gone.{pops_none, last_pair, last_key, pops_row, kept_out}
use Rattle.lru_rows.proofs.rows.Rows.pop_last.Goals as goal

pub returns-in_err-at-clause-pops : goal.returns-in_err-at-clause-pops
returns-in_err-at-clause-pops g c = pops_none g.K.PartialEq.eq (key_hash g.S.BuildHasher g.S.Hasher.Hasher g.K.Hash.hash_input) c.self.inside.order.list c.self.inside.columns.index c.self.inside.columns.weights.items c.self.inside.columns.values.items c.self.invariant c.args.self.now c.self.view_is c.in_err-at.ensures.index c.from_residual.result c.from_residual.ensures

pub returns-in_err-at-clause-valid : goal.returns-in_err-at-clause-valid
returns-in_err-at-clause-valid g c = seen_valid g.K.PartialEq.eq (key_hash g.S.BuildHasher g.S.Hasher.Hasher g.K.Hash.hash_input) c.self.inside.order.list c.self.inside.columns.index c.self.inside.columns.weights.items c.self.inside.columns.values.items c.self.invariant c.args.self.now c.self.view_is g.met.K.Eq.laws

pub take-value-requires-clause-held : goal.take-value-requires-clause-held
take-value-requires-clause-held g c = c.self.invariant.held c.in_ok-at.at (last_live g.K.PartialEq.eq (key_hash g.S.BuildHasher g.S.Hasher.Hasher g.K.Hash.hash_input) c.self.inside.order.list c.self.inside.columns.index c.self.inside.columns.weights.items c.self.inside.columns.values.items c.self.invariant c.args.self.now c.self.view_is c.in_ok-at.at c.in_ok-at.ensures.index)

pub take-value-requires-clause-weighed : goal.take-value-requires-clause-weighed
take-value-requires-clause-weighed g c = live_weighed g.K.PartialEq.eq (key_hash g.S.BuildHasher g.S.Hasher.Hasher g.K.Hash.hash_input) c.self.inside.order.list c.self.inside.columns.index c.self.inside.columns.weights.items c.self.inside.columns.values.items c.self.invariant c.in_ok-at.at (last_live g.K.PartialEq.eq (key_hash g.S.BuildHasher g.S.Hasher.Hasher g.K.Hash.hash_input) c.self.inside.order.list c.self.inside.columns.index c.self.inside.columns.weights.items c.self.inside.columns.values.items c.self.invariant c.args.self.now c.self.view_is c.in_ok-at.at c.in_ok-at.ensures.index)

pub overflow_cast-at : goal.overflow_cast-at
overflow_cast-at g c = omega (arith, last_fits g.K.PartialEq.eq (key_hash g.S.BuildHasher g.S.Hasher.Hasher g.K.Hash.hash_input) c.self.inside.order.list c.self.inside.columns.index c.self.inside.columns.weights.items c.self.inside.columns.values.items c.self.invariant c.args.self.now c.self.view_is c.in_ok-at.at c.in_ok-at.ensures.index)

pub remove-key-requires : goal.remove-key-requires
remove-key-requires g c = last_live g.K.PartialEq.eq (key_hash g.S.BuildHasher g.S.Hasher.Hasher g.K.Hash.hash_input) c.self.inside.order.list c.self.inside.columns.index c.self.inside.columns.weights.items c.self.inside.columns.values.items c.self.invariant c.args.self.now c.self.view_is c.in_ok-at.at c.in_ok-at.ensures.index

pub remove_at-requires : goal.remove_at-requires
remove_at-requires g c = live_known g.K.PartialEq.eq (key_hash g.S.BuildHasher g.S.Hasher.Hasher g.K.Hash.hash_input) c.self.inside.order.list c.self.inside.columns.index c.self.inside.columns.weights.items c.self.inside.columns.values.items c.self.invariant c.in_ok-at.at c.remove-key.result c.remove-key.ensures.removes.0 c.take-value.new.self.index c.take-value.ensures.index

pub invariant_of-self : goal.invariant_of-self
invariant_of-self g c =
    kept_out g.K.PartialEq.eq (key_hash g.S.BuildHasher g.S.Hasher.Hasher g.K.Hash.hash_input) c.self.inside.order.list c.self.inside.columns.index c.self.inside.columns.weights.items c.self.inside.columns.values.items c.self.invariant c.args.self.now c.self.view_is g.K.Default.is_default c.in_ok-at.at c.remove-key.result c.remove-key.ensures.removes.0 c.remove-key.new.self c.remove-key.result c.remove-key.ensures.removes c.remove-key.ensures.numbered
    c.remove_at.new.self (c.remove_at.ensures.drops (item_of c.self.inside.order.list.live) (subst (λ i. Indexes g.K.PartialEq.eq (key_hash g.S.BuildHasher g.S.Hasher.Hasher g.K.Hash.hash_input) i (item_of c.self.inside.order.list.live)) (sym c.take-value.ensures.index) c.self.invariant.indexed)) (c.remove_at.ensures.room ∙ ap room_of c.take-value.ensures.index)
    c.remove_at.new.self c.take-value.new.self.weights.items c.take-value.new.self.values.items
    refl c.take-value.ensures.weights c.take-value.ensures.values c.take-value.result.0 c.take-value.result.1 c.take-value.ensures.value c.take-value.ensures.weight

pub returns-clause-pops : goal.returns-clause-pops
returns-clause-pops g c =
    let l = last_pair c.self.inside.order.list.live c.in_ok-at.at c.in_ok-at.ensures.index in
    pops_row g.K.PartialEq.eq (key_hash g.S.BuildHasher g.S.Hasher.Hasher g.K.Hash.hash_input) c.self.inside.order.list c.self.inside.columns.index c.self.inside.columns.weights.items c.self.inside.columns.values.items c.self.invariant c.args.self.now c.self.view_is g.K.Default.is_default c.in_ok-at.at c.remove-key.result c.remove-key.ensures.removes.0 c.remove-key.new.self c.remove-key.result c.remove-key.ensures.removes c.remove-key.ensures.numbered
    c.remove_at.new.self (c.remove_at.ensures.drops (item_of c.self.inside.order.list.live) (subst (λ i. Indexes g.K.PartialEq.eq (key_hash g.S.BuildHasher g.S.Hasher.Hasher g.K.Hash.hash_input) i (item_of c.self.inside.order.list.live)) (sym c.take-value.ensures.index) c.self.invariant.indexed)) (c.remove_at.ensures.room ∙ ap room_of c.take-value.ensures.index)
    c.remove_at.new.self c.take-value.new.self.weights.items c.take-value.new.self.values.items
    refl c.take-value.ensures.weights c.take-value.ensures.values c.take-value.result.0 c.take-value.result.1 c.take-value.ensures.value c.take-value.ensures.weight
    l.front (last_key g.K.PartialEq.eq (key_hash g.S.BuildHasher g.S.Hasher.Hasher g.K.Hash.hash_input) c.self.inside.order.list c.self.inside.columns.index c.self.inside.columns.weights.items c.self.inside.columns.values.items c.self.invariant c.in_ok-at.at c.remove-key.result c.remove-key.ensures.removes.0 l)

pub returns-clause-valid : goal.returns-clause-valid
returns-clause-valid g c = seen_valid g.K.PartialEq.eq (key_hash g.S.BuildHasher g.S.Hasher.Hasher g.K.Hash.hash_input) c.self.inside.order.list c.self.inside.columns.index c.self.inside.columns.weights.items c.self.inside.columns.values.items c.self.invariant c.args.self.now c.self.view_is g.met.K.Eq.laws
