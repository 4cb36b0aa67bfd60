use Rattle.lru_index.specs.Hashing.{key_hash}
use Rattle.std.proofs.Common.{subst, sym, ap, refl, ◌∙◌}
use Rattle.lru_rows.specs.Rows.{Recency, IsRecency, PopsLast}
use Rattle.lru_pairs.specs.Representation.Nodes.{keys_at}
use Rattle.lru_pairs.proofs.Kept.{seen_held, valid_rows, pops_none_last, last_at, seen_last, kept_gone}
use Rattle.lru_pairs.proofs.pairs.Pairs.pop_last.Goals as goal

pub returns-in_err-place-clause-pops : goal.returns-in_err-place-clause-pops
returns-in_err-place-clause-pops g c =
    subst (λ o. PopsLast c.args.self.now.held o c.args.self.now.held) (sym c.from_residual.ensures)
    (sym (ap (λ (r : Recency g.row.K.Denot g.row.V.Denot). r.rows) (seen_held c.self.inside.nodes.held c.self.inside.index.hash_builder c.args.self.now c.self.view_is)) ∙ pops_none_last c.self.inside.nodes.held c.in_err-place.ensures, refl)

pub returns-in_err-place-clause-valid : goal.returns-in_err-place-clause-valid
returns-in_err-place-clause-valid g c = subst (λ r. IsRecency g.K.PartialEq.eq r.rows) (seen_held c.self.inside.nodes.held c.self.inside.index.hash_builder c.args.self.now c.self.view_is) (valid_rows g.K.PartialEq.eq (key_hash g.S.BuildHasher g.S.Hasher.Hasher g.K.Hash.hash_input) c.self.inside.nodes c.self.inside.index c.self.invariant g.met.K.Eq.laws)

pub take-taken-requires : goal.take-taken-requires
take-taken-requires g c = last_at g.K.PartialEq.eq (key_hash g.S.BuildHasher g.S.Hasher.Hasher g.K.Hash.hash_input) c.self.inside.nodes c.self.inside.index c.self.invariant c.in_ok-place.place c.in_ok-place.ensures

pub invariant_of-self : goal.invariant_of-self
invariant_of-self g c =
    kept_gone g.K.PartialEq.eq (key_hash g.S.BuildHasher g.S.Hasher.Hasher g.K.Hash.hash_input) c.self.inside.nodes c.self.inside.index c.self.invariant c.in_ok-place.place c.take-taken.new.self c.take-taken.ensures.rows c.take-taken.ensures.valid c.remove_at.new.self
    (c.remove_at.ensures.drops (keys_at c.self.inside.nodes.held.rows) c.self.invariant.indexed) c.remove_at.ensures.room

pub returns-clause-pops : goal.returns-clause-pops
returns-clause-pops g c = seen_last g.K.PartialEq.eq (key_hash g.S.BuildHasher g.S.Hasher.Hasher g.K.Hash.hash_input) c.self.inside.nodes c.self.inside.index c.self.invariant c.in_ok-place.place c.args.self.now.held (seen_held c.self.inside.nodes.held c.self.inside.index.hash_builder c.args.self.now c.self.view_is) c.take-taken.new.self c.take-taken.ensures.rows c.take-taken.result c.take-taken.ensures.taken c.in_ok-place.ensures

pub returns-clause-valid : goal.returns-clause-valid
returns-clause-valid g c = subst (λ r. IsRecency g.K.PartialEq.eq r.rows) (seen_held c.self.inside.nodes.held c.self.inside.index.hash_builder c.args.self.now c.self.view_is) (valid_rows g.K.PartialEq.eq (key_hash g.S.BuildHasher g.S.Hasher.Hasher g.K.Hash.hash_input) c.self.inside.nodes c.self.inside.index c.self.invariant g.met.K.Eq.laws)
