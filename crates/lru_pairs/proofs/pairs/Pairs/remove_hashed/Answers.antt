use Rattle.lru_index.specs.Hashing.{key_hash}
use Rattle.std.proofs.Common.{◌≡◌, subst, sym, Some, None}
use Rattle.lru_rows.specs.Rows.{IsRecency, Removes, row_of}
use Rattle.lru_pairs.proofs.Kept.{seen_held, valid_rows, finds_by, seen_removed, kept_gone}
use Rattle.lru_pairs.proofs.pairs.Pairs.remove_hashed.Goals as goal

pub returns-in_err-place-clause-removes : goal.returns-in_err-place-clause-removes
returns-in_err-place-clause-removes g c =
    subst (λ o. Removes g.Q.Query.stands_for c.args.self.now.held c.args.query o c.self.inside.nodes.held) (sym c.from_residual.ensures)
    (subst (λ r. row_of g.Q.Query.stands_for r.rows c.args.query ≡ None) (seen_held c.self.inside.nodes.held c.self.inside.index.hash_builder c.args.self.now c.self.view_is) (finds_by g.K.PartialEq.eq (key_hash g.S.BuildHasher g.S.Hasher.Hasher g.K.Hash.hash_input) c.self.inside.nodes c.self.inside.index c.self.invariant g.Q.Query.stands_for c.args.query (g.met.Q.Query.respects_eq c.args.query) None c.in_err-place.ensures.finds), (seen_held c.self.inside.nodes.held c.self.inside.index.hash_builder c.args.self.now c.self.view_is))

pub returns-in_err-place-clause-valid : goal.returns-in_err-place-clause-valid
returns-in_err-place-clause-valid g c = subst (λ r. IsRecency g.K.PartialEq.eq r.rows) (seen_held c.self.inside.nodes.held c.self.inside.index.hash_builder c.args.self.now c.self.view_is) (valid_rows g.K.PartialEq.eq (key_hash g.S.BuildHasher g.S.Hasher.Hasher g.K.Hash.hash_input) c.self.inside.nodes c.self.inside.index c.self.invariant g.met.K.Eq.laws)

pub invariant_of-self-2 : goal.invariant_of-self-2
invariant_of-self-2 g c =
    kept_gone g.K.PartialEq.eq (key_hash g.S.BuildHasher g.S.Hasher.Hasher g.K.Hash.hash_input) c.self.inside.nodes c.self.inside.index c.self.invariant c.in_ok-place.place c.take.new.self c.take.ensures.rows c.take.ensures.valid c.remove_hashed.new.self c.in_ok-place.ensures.indexes c.in_ok-place.ensures.room

pub returns-clause-removes : goal.returns-clause-removes
returns-clause-removes g c =
    seen_removed g.K.PartialEq.eq (key_hash g.S.BuildHasher g.S.Hasher.Hasher g.K.Hash.hash_input) c.self.inside.nodes c.self.inside.index c.self.invariant c.in_ok-place.place c.args.self.now.held (seen_held c.self.inside.nodes.held c.self.inside.index.hash_builder c.args.self.now c.self.view_is) c.take.new.self c.take.ensures.rows c.take.result c.take.ensures.taken g.Q.Query.stands_for c.args.query
    (finds_by g.K.PartialEq.eq (key_hash g.S.BuildHasher g.S.Hasher.Hasher g.K.Hash.hash_input) c.self.inside.nodes c.self.inside.index c.self.invariant g.Q.Query.stands_for c.args.query (g.met.Q.Query.respects_eq c.args.query) (Some c.in_ok-place.place) c.in_ok-place.ensures.finds)

pub returns-clause-valid : goal.returns-clause-valid
returns-clause-valid g c = subst (λ r. IsRecency g.K.PartialEq.eq r.rows) (seen_held c.self.inside.nodes.held c.self.inside.index.hash_builder c.args.self.now c.self.view_is) (valid_rows g.K.PartialEq.eq (key_hash g.S.BuildHasher g.S.Hasher.Hasher g.K.Hash.hash_input) c.self.inside.nodes c.self.inside.index c.self.invariant g.met.K.Eq.laws)
