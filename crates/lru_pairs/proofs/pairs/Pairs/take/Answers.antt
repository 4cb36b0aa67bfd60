use Rattle.lru_index.specs.Hashing.{key_hash}
use Rattle.std.proofs.Common.{subst, sym}
use Rattle.lru_rows.specs.Rows.{IsAt, IsRecency}
use Rattle.lru_pairs.specs.Representation.Nodes.{keys_at}
use Rattle.lru_pairs.proofs.Kept.{seen_held, valid_rows, kept_gone}
use Rattle.lru_pairs.proofs.pairs.Pairs.take.Goals as goal

pub take-taken-requires : goal.take-taken-requires
take-taken-requires g c = subst (λ r. IsAt r.rows c.args.place) (sym (seen_held c.self.inside.nodes.held c.self.inside.index.hash_builder c.args.self.now c.self.view_is)) c.requires

pub invariant_of-self : goal.invariant_of-self
invariant_of-self g c =
    kept_gone g.K.PartialEq.eq (key_hash g.S.BuildHasher g.S.Hasher.Hasher g.K.Hash.hash_input) c.self.inside.nodes c.self.inside.index c.self.invariant c.args.place c.take-taken.new.self c.take-taken.ensures.rows c.take-taken.ensures.valid c.remove_at.new.self
    (c.remove_at.ensures.drops (keys_at c.self.inside.nodes.held.rows) c.self.invariant.indexed) c.remove_at.ensures.room

pub returns-clause-valid : goal.returns-clause-valid
returns-clause-valid g c = subst (λ r. IsRecency g.K.PartialEq.eq r.rows) (seen_held c.self.inside.nodes.held c.self.inside.index.hash_builder c.args.self.now c.self.view_is) (valid_rows g.K.PartialEq.eq (key_hash g.S.BuildHasher g.S.Hasher.Hasher g.K.Hash.hash_input) c.self.inside.nodes c.self.inside.index c.self.invariant g.met.K.Eq.laws)
