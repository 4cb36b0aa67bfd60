use Rattle.lru_index.specs.Hashing.{key_hash}
use Rattle.std.proofs.Common.{subst}
use Rattle.lru_rows.specs.Rows.{IsRecency}
use Rattle.lru_pairs.proofs.Kept.{seen_held, valid_rows}
use Rattle.lru_pairs.proofs.pairs.Pairs.len.Goals as goal

pub returns-clause-valid : goal.returns-clause-valid
returns-clause-valid g c = subst (λ r. IsRecency g.K.PartialEq.eq r.rows) (seen_held c.self.inside.nodes.held c.self.inside.index.hash_builder c.args.self.now c.self.view_is) (valid_rows g.K.PartialEq.eq (key_hash g.S.BuildHasher g.S.Hasher.Hasher g.K.Hash.hash_input) c.self.inside.nodes c.self.inside.index c.self.invariant g.met.K.Eq.laws)
