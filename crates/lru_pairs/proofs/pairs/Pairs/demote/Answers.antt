use Rattle.lru_index.specs.Hashing.{key_hash}
use Rattle.std.proofs.Common.{subst, sym}
use Rattle.lru_rows.specs.Rows.{IsAt, demoted}
use Rattle.lru_pairs.proofs.Kept.{seen_held, kept_moved, keys_demoted}
use Rattle.lru_pairs.proofs.pairs.Pairs.demote.Goals as goal

pub invariant_of-self : goal.invariant_of-self
invariant_of-self g c = kept_moved g.K.PartialEq.eq (key_hash g.S.BuildHasher g.S.Hasher.Hasher g.K.Hash.hash_input) c.self.inside.nodes c.self.inside.index c.self.invariant c.demote.new.self (demoted c.self.inside.nodes.held.rows c.args.place) c.demote.ensures.rows c.demote.ensures.valid (keys_demoted c.self.inside.nodes.held.rows c.args.place (subst (λ r. IsAt r.rows c.args.place) (sym (seen_held c.self.inside.nodes.held c.self.inside.index.hash_builder c.args.self.now c.self.view_is)) c.requires))
