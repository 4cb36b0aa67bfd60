use Rattle.lru_index.specs.Hashing.{key_hash}
use Rattle.std.proofs.Common.{subst, sym, ap}
use Rattle.lru_index.specs.Hashing.{hash_by}
use Rattle.lru_pairs.specs.Pairs.{SameKey}
use Rattle.lru_pairs.proofs.Kept.{seen_held, kept_entry}
use Rattle.lru_pairs.proofs.pairs.Pairs.exchange.Goals as goal

pub invariant_of-self : goal.invariant_of-self
invariant_of-self g c =
    let same = subst (λ r. SameKey g.K.PartialEq.eq r.rows c.args.place c.args.key) (sym (seen_held c.self.inside.nodes.held c.self.inside.index.hash_builder c.args.self.now c.self.view_is)) c.requires in
    kept_entry g.K.PartialEq.eq (key_hash g.S.BuildHasher g.S.Hasher.Hasher g.K.Hash.hash_input) c.self.inside.nodes c.self.inside.index c.self.invariant g.met.K.Eq.laws (λ s x y e. ap (hash_by g.S.BuildHasher g.S.Hasher.Hasher s) (g.met.K.Hash.respects_eq x y e))
    c.args.place c.args.key c.args.value c.exchange.result.weight same.0 same.1 same.2 c.exchange.new.self c.exchange.ensures.rows c.exchange.ensures.valid
