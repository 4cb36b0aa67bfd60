use Rattle.std.proofs.Common.{subst}
use Rattle.lru_index.specs.Hashing.{key_hash}
use Rattle.lru_shared_segmented.specs.Calls.{Takes}
use Rattle.lru_shared_cache.specs.Shards.{home, Owns}
use Rattle.lru_shared_segmented.proofs.sharded.ShardedSegmentedCache.remove.Goals as goal

pub returns-clause-acts : goal.returns-clause-acts
returns-clause-acts g c =
    subst (λ x. Owns x.shards (home g.row.N (key_hash g.S.BuildHasher g.S.Hasher.Hasher g.Q.Hash.hash_input x.hashes c.args.query)) (λ before after. Takes g.Q.Query.stands_for before c.args.query c.remove.result after) c.remove.new.shards.shards.items) c.self.view_is
    (subst (λ n. Owns c.self.inside.shards.shards.items (home n (key_hash g.S.BuildHasher g.S.Hasher.Hasher g.Q.Hash.hash_input c.self.inside.hash_builder c.args.query)) (λ before after. Takes g.Q.Query.stands_for before c.args.query c.remove.result after) c.remove.new.shards.shards.items) c.self.invariant.1 c.remove.ensures.acts)
