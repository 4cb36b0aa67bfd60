use Rattle.std.proofs.Common.{subst}
use Rattle.lru_index.specs.Hashing.{key_hash}
use Rattle.lru_shared_cache.specs.Calls.{ShowsEntry}
use Rattle.lru_shared_cache.specs.Shards.{home, Sees}
use Rattle.lru_shared_cache.proofs.sharded.ShardedCache.peek_with.Goals as goal

pub returns : goal.returns
returns g c =
    subst (λ x. Sees x.shards (home g.row.N (key_hash g.S.BuildHasher g.S.Hasher.Hasher g.Q.Hash.hash_input x.hashes c.args.query)) (λ shard. ShowsEntry g.Q.Query.stands_for (goal.F-post g c.args.show) shard.cache.entries c.args.query c.peek.result)) c.self.view_is
    (subst (λ n. Sees c.self.inside.shards.shards.items (home n (key_hash g.S.BuildHasher g.S.Hasher.Hasher g.Q.Hash.hash_input c.self.inside.hash_builder c.args.query)) (λ shard. ShowsEntry g.Q.Query.stands_for (goal.F-post g c.args.show) shard.cache.entries c.args.query c.peek.result)) c.self.invariant.1 c.peek.ensures)
