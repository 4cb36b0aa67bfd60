use Rattle.std.proofs.Common.{◌≡◌, is_some, subst}
use Rattle.lru_index.specs.Hashing.{key_hash}
use Rattle.lru_owned_cache.specs.Cache.{entry_of}
use Rattle.lru_shared_cache.specs.Shards.{home, Sees}
use Rattle.lru_shared_cache.proofs.sharded.ShardedCache.contains.Goals as goal

pub returns : goal.returns
returns g c =
    subst (λ x. Sees x.shards (home g.row.N (key_hash g.S.BuildHasher g.S.Hasher.Hasher g.Q.Hash.hash_input x.hashes c.args.query)) (λ shard. c.contains.result ≡ is_some (entry_of g.Q.Query.stands_for shard.cache.entries c.args.query))) c.self.view_is
    (subst (λ n. Sees c.self.inside.shards.shards.items (home n (key_hash g.S.BuildHasher g.S.Hasher.Hasher g.Q.Hash.hash_input c.self.inside.hash_builder c.args.query)) (λ shard. c.contains.result ≡ is_some (entry_of g.Q.Query.stands_for shard.cache.entries c.args.query))) c.self.invariant.1 c.contains.ensures)
