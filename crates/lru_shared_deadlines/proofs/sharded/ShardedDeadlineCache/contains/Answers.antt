use Rattle.std.proofs.Common.{◌≡◌, is_some, subst}
use Rattle.lru_index.specs.Hashing.{key_hash}
use Rattle.lru_shared_cache.specs.Shards.{home, Sees}
use Rattle.lru_deadlines.specs.Deadlines.{living}
use Rattle.lru_shared_deadlines.proofs.sharded.ShardedDeadlineCache.contains.Goals as goal

pub returns : goal.returns
returns g c =
    subst (λ x. Sees x.shards (home g.row.N (key_hash g.S.BuildHasher g.S.Hasher.Hasher g.Q.Hash.hash_input x.hashes c.args.query)) (λ shard. c.contains.result ≡ is_some (living g.Q.Query.stands_for c.args.time shard.cache.entries c.args.query))) c.self.view_is
    (subst (λ n. Sees c.self.inside.shards.shards.items (home n (key_hash g.S.BuildHasher g.S.Hasher.Hasher g.Q.Hash.hash_input c.self.inside.hash_builder c.args.query)) (λ shard. c.contains.result ≡ is_some (living g.Q.Query.stands_for c.args.time shard.cache.entries c.args.query))) c.self.invariant.0 c.contains.ensures)
