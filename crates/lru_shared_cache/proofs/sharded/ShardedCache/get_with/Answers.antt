use Rattle.std.proofs.Common.{subst}
use Rattle.lru_index.specs.Hashing.{key_hash}
use Rattle.lru_shared_cache.specs.Calls.{Lends}
use Rattle.lru_shared_cache.specs.Shards.{home, Owns}
use Rattle.lru_shared_cache.proofs.sharded.ShardedCache.get_with.Goals as goal

pub returns-clause-acts : goal.returns-clause-acts
returns-clause-acts g c =
    subst (λ x. Owns x.shards (home g.row.N (key_hash g.S.BuildHasher g.S.Hasher.Hasher g.Q.Hash.hash_input x.hashes c.args.query)) (λ before after. Lends g.Q.Query.stands_for (λ lent w answer left. (g.F.FnOnce).post c.args.show (lent, (w, tt)) (answer, (left, tt))) before c.args.query c.update.result after) c.update.new.shards.shards.items) c.self.view_is
    (subst (λ n. Owns c.self.inside.shards.shards.items (home n (key_hash g.S.BuildHasher g.S.Hasher.Hasher g.Q.Hash.hash_input c.self.inside.hash_builder c.args.query)) (λ before after. Lends g.Q.Query.stands_for (λ lent w answer left. (g.F.FnOnce).post c.args.show (lent, (w, tt)) (answer, (left, tt))) before c.args.query c.update.result after) c.update.new.shards.shards.items) c.self.invariant.1 c.update.ensures.acts)
