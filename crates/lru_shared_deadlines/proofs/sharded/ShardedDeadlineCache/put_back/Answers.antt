use Rattle.std.proofs.Common.{subst}
use Rattle.lru_index.specs.Hashing.{key_hash}
use Rattle.lru_shared_cache.specs.Shards.{home, Owns}
use Rattle.lru_shared_cache.specs.Counting.{PutsCounted}
use Rattle.lru_shared_deadlines.proofs.sharded.ShardedDeadlineCache.put_back.Goals as goal

pub returns-clause-acts : goal.returns-clause-acts
returns-clause-acts g c =
    subst (λ x. Owns x.shards (home g.row.N (key_hash g.S.BuildHasher g.S.Hasher.Hasher g.K.Hash.hash_input x.hashes c.args.key)) (λ before after. PutsCounted (λ p x q. goal.F-step g p x tt q) c.args.visit g.K.PartialEq.eq before c.args.key c.args.until c.args.weight c.put_back.result after) c.put_back.new.shards.shards.items) c.self.view_is
    (subst (λ n. Owns c.self.inside.shards.shards.items (home n (key_hash g.S.BuildHasher g.S.Hasher.Hasher g.K.Hash.hash_input c.self.inside.hash_builder c.args.key)) (λ before after. PutsCounted (λ p x q. goal.F-step g p x tt q) c.args.visit g.K.PartialEq.eq before c.args.key c.args.until c.args.weight c.put_back.result after) c.put_back.new.shards.shards.items) c.self.invariant.0 c.put_back.ensures.acts)
