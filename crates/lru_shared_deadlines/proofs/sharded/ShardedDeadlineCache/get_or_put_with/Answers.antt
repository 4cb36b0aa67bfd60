use Rattle.std.proofs.Common.{length, subst}
use Rattle.lru_index.specs.Hashing.{key_hash}
use Rattle.lru_shared_cache.specs.Shards.{home, Owns}
use Rattle.lru_shared_deadlines.specs.Ages.{moment}
use Rattle.lru_shared_deadlines.specs.Calls.{GetsOrPuts}
use Rattle.lru_shared_deadlines.proofs.Made.{gets_seen}
use Rattle.lru_shared_deadlines.proofs.sharded.ShardedDeadlineCache.get_or_put_with.Goals as goal

pub returns-clause-acts : goal.returns-clause-acts
returns-clause-acts g c =
    subst (λ x. GetsOrPuts ⊥ g.K.PartialEq.eq g.V.Clone.is_clone (goal.M-post g c.args.make) (λ p y q. goal.F-step g p y tt q) c.args.visit (λ s P t. Owns s (home g.row.N (key_hash g.S.BuildHasher g.S.Hasher.Hasher g.K.Hash.hash_input x.hashes c.args.key)) P t) (moment c.args.time x.ages) c.args.key x.shards c.get_or_put_with.result c.get_or_put_with.new.shards.shards.items) c.self.view_is
    (subst (λ n. GetsOrPuts ⊥ g.K.PartialEq.eq g.V.Clone.is_clone (goal.M-post g c.args.make) (λ p y q. goal.F-step g p y tt q) c.args.visit (λ s P t. Owns s (home n (key_hash g.S.BuildHasher g.S.Hasher.Hasher g.K.Hash.hash_input c.self.inside.hash_builder c.args.key)) P t) (moment c.args.time c.self.inside.ages) c.args.key c.self.inside.shards.shards.items c.get_or_put_with.result c.get_or_put_with.new.shards.shards.items) c.self.invariant.0
    (gets_seen ⊥ g.K.PartialEq.eq g.V.Clone.is_clone (goal.M-post g c.args.make) (λ p y q. goal.F-step g p y tt q) c.args.visit (moment c.args.time c.self.inside.ages) c.args.key (λ o. o.shards.items)
    (λ s P t. Owns s (home (length c.self.inside.shards.shards.items) (key_hash g.S.BuildHasher g.S.Hasher.Hasher g.K.Hash.hash_input c.self.inside.hash_builder c.args.key)) P t) (λ P Q more s t d. (d.0, (d.1.0, (d.1.1.0, (more d.0 d.1.0 d.1.1.1.0, d.1.1.1.1)))))
    c.self.inside.shards c.get_or_put_with.new.shards c.get_or_put_with.result c.get_or_put_with.ensures.acts))
