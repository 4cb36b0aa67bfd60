use Rattle.std.proofs.Common.{◌≡◌, ap, subst, ◌∙◌}
use Rattle.lru_index.specs.Hashing.{key_hash}
use Rattle.lru_shared_cache.specs.Shards.{home}
use Rattle.lru_shared_cache.specs.Counting.{PutsCounted}
use Rattle.lru_shared_cache.proofs.calls.put.Goals as goal

pub returns-clause-acts : goal.returns-clause-acts
returns-clause-acts g c =
    let is : c.home_of-home.result ≡ home (g.T.Shards.many c.args.shards.now) (key_hash g.S.BuildHasher g.S.Hasher.Hasher g.K.Hash.hash_input c.args.hashes.now c.args.key) =
    c.home_of-home.ensures.value ∙ ap (λ n. home n c.hash_of-hash.result) c.count.ensures ∙ ap (home (g.T.Shards.many c.args.shards.now)) c.hash_of-hash.ensures in
    subst (λ i. g.T.Shards.does c.args.shards.now i (λ before after. PutsCounted (λ p x q. goal.F-step g p x tt q) c.args.visit g.K.PartialEq.eq (g.X.Kept.inside before) c.args.key c.args.value c.args.weight c.renew.result (g.X.Kept.inside after)) c.renew.new.self) is
    (g.T.Shards.does_more _ _ (λ a b acts. subst (λ y. PutsCounted (λ p x q. goal.F-step g p x tt q) c.args.visit g.K.PartialEq.eq (g.X.Kept.inside a) c.args.key c.args.value c.args.weight c.renew.result (g.X.Kept.inside y)) acts.leaves (subst (λ x. PutsCounted (λ p y q. goal.F-step g p y tt q) c.args.visit g.K.PartialEq.eq (g.X.Kept.inside x) c.args.key c.args.value c.args.weight c.renew.result (g.X.Kept.inside acts.left.now)) acts.shows acts.called)) c.args.shards.now c.renew.new.self c.home_of-home.result c.renew.ensures.acts)
