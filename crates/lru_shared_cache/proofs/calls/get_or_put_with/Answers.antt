use Rattle.std.proofs.Common.{◌≡◌, ◌⊎◌, ap, refl, subst, ◌∙◌, Ok, Err, Some, None, inl, inr}
use Rattle.std.specs.declared.alloc.AllocError.{AllocError}
use Rattle.lru_index.specs.Hashing.{key_hash}
use Rattle.lru_shared_cache.specs.Shards.{home}
use Rattle.lru_shared_cache.specs.Calls.{EndsMaking, Gets}
use Rattle.lru_shared_cache.proofs.calls.get_or_put_with.Goals as goal

pub returns-in-Ok-Some-clause-acts : goal.returns-in-Ok-Some-clause-acts
returns-in-Ok-Some-clause-acts g c =
    let is : c.home_of-home.result ≡ home (g.T.Shards.many c.args.shards.now) (key_hash g.S.BuildHasher g.S.Hasher.Hasher g.K.Hash.hash_input c.args.hashes.now c.args.key) =
    c.home_of-home.ensures.value ∙ ap (λ n. home n c.hash_of-hash.result) c.count.ensures ∙ ap (home (g.T.Shards.many c.args.shards.now)) c.hash_of-hash.ensures in
    inl (subst (λ i. g.T.Shards.does c.args.shards.now i (λ before after. Gets g.K.PartialEq.eq g.V.Clone.is_clone (g.X.Kept.inside before) c.args.key (Ok (Some c.in-Ok-Some.value)) (g.X.Kept.inside after)) c.start.new.shards) is
    (subst (λ o. g.T.Shards.does c.args.shards.now c.home_of-home.result (λ before after. Gets g.K.PartialEq.eq g.V.Clone.is_clone (g.X.Kept.inside before) c.args.key (Ok o) (g.X.Kept.inside after)) c.start.new.shards) c.in-Ok-Some.field-0-is c.in-Ok-Some.ensures.found))

pub returns-in-Ok-None-clause-acts : goal.returns-in-Ok-None-clause-acts
returns-in-Ok-None-clause-acts g c =
    let is : c.home_of-home.result ≡ home (g.T.Shards.many c.args.shards.now) (key_hash g.S.BuildHasher g.S.Hasher.Hasher g.K.Hash.hash_input c.args.hashes.now c.args.key) =
    c.home_of-home.ensures.value ∙ ap (λ n. home n c.hash_of-hash.result) c.count.ensures ∙ ap (home (g.T.Shards.many c.args.shards.now)) c.hash_of-hash.ensures in
    inr (
      c.start.new.shards,
      (
        subst (λ i. g.T.Shards.does c.args.shards.now i (λ before after. Gets g.K.PartialEq.eq g.V.Clone.is_clone (g.X.Kept.inside before) c.args.key (Ok None) (g.X.Kept.inside after)) c.start.new.shards) is
            (subst (λ o. g.T.Shards.does c.args.shards.now c.home_of-home.result (λ before after. Gets g.K.PartialEq.eq g.V.Clone.is_clone (g.X.Kept.inside before) c.args.key (Ok o) (g.X.Kept.inside after)) c.start.new.shards) c.in-Ok-None.field-0-is c.in-Ok-None.ensures.found),
        (
          c.make.result,
          (
            c.make.ensures,
            subst (λ i. EndsMaking g.T.Shards.may_end g.K.PartialEq.eq g.V.Clone.is_clone (λ m. m ≡ c.make.result) (λ p x q. goal.F-step g p x tt q) c.args.visit (λ s P t. g.T.Shards.does s i (λ a b. P (g.X.Kept.inside a) (g.X.Kept.inside b)) t) c.args.key c.start.new.shards c.make.result c.put_made.result c.put_made.new.shards) is
                c.put_made.ensures.acts,
          ),
        ),
      ),
    )

pub returns-in-Err-clause-acts : goal.returns-in-Err-clause-acts
returns-in-Err-clause-acts g c =
    let is : c.home_of-home.result ≡ home (g.T.Shards.many c.args.shards.now) (key_hash g.S.BuildHasher g.S.Hasher.Hasher g.K.Hash.hash_input c.args.hashes.now c.args.key) =
    c.home_of-home.ensures.value ∙ ap (λ n. home n c.hash_of-hash.result) c.count.ensures ∙ ap (home (g.T.Shards.many c.args.shards.now)) c.hash_of-hash.ensures in
    inl (subst (λ i. g.T.Shards.does c.args.shards.now i (λ before after. (c.args.key ≡ c.args.key) × (((e : AllocError) × Gets g.K.PartialEq.eq g.V.Clone.is_clone (g.X.Kept.inside before) c.args.key (Err e) (g.X.Kept.inside after)) ⊎ Gets g.K.PartialEq.eq g.V.Clone.is_clone (g.X.Kept.inside before) c.args.key (Ok None) (g.X.Kept.inside after))) c.start.new.shards) is
    (g.T.Shards.does_more (λ before after. Gets g.K.PartialEq.eq g.V.Clone.is_clone (g.X.Kept.inside before) c.args.key (Err c.in-Err.field-0) (g.X.Kept.inside after) ⊎ Gets g.K.PartialEq.eq g.V.Clone.is_clone (g.X.Kept.inside before) c.args.key (Ok None) (g.X.Kept.inside after)) _ (λ a b acts. (refl, elim acts [ inl told ↦ inl (c.in-Err.field-0, told) | inr told ↦ inr told ])) c.args.shards.now c.start.new.shards c.home_of-home.result c.in-Err.ensures.refused))
