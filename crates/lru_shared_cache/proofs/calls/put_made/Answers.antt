use Rattle.std.proofs.Common.{rules, ◌≡◌, sym, subst, Ok, Err, inl}
use Rattle.lru_shared_cache.specs.Calls.{EndsMaking, PutsMissing}
use Rattle.lru_shared_cache.specs.Relations.{IsRelated}
use Rattle.lru_shared_cache.specs.declared.calls.NotGot.TheVariants.{Refused as Unput}
use Rattle.lru_shared_cache.proofs.calls.put_made.Goals as goal

pub finish-put-requires-clause-act : goal.finish-put-requires-clause-act
finish-put-requires-clause-act g c = let own : IsRelated g.X.Kept.holds c.args.key c.in-Ok.made.0 = c.requires.related c.in-Ok.made.0 c.in-Ok.made.1 c.in-Ok.is in search rules

pub returns-in-Some-Ok-clause-acts : goal.returns-in-Some-Ok-clause-acts
returns-in-Some-Ok-clause-acts g c =
    subst (λ m. EndsMaking g.T.Shards.may_end g.K.PartialEq.eq g.V.Clone.is_clone (λ m. m ≡ c.args.made) (λ p x q. goal.F-step g p x tt q) c.args.visit (λ s P t. g.T.Shards.does s c.args.home (λ a b. P (g.X.Kept.inside a) (g.X.Kept.inside b)) t) c.args.key c.args.shards.now m (Ok c.in-Ok-clone.answer) c.finish-put.new.self) (sym c.in-Ok.is)
    (inl (g.T.Shards.does_more _ _ (λ a b acts. (search rules, (subst (λ r. PutsMissing g.K.PartialEq.eq (λ p e q. goal.F-step g p e tt q) c.args.visit (g.X.Kept.inside a) c.args.key c.in-Ok.made.0 c.in-Ok.made.1 r (g.X.Kept.inside b)) c.in-Some-Ok.field-0-is (subst (λ y. PutsMissing g.K.PartialEq.eq (λ p e q. goal.F-step g p e tt q) c.args.visit (g.X.Kept.inside a) c.args.key c.in-Ok.made.0 c.in-Ok.made.1 c.in-Some-Ok.field-0 (g.X.Kept.inside y)) acts.leaves (subst (λ x. PutsMissing g.K.PartialEq.eq (λ p e q. goal.F-step g p e tt q) c.args.visit (g.X.Kept.inside x) c.args.key c.in-Ok.made.0 c.in-Ok.made.1 c.in-Some-Ok.field-0 (g.X.Kept.inside acts.left.now)) acts.shows acts.called))))) c.args.shards.now c.finish-put.new.self c.args.home c.in-Some-Ok.ensures.acts))

pub returns-in-Some-Err-clause-acts : goal.returns-in-Some-Err-clause-acts
returns-in-Some-Err-clause-acts g c =
    subst (λ m. EndsMaking g.T.Shards.may_end g.K.PartialEq.eq g.V.Clone.is_clone (λ m. m ≡ c.args.made) (λ p x q. goal.F-step g p x tt q) c.args.visit (λ s P t. g.T.Shards.does s c.args.home (λ a b. P (g.X.Kept.inside a) (g.X.Kept.inside b)) t) c.args.key c.args.shards.now m (Err (Unput c.in-Some-Err.refused)) c.finish-put.new.self) (sym c.in-Ok.is)
    (g.T.Shards.does_more _ _ (λ a b acts. inl (subst (λ r. PutsMissing g.K.PartialEq.eq (λ p e q. goal.F-step g p e tt q) c.args.visit (g.X.Kept.inside a) c.args.key c.in-Ok.made.0 c.in-Ok.made.1 r (g.X.Kept.inside b)) c.in-Some-Err.field-0-is (subst (λ y. PutsMissing g.K.PartialEq.eq (λ p e q. goal.F-step g p e tt q) c.args.visit (g.X.Kept.inside a) c.args.key c.in-Ok.made.0 c.in-Ok.made.1 c.in-Some-Err.field-0 (g.X.Kept.inside y)) acts.leaves (subst (λ x. PutsMissing g.K.PartialEq.eq (λ p e q. goal.F-step g p e tt q) c.args.visit (g.X.Kept.inside x) c.args.key c.in-Ok.made.0 c.in-Ok.made.1 c.in-Some-Err.field-0 (g.X.Kept.inside acts.left.now)) acts.shows acts.called)))) c.args.shards.now c.finish-put.new.self c.args.home c.in-Some-Err.ensures.acts)
