use Rattle.std.proofs.Common.{rules, ◌≡◌, sym, subst, Ok, Err, inl}
use Rattle.lru_shared_segmented.specs.Making.{EndsMaking, PutsMissing}
use Rattle.lru_shared_cache.specs.declared.calls.NotGot.TheVariants.{Refused as Unput}
use Rattle.lru_shared_segmented.proofs.calls.put_made.Goals as goal

pub returns-in-Some-Ok-clause-acts : goal.returns-in-Some-Ok-clause-acts
returns-in-Some-Ok-clause-acts g c =
    subst (λ m. EndsMaking g.T.Shards.may_end g.K.PartialEq.eq g.V.Clone.is_clone (λ m. m ≡ c.args.made) (λ p x q. goal.F-step g p x tt q) c.args.visit (λ s P t. g.T.Shards.does s c.args.home P t) c.args.key c.args.shards.now m (Ok c.in-Ok-clone.answer) c.finish-put.new.self) (sym c.in-Ok.is)
    (inl (g.T.Shards.does_more _ _ (λ a b acts. (search rules, (subst (λ r. PutsMissing (λ p e q. goal.F-step g p e tt q) c.args.visit g.K.PartialEq.eq a c.args.key c.in-Ok.made.0 c.in-Ok.made.1 r b) c.in-Some-Ok.field-0-is (subst (λ y. PutsMissing (λ p e q. goal.F-step g p e tt q) c.args.visit g.K.PartialEq.eq a c.args.key c.in-Ok.made.0 c.in-Ok.made.1 c.in-Some-Ok.field-0 y) acts.leaves (subst (λ x. PutsMissing (λ p e q. goal.F-step g p e tt q) c.args.visit g.K.PartialEq.eq x c.args.key c.in-Ok.made.0 c.in-Ok.made.1 c.in-Some-Ok.field-0 acts.left.now) acts.shows acts.called))))) c.args.shards.now c.finish-put.new.self c.args.home c.in-Some-Ok.ensures.acts))

pub returns-in-Some-Err-clause-acts : goal.returns-in-Some-Err-clause-acts
returns-in-Some-Err-clause-acts g c =
    subst (λ m. EndsMaking g.T.Shards.may_end g.K.PartialEq.eq g.V.Clone.is_clone (λ m. m ≡ c.args.made) (λ p x q. goal.F-step g p x tt q) c.args.visit (λ s P t. g.T.Shards.does s c.args.home P t) c.args.key c.args.shards.now m (Err (Unput c.in-Some-Err.refused)) c.finish-put.new.self) (sym c.in-Ok.is)
    (g.T.Shards.does_more _ _ (λ a b acts. inl (subst (λ r. PutsMissing (λ p e q. goal.F-step g p e tt q) c.args.visit g.K.PartialEq.eq a c.args.key c.in-Ok.made.0 c.in-Ok.made.1 r b) c.in-Some-Err.field-0-is (subst (λ y. PutsMissing (λ p e q. goal.F-step g p e tt q) c.args.visit g.K.PartialEq.eq a c.args.key c.in-Ok.made.0 c.in-Ok.made.1 c.in-Some-Err.field-0 y) acts.leaves (subst (λ x. PutsMissing (λ p e q. goal.F-step g p e tt q) c.args.visit g.K.PartialEq.eq x c.args.key c.in-Ok.made.0 c.in-Ok.made.1 c.in-Some-Err.field-0 acts.left.now) acts.shows acts.called)))) c.args.shards.now c.finish-put.new.self c.args.home c.in-Some-Err.ensures.acts)
