use Rattle.std.proofs.Common.{of_calls, ap, sym, subst, ◌∙◌}
use Rattle.std.specs.Borrow.{Bor}
use Rattle.std.specs.Fn.Refs.{Mut-at_ref}
use Rattle.lru_shared_cache.proofs.Turned.{retains_as}
use Rattle.lru_shared_cache.proofs.turns.retain_by.Goals as goal

pub retain-requires-clause-keep : goal.retain-requires-clause-keep
retain-requires-clause-keep g c = Mut-at_ref g.F.Fn _ _ (search of_calls) (λ s a p. p) (λ s a r t e. e.met.1)

pub returns-clause-acts : goal.returns-clause-acts
returns-clause-acts g c =
    g.T.Shards.does_more _ _
    (λ a b r. retains_as _ (λ p k v w x q. goal.F-step g p k v w x q) (λ (p : Bor g.row.F.Denot). p.now)
    (λ p k v w x q e.
    let step = (g.met.F.FnMut.1.post_iff p.now (k, (v, (w, tt))) x).0 e.met.0 in
    subst (λ f. goal.F-step g p.now k v w x f) (g.met.F.Fn.1.step_stays p.now (k, (v, (w, tt))) x step.0 step.1 ∙ ap (λ (y : Bor g.row.F.Denot). y.now) (sym e.met.1)) step.1)
    c.args.keep (g.X.Kept.inside a) (g.X.Kept.inside b) r)
    c.args.shards.now c.retain.new.shards c.args.shard c.retain.ensures.acts
