use Rattle.std.proofs.Common.{subst, ◌∙◌, inl, inr}
use Rattle.lru_owned_cache.specs.Cache.{UsesOrPuts}
use Rattle.lru_deadlines.proofs.deadlines.DeadlineCache.use_or_put.Goals as goal

pub returns-in-Some : goal.returns-in-Some
returns-in-Some g c = inl (
  c.in-Some.past,
  (
    c.in-Some.ensures.0,
    (
      c.visit.new.self,
      (
        c.visit.ensures,
        subst (λ x. UsesOrPuts g.K.PartialEq.eq (goal.M-post g c.args.make) (λ p e q. goal.F-step g p e tt q) c.visit.new.self x c.args.key c.use_or_put.result c.use_or_put.new.self) (c.self.view_is ∙ c.in-Some.ensures.1) c.use_or_put.ensures,
      ),
    ),
  ),
)

pub returns : goal.returns
returns g c = inr (
  c.in_default.ensures.0,
  subst (λ x. UsesOrPuts g.K.PartialEq.eq (goal.M-post g c.args.make) (λ p e q. goal.F-step g p e tt q) c.args.visit x c.args.key c.use_or_put-2.result c.use_or_put-2.new.self) (c.self.view_is ∙ c.in_default.ensures.1) c.use_or_put-2.ensures,
)
