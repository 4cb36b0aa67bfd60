use Rattle.std.proofs.Common.{subst, refl, ◌∙◌, inl, inr}
use Rattle.lru_owned_cache.specs.Cache.{Reweighs}
use Rattle.lru_deadlines.proofs.deadlines.DeadlineCache.reweigh.Goals as goal

pub returns-in-None : goal.returns-in-None
returns-in-None g c = inr (
  c.in-None.ensures.0,
  subst (λ x. Reweighs g.K.PartialEq.eq (λ lent w answer left. (g.U.FnOnce).post c.args.change (lent, (w, tt)) (answer, (left, tt))) (λ p e q. goal.F-step g p e tt q) c.args.visit x c.args.key.now c.reweigh.result c.reweigh.new.self) (c.self.view_is ∙ c.in-None.ensures.1) c.reweigh.ensures,
)

pub returns-in-Some : goal.returns-in-Some
returns-in-Some g c = inl (c.in-Some.past, (c.in-Some.ensures.0, (refl, c.in-Some.ensures.1)))
