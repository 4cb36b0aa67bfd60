use Rattle.std.proofs.Common.{subst, ◌∙◌}
use Rattle.lru_owned_cache.specs.Cache.{UpdatesEntry}
use Rattle.lru_deadlines.proofs.deadlines.DeadlineCache.update_by.Goals as goal

pub returns-in-None : goal.returns-in-None
returns-in-None g c = (
  c.in-None.ensures.0,
  subst (λ x. UpdatesEntry g.Q.Query.stands_for (λ lent w answer left. (g.U.FnOnce).post c.args.update (lent, (w, tt)) (answer, (left, tt))) x c.args.query c.update_by.result c.update_by.new.self) (c.self.view_is ∙ c.in-None.ensures.1) c.update_by.ensures,
)
