use Rattle.std.proofs.Common.{subst, sym, ◌∙◌}
use Rattle.lru_owned_cache.specs.Cache.{UpdatesEntry}
use Rattle.lru_deadlines.proofs.Living.{updates_if_living}
use Rattle.lru_deadlines.proofs.deadlines.DeadlineCache.update_hashed.Goals as goal

pub returns : goal.returns
returns g c =
    updates_if_living g.Q.Query.stands_for (λ lent w answer left. (g.U.FnOnce).post c.args.update (lent, (w, tt)) (answer, (left, tt))) c.args.time _ c.args.query c.update_hashed.result c.update_hashed.new.self
    (sym c.contains_hashed.ensures ∙ c.if-not-contains_hashed.false)
    (subst (λ x. UpdatesEntry g.Q.Query.stands_for (λ lent w answer left. (g.U.FnOnce).post c.args.update (lent, (w, tt)) (answer, (left, tt))) x c.args.query c.update_hashed.result c.update_hashed.new.self) c.self.view_is c.update_hashed.ensures)
