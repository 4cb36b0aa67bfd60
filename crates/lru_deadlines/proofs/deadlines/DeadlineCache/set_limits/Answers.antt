use Rattle.std.proofs.Common.{subst}
use Rattle.lru_owned_cache.specs.Cache.{Limits}
use Rattle.lru_deadlines.proofs.deadlines.DeadlineCache.set_limits.Goals as goal

pub returns : goal.returns
returns g c = subst (λ x. Limits (λ p e q. goal.F-step g p e tt q) c.args.visit x c.args.most_weight c.args.most_entries c.set_limits.new.self) c.self.view_is c.set_limits.ensures
