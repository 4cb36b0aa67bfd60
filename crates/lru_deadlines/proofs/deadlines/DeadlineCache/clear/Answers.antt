use Rattle.std.proofs.Common.{subst}
use Rattle.lru_owned_cache.specs.Cache.{Clears}
use Rattle.lru_deadlines.proofs.deadlines.DeadlineCache.clear.Goals as goal

pub returns : goal.returns
returns g c = subst (λ x. Clears (λ p e q. goal.F-step g p e tt q) c.args.visit x c.clear.new.self) c.self.view_is c.clear.ensures
