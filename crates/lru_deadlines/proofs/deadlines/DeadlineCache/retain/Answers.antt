use Rattle.std.proofs.Common.{subst}
use Rattle.lru_owned_cache.specs.Cache.{Retains}
use Rattle.lru_deadlines.proofs.deadlines.DeadlineCache.retain.Goals as goal

pub returns : goal.returns
returns g c = subst (λ x. Retains (λ p k v w b q. goal.F-step g p k v w b q) c.args.keep x c.retain.new.self) c.self.view_is c.retain.ensures
