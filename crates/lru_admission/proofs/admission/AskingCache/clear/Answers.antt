use Rattle.std.proofs.Common.{subst}
use Rattle.lru_owned_cache.specs.Cache.{Clears}
use Rattle.lru_admission.proofs.admission.AskingCache.clear.Goals as goal

pub returns-clause-cache : goal.returns-clause-cache
returns-clause-cache g c = subst (λ x. Clears (λ p e q. goal.F-step g p e tt q) c.args.visit x.cache c.clear.new.self) c.self.view_is c.clear.ensures
