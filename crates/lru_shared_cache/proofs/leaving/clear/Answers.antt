use Rattle.lru_shared_cache.proofs.Parted.{all_cleared}
use Rattle.lru_shared_cache.proofs.leaving.clear.Goals as goal

pub returns-clause-shown : goal.returns-clause-shown
returns-clause-shown g c = (all_cleared (λ p x q. goal.F-step g p x tt q) c.args.visit c.let_go.result _ _ c.let_go.ensures.goes).0

pub returns-clause-none : goal.returns-clause-none
returns-clause-none g c = (all_cleared (λ p x q. goal.F-step g p x tt q) c.args.visit c.let_go.result _ _ c.let_go.ensures.goes).1
