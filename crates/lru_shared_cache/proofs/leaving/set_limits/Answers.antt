use Rattle.lru_shared_cache.proofs.Parted.{limits_stay}
use Rattle.lru_shared_cache.proofs.leaving.set_limits.Goals as goal

pub returns-clause-limits : goal.returns-clause-limits
returns-clause-limits g c = limits_stay (λ p x q. goal.F-step g p x tt q) c.args.visit c.let_go-visit.result _ _ c.args.most_weight c.args.most_entries c.args.cache.now c.let_go-visit.new.cache c.set_limits.new.self c.let_go-visit.ensures.placed c.let_go-visit.ensures.goes c.set_limits.ensures
