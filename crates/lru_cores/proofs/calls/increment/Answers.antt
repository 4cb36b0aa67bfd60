use Rattle.std.proofs.Common.{rules, ◌≡◌}
use Rattle.lru_cores.proofs.CallLaws.{increments_more}
use Rattle.lru_cores.proofs.calls.increment.Goals as goal

pub returns : goal.returns
returns g c = increments_more _ (λ made. made ≡ c.args.«data») (λ made h. search rules) c.args.core.now c.args.key c.args.delta c.args.max_weight c.increment_weight.result c.increment_weight.new.self c.increment_weight.ensures
