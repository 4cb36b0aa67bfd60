use Rattle.lru_shared_deadlines.proofs.PutBack.{may_put_back}
use Rattle.lru_shared_deadlines.proofs.shared.SharedDeadlineCache.put_back.Goals as goal

pub returns-clause-puts : goal.returns-clause-puts
returns-clause-puts g c = may_put_back g.K.PartialEq.eq c.args.key c.args.weight (λ p x q. goal.F-step g p x tt q) c.args.visit c.args.until c.put_back.result _ _ c.put_back.ensures.acts.1.1
