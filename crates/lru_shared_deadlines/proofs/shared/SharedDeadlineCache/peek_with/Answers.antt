use Rattle.lru_shared_deadlines.proofs.Shown.{may_show}
use Rattle.lru_shared_deadlines.proofs.shared.SharedDeadlineCache.peek_with.Goals as goal

pub returns : goal.returns
returns g c = may_show g.Q.Query.stands_for _ _ _ _ c.peek.result c.peek.ensures.1
