use Rattle.lru_shared_deadlines.proofs.shared.SharedDeadlineCache.remove.Goals as goal

pub returns : goal.returns
returns g c = c.remove.ensures.acts
