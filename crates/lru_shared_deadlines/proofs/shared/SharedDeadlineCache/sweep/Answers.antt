use Rattle.lru_shared_deadlines.proofs.shared.SharedDeadlineCache.sweep.Goals as goal

pub returns : goal.returns
returns g c = c.sweep.ensures.acts
