use Rattle.lru_shared_deadlines.proofs.shared.SharedDeadlineCache.clear_shard.Goals as goal

pub returns : goal.returns
returns g c = c.clear.ensures.acts
