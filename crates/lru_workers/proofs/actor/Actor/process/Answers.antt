use Rattle.std.proofs.Common.{◌∙◌}
use Rattle.lru_workers.proofs.Stepping.{cap_kept}
use Rattle.lru_workers.proofs.actor.Actor.process.Goals as goal

pub invariant_of-self : goal.invariant_of-self
invariant_of-self g c = record { capped = cap_kept g.K.Clone.is_clone _ _ _ _ c.process.ensures.steps ∙ c.args.self.now.capped }
