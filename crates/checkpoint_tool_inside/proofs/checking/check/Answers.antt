use Rattle.checkpoint_tool_inside.proofs.checking.check.Goals as goal

pub returns-in-Ok-clause-outcome : goal.returns-in-Ok-clause-outcome
returns-in-Ok-clause-outcome g c k = (c.in-Ok.ensures.all k, c.in-Ok.ensures.told k)
