use Rattle.std.proofs.Common.{rules, ◌+◌, ℕ, ap, ◌∙◌}
use Rattle.lru_recording.specs.Gathered.{empty_in}
use Rattle.lru_recording.proofs.Gathering.{more_empty}
use Rattle.lru_recording.proofs.gathered.empty_slots.Goals as goal

pub loop-preserved : goal.loop-preserved
loop-preserved g c = (search rules, ap empty_in c.in_ok-push.ensures.items ∙ more_empty c.loop.slots.items ∙ ap (λ (n : ℕ). n + 1) c.loop.invariant.1)
