use Rattle.std.proofs.Common.{◌≡◌, take}
use Rattle.lru_workers.specs.Batch.{heaviest_put}
use Rattle.lru_workers.proofs.bench.heaviest_in.Given as goal

-- the greatest weight of the first so many effects
abbrev pub invariant-loop-effect : goal.invariant-loop-effect
invariant-loop-effect g l = l.heaviest ≡ heaviest_put (take l.effect-index l.effects.items)
