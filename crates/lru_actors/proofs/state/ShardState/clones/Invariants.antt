use Rattle.std.proofs.Common.{◌≡◌, ℕ, List, ◌++◌, length}
use Rattle.lru_actors.specs.Messages.{AreClones}
use Rattle.lru_actors.proofs.state.ShardState.clones.Given as goal

-- those before the rest were cloned
abbrev pub invariant-loop-key : goal.invariant-loop-key
invariant-loop-key g l = (front : List (g.row.K.Denot × ℕ)) × ((front ++ l.rest ≡ l.initial.rest) × AreClones g.K.Clone.is_clone front l.pairs.items)

abbrev pub decreases-loop-key : goal.decreases-loop-key
decreases-loop-key g l = length l.rest
