use Rattle.std.proofs.Common.{◌≡◌, length}
use Rattle.trace_player_inside.specs.Traces.{front}
use Rattle.trace_player_inside.proofs.player.shrink.Given as goal

-- what fits is what fitted at first
abbrev pub invariant-loop-unit : goal.invariant-loop-unit
invariant-loop-unit l = (front l.limit l.unit.rows ≡ front l.fn.limit l.fn.unit.rows) × (l.unit.cap ≡ l.fn.unit.cap)

abbrev pub decreases-loop-unit : goal.decreases-loop-unit
decreases-loop-unit l = length l.unit.rows
