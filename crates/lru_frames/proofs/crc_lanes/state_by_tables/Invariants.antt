use Rattle.std.proofs.Common.{◌≡◌, length}
use Rattle.std.specs.List.{fold}
use Rattle.lru_frames.specs.Crc.{step}
use Rattle.lru_frames.proofs.crc_lanes.state_by_tables.Given as goal

-- the state, and then the rest
abbrev pub invariant-loop-rest : goal.invariant-loop-rest
invariant-loop-rest l = fold step l.state l.rest ≡ fold step l.fn.state l.bytes

abbrev pub decreases-loop-rest : goal.decreases-loop-rest
decreases-loop-rest l = length l.rest
