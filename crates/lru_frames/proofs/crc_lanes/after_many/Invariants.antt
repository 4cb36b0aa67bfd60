use Rattle.std.proofs.Common.{◌≡◌, length}
use Rattle.std.specs.List.{fold}
use Rattle.lru_frames.specs.Crc.{step}
use Rattle.lru_frames.specs.CrcLanes.{joined}
use Rattle.lru_frames.proofs.crc_lanes.after_many.Given as goal

-- the rest behind what the lanes join to
abbrev pub invariant-loop-rest : goal.invariant-loop-rest
invariant-loop-rest l = fold step (joined l.lanes.first l.lanes.second l.lanes.third l.lanes.fourth) l.rest ≡ fold step l.fn.state l.bytes

abbrev pub decreases-loop-rest : goal.decreases-loop-rest
decreases-loop-rest l = length l.rest
