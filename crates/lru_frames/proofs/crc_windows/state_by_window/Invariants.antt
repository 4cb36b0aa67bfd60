use Rattle.std.proofs.Common.{◌≡◌, length, take}
use Rattle.std.specs.List.{fold}
use Rattle.lru_frames.specs.Crc.{all_ones, step}
use Rattle.lru_frames.specs.CrcWindows.{state_of}
use Rattle.lru_frames.proofs.crc_windows.state_by_window.Given as goal

-- the window, and then the rest
abbrev pub invariant-loop-rest : goal.invariant-loop-rest
invariant-loop-rest l = fold step (state_of (take 1145 l.window)) l.rest ≡ fold step all_ones l.initial.rest

abbrev pub decreases-loop-rest : goal.decreases-loop-rest
decreases-loop-rest l = length l.rest
