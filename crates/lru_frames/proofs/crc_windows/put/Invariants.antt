use Rattle.std.proofs.Common.{◌≡◌, take, drop}
use Rattle.std.specs.List.{fold}
use Rattle.lru_frames.specs.Crc.{step}
use Rattle.lru_frames.specs.CrcWindows.{state_of}
use Rattle.lru_frames.proofs.crc_windows.put.Given as goal

-- the window has come so far
abbrev pub invariant-loop-k : goal.invariant-loop-k
invariant-loop-k l = state_of (take 1145 (drop l.k l.window)) ≡ fold step (state_of (take 1145 l.initial.window)) (take l.k l.chunk)
