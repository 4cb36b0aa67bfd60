use Rattle.std.proofs.Common.{◌≡◌, length, take, drop, bit_xor}
use Rattle.std.specs.List.{fold}
use Rattle.lru_frames.specs.Crc.{step}
use Rattle.lru_frames.specs.CrcWindows.{state_of}
use Rattle.lru_frames.proofs.crc_windows.closed.Given as goal

-- so far the window and the sums lead to the state
abbrev pub invariant-loop-k : goal.invariant-loop-k
invariant-loop-k l =
    (length l.sums ≡ 1145)
    × (fold step (state_of (take 1145 l.window)) (take l.k l.last) ≡ bit_xor (state_of (take 1145 (drop l.k l.window))) (fold step 0 (take l.k l.sums)))
