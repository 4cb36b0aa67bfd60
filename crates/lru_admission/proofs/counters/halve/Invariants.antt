use Rattle.std.proofs.Common.{◌≡◌, ◌++◌, map, take, drop}
use Rattle.lru_admission.proofs.Packed.{halved_byte}
use Rattle.lru_admission.proofs.counters.halve.Given as goal

abbrev pub invariant-loop-byte : goal.invariant-loop-byte
invariant-loop-byte l = l.bytes ≡ map halved_byte (take l.byte-index l.fn.bytes) ++ drop l.byte-index l.fn.bytes
