use Rattle.std.proofs.Common.{◌≡◌, ◌-◌, ◌/◌, ◌%◌, ◌<◌, length}
use Rattle.lru_index.specs.Hashing.{blocks_mixed}
use Rattle.lru_index.proofs.hashing.SeededHasher.mix_blocks.Given as goal

abbrev pub invariant-loop-at : goal.invariant-loop-at
invariant-loop-at l = (l.at % 16 ≡ 0) × (l.at < length l.bytes) × (l.self ≡ blocks_mixed l.initial.self l.bytes (l.at / 16))

abbrev pub decreases-loop-at : goal.decreases-loop-at
decreases-loop-at l = length l.bytes - l.at
