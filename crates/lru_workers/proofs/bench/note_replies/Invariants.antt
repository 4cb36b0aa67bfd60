use Rattle.std.proofs.Common.{◌≡◌, ◌<◌, ◌≤◌, ◌^◌, vec_len}
use Rattle.lru_workers.specs.Batch.{answers, replied}
use Rattle.lru_workers.proofs.bench.note_replies.Given as goal

-- with the answers that are left, those who asked have all of them
abbrev pub invariant-loop-effect : goal.invariant-loop-effect
invariant-loop-effect g l = record {
  all : replied l.asked.items (answers l.refused l.effects.items) ≡ replied l.initial.asked.items (answers l.initial.refused l.initial.effects.items);
  fits : vec_len l.effects ≤ vec_len l.asked;
  few : l.refused < 2 ^ 64;
}

abbrev pub decreases-loop-effect : goal.decreases-loop-effect
decreases-loop-effect g l = vec_len l.effects
