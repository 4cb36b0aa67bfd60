use Rattle.std.proofs.Common.{◌≡◌, vec_len}
use Rattle.lru_shared_order.proofs.InTurn.{GoesOn}
use Rattle.lru_shared_order.proofs.admitting.admit_each.Given as goal

-- whatever becomes of the rest, it becomes of the batch
abbrev pub invariant-loop-place : goal.invariant-loop-place
invariant-loop-place g l = record {
  so_far : GoesOn g.row.N l.shard l.initial.unit l.initial.batch.items l.unit l.batch.items l.place;
  as_many : vec_len l.batch ≡ vec_len l.initial.batch;
}
