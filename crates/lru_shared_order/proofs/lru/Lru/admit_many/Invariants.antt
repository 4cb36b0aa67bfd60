use Rattle.lru_shared_order.proofs.Answered.{AreLater}
use Rattle.lru_shared_order.proofs.Passed.{ArePassed}
use Rattle.lru_shared_order.proofs.lru.Lru.admit_many.Given as goal

-- what was answered so far, and that none waits of those that the loop has passed
abbrev pub invariant-loop-place : goal.invariant-loop-place
invariant-loop-place g l = record {
  later : AreLater g.row.N l.initial.batch.items l.batch.items;
  passed : ArePassed l.batch.items l.place;
}
