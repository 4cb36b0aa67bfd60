use Rattle.std.proofs.Common.{length}
use denote.Param.Always.{always_mut}
use Rattle.lru_shared_order.proofs.Sheds.{Shedding}
use Rattle.lru_shared_order.proofs.shed.shed.Given as goal

abbrev pub invariant-loop-unit : goal.invariant-loop-unit
invariant-loop-unit g l = record {
  again : always_mut g.F.FnMut l.visit;
  sheds : Shedding (λ p x q. goal.F-step g p x tt q) l.fn.visit l.fn.unit l.fn.room.weight l.fn.room.len l.unit l.visit;
}

abbrev pub decreases-loop-unit : goal.decreases-loop-unit
decreases-loop-unit g l = length l.unit.rows
