use Rattle.std.proofs.Common.{refl}
use Rattle.lru_shard.specs.Row.{row}
use Rattle.lru_shard.proofs.Views.{no_row_in}
use Rattle.lru_shard.proofs.PresentRows.{part_read, row_read, heavy_there, at_own, at_first, still_at, kept_first, accepts_first}
use Rattle.lru_shard.proofs.UnitCalls.{increments_new, increments_no, increments, increments_heavy}
use Rattle.lru_shard.proofs.unit.LruUnit.increment_weight.Goals as goal

pub admit_made-requires-clause-absent : goal.admit_made-requires-clause-absent
admit_made-requires-clause-absent g c = no_row_in c.self.inside.rows c.self.inside.used_weight c.self.inside.cap c.self.invariant c.args.self.now c.self.view_is c.args.key c.in_default.ensures.finds

pub returns-in-Err : goal.returns-in-Err
returns-in-Err g c = increments_no _ c.args.self.now c.args.self.now c.args.key c.args.delta c.args.max_weight refl (no_row_in c.self.inside.rows c.self.inside.used_weight c.self.inside.cap c.self.invariant c.args.self.now c.self.view_is c.args.key c.in_default.ensures.finds) c.started-weight.result c.started-weight.ensures c.admit_made.new.self c.in-Err.cause c.in-Err.ensures

pub returns-in_default : goal.returns-in_default
returns-in_default g c = increments_new _ c.args.self.now c.args.self.now c.args.key c.args.delta c.args.max_weight refl (no_row_in c.self.inside.rows c.self.inside.used_weight c.self.inside.cap c.self.invariant c.args.self.now c.self.view_is c.args.key c.in_default.ensures.finds) c.started-weight.result c.started-weight.ensures c.admit_made.new.self c.in_default-admit_made.ensures

pub overflow_sub-rest : goal.overflow_sub-rest
overflow_sub-rest g c = part_read c.self.inside.rows c.self.inside.used_weight c.self.inside.cap c.self.invariant c.args.self.now c.self.view_is c.in-Some.ensures.valid c.args.key c.in-Some.place c.in-Some.ensures.finds c.weight_at-old.result c.weight_at-old.ensures

pub returns-then-weight-self : goal.returns-then-weight-self
returns-then-weight-self g c = increments_heavy _ c.args.self.now c.args.key c.args.delta c.args.max_weight (row c.args.key c.in-Some.ensures.finds.0.value c.weight_at-old.result) (row_read c.self.inside.rows c.self.inside.used_weight c.self.inside.cap c.self.invariant c.args.self.now c.self.view_is c.in-Some.ensures.valid c.args.key c.in-Some.place c.in-Some.ensures.finds c.weight_at-old.result c.weight_at-old.ensures) c.raised-weight.result c.raised-weight.ensures _ (heavy_there c.self.inside.rows c.self.inside.used_weight c.self.inside.cap c.self.invariant c.args.self.now c.self.view_is c.in-Some.ensures.valid c.args.key c.in-Some.place c.in-Some.ensures.finds c.weight_at-old.result c.weight_at-old.ensures c.raised-weight.result c.if-weight-self.true c.in-Some.ensures.finds.0.value) refl

pub promote-requires : goal.promote-requires
promote-requires g c = still_at c.self.inside.rows c.self.inside.used_weight c.self.inside.cap c.self.invariant c.args.self.now c.self.view_is c.in-Some.ensures.valid c.args.key c.in-Some.place c.in-Some.ensures.finds _ c.set_weight.new.self (at_own c.self.inside.rows c.self.inside.used_weight c.self.inside.cap c.self.invariant c.args.self.now c.self.view_is c.in-Some.ensures.valid c.args.key c.in-Some.place c.in-Some.ensures.finds c.raised-weight.result c.set_weight.new.self c.set_weight.ensures)

pub invariant_of-self : goal.invariant_of-self
invariant_of-self g c = kept_first c.self.inside.rows c.self.inside.used_weight c.self.inside.cap c.self.invariant c.args.self.now c.self.view_is c.in-Some.ensures.valid c.args.key c.in-Some.place c.in-Some.ensures.finds c.weight_at-old.result c.weight_at-old.ensures c.in-Some.ensures.finds.0.value c.raised-weight.result c.if-weight-self.false c.promote.new.self (at_first c.self.inside.rows c.self.inside.used_weight c.self.inside.cap c.self.invariant c.args.self.now c.self.view_is c.in-Some.ensures.valid c.args.key c.in-Some.place c.in-Some.ensures.finds c.in-Some.ensures.finds.0.value c.raised-weight.result c.set_weight.new.self c.promote.new.self (at_own c.self.inside.rows c.self.inside.used_weight c.self.inside.cap c.self.invariant c.args.self.now c.self.view_is c.in-Some.ensures.valid c.args.key c.in-Some.place c.in-Some.ensures.finds c.raised-weight.result c.set_weight.new.self c.set_weight.ensures) c.promote.ensures) _ refl

pub returns : goal.returns
returns g c = increments _ c.args.self.now c.args.key c.args.delta c.args.max_weight (row c.args.key c.in-Some.ensures.finds.0.value c.weight_at-old.result) (row_read c.self.inside.rows c.self.inside.used_weight c.self.inside.cap c.self.invariant c.args.self.now c.self.view_is c.in-Some.ensures.valid c.args.key c.in-Some.place c.in-Some.ensures.finds c.weight_at-old.result c.weight_at-old.ensures) c.raised-weight.result c.raised-weight.ensures _ (accepts_first c.self.inside.rows c.self.inside.used_weight c.self.inside.cap c.self.invariant c.args.self.now c.self.view_is c.in-Some.ensures.valid c.args.key c.in-Some.place c.in-Some.ensures.finds c.weight_at-old.result c.weight_at-old.ensures c.in-Some.ensures.finds.0.value c.raised-weight.result c.if-weight-self.false c.promote.new.self (at_first c.self.inside.rows c.self.inside.used_weight c.self.inside.cap c.self.invariant c.args.self.now c.self.view_is c.in-Some.ensures.valid c.args.key c.in-Some.place c.in-Some.ensures.finds c.in-Some.ensures.finds.0.value c.raised-weight.result c.set_weight.new.self c.promote.new.self (at_own c.self.inside.rows c.self.inside.used_weight c.self.inside.cap c.self.invariant c.args.self.now c.self.view_is c.in-Some.ensures.valid c.args.key c.in-Some.place c.in-Some.ensures.finds c.raised-weight.result c.set_weight.new.self c.set_weight.ensures) c.promote.ensures))
