use Rattle.std.proofs.Common.{refl}
use Rattle.lru_shard.specs.Row.{row}
use Rattle.lru_shard.proofs.Views.{no_row_in}
use Rattle.lru_shard.proofs.PresentRows.{part_read, row_read, heavy_there, changes, at_valued, at_weighted, at_first, still_at, kept_valued, left_valued, kept_first, accepts_first}
use Rattle.lru_shard.proofs.UnitCalls.{updates, updates_heavy, updates_new}
use Rattle.lru_shard.proofs.unit.LruUnit.update_or_admit.Goals as goal

pub admit_given-requires-clause-absent : goal.admit_given-requires-clause-absent
admit_given-requires-clause-absent g c = no_row_in c.self.inside.rows c.self.inside.used_weight c.self.inside.cap c.self.invariant c.args.self.now c.self.view_is c.args.key c.in_default.ensures.finds

pub returns-in_default : goal.returns-in_default
returns-in_default g c = updates_new _ _ c.args.self.now c.args.self.now c.args.key refl (no_row_in c.self.inside.rows c.self.inside.used_weight c.self.inside.cap c.self.invariant c.args.self.now c.self.view_is c.args.key c.in_default.ensures.finds) c.admit_given.result c.admit_given.new.self c.admit_given.ensures

pub overflow_sub-rest : goal.overflow_sub-rest
overflow_sub-rest g c = part_read c.self.inside.rows c.self.inside.used_weight c.self.inside.cap c.self.invariant c.args.self.now c.self.view_is c.in-Some.ensures.valid c.args.key c.in-Some.place c.in-Some.ensures.finds c.weight_at-old.result c.weight_at-old.ensures

pub invariant_of-self : goal.invariant_of-self
invariant_of-self g c = kept_valued c.self.inside.rows c.self.inside.used_weight c.self.inside.cap c.self.invariant c.args.self.now c.self.view_is c.in-Some.ensures.valid c.args.key c.in-Some.place c.in-Some.ensures.finds c.update.ensures.2 c.update.new.self (at_valued c.self.inside.rows c.self.inside.used_weight c.self.inside.cap c.self.invariant c.args.self.now c.self.view_is c.in-Some.ensures.valid c.args.key c.in-Some.place c.in-Some.ensures.finds c.update.ensures.2 c.update.new.self c.update.ensures.4)

pub returns-then-weight-self : goal.returns-then-weight-self
returns-then-weight-self g c = updates_heavy _ _ c.args.self.now c.args.key (row c.args.key c.in-Some.ensures.finds.0.value c.weight_at-old.result) (row_read c.self.inside.rows c.self.inside.used_weight c.self.inside.cap c.self.invariant c.args.self.now c.self.view_is c.in-Some.ensures.valid c.args.key c.in-Some.place c.in-Some.ensures.finds c.weight_at-old.result c.weight_at-old.ensures) c.update.ensures.2 c.update.result (changes c.self.inside.rows c.self.inside.used_weight c.self.inside.cap c.self.invariant c.args.self.now c.self.view_is c.in-Some.ensures.valid c.args.key c.in-Some.place c.in-Some.ensures.finds c.weight_at-old.result c.weight_at-old.ensures _ c.update.result c.update.new.self c.update.ensures) _ c.new.result c.new.ensures.cause c.max-weight.result c.new.ensures.weight c.new.ensures.held c.max-weight.ensures (heavy_there c.self.inside.rows c.self.inside.used_weight c.self.inside.cap c.self.invariant c.args.self.now c.self.view_is c.in-Some.ensures.valid c.args.key c.in-Some.place c.in-Some.ensures.finds c.weight_at-old.result c.weight_at-old.ensures c.max-weight.result c.if-weight-self.true c.update.ensures.2) (left_valued c.self.inside.rows c.self.inside.used_weight c.self.inside.cap c.self.invariant c.args.self.now c.self.view_is c.in-Some.ensures.valid c.args.key c.in-Some.place c.in-Some.ensures.finds c.update.ensures.2 c.update.new.self (at_valued c.self.inside.rows c.self.inside.used_weight c.self.inside.cap c.self.invariant c.args.self.now c.self.view_is c.in-Some.ensures.valid c.args.key c.in-Some.place c.in-Some.ensures.finds c.update.ensures.2 c.update.new.self c.update.ensures.4))

pub set_weight-requires : goal.set_weight-requires
set_weight-requires g c = still_at c.self.inside.rows c.self.inside.used_weight c.self.inside.cap c.self.invariant c.args.self.now c.self.view_is c.in-Some.ensures.valid c.args.key c.in-Some.place c.in-Some.ensures.finds _ c.update.new.self (at_valued c.self.inside.rows c.self.inside.used_weight c.self.inside.cap c.self.invariant c.args.self.now c.self.view_is c.in-Some.ensures.valid c.args.key c.in-Some.place c.in-Some.ensures.finds c.update.ensures.2 c.update.new.self c.update.ensures.4)

pub promote-requires : goal.promote-requires
promote-requires g c = still_at c.self.inside.rows c.self.inside.used_weight c.self.inside.cap c.self.invariant c.args.self.now c.self.view_is c.in-Some.ensures.valid c.args.key c.in-Some.place c.in-Some.ensures.finds _ c.set_weight.new.self (at_weighted c.self.inside.rows c.self.inside.used_weight c.self.inside.cap c.self.invariant c.args.self.now c.self.view_is c.in-Some.ensures.valid c.args.key c.in-Some.place c.in-Some.ensures.finds c.update.ensures.2 c.max-weight.result c.in-Some.ensures.finds.0.weight c.update.new.self c.set_weight.new.self (at_valued c.self.inside.rows c.self.inside.used_weight c.self.inside.cap c.self.invariant c.args.self.now c.self.view_is c.in-Some.ensures.valid c.args.key c.in-Some.place c.in-Some.ensures.finds c.update.ensures.2 c.update.new.self c.update.ensures.4) c.set_weight.ensures)

pub invariant_of-self-2 : goal.invariant_of-self-2
invariant_of-self-2 g c = kept_first c.self.inside.rows c.self.inside.used_weight c.self.inside.cap c.self.invariant c.args.self.now c.self.view_is c.in-Some.ensures.valid c.args.key c.in-Some.place c.in-Some.ensures.finds c.weight_at-old.result c.weight_at-old.ensures c.update.ensures.2 c.max-weight.result c.if-weight-self.false c.promote.new.self (at_first c.self.inside.rows c.self.inside.used_weight c.self.inside.cap c.self.invariant c.args.self.now c.self.view_is c.in-Some.ensures.valid c.args.key c.in-Some.place c.in-Some.ensures.finds c.update.ensures.2 c.max-weight.result c.set_weight.new.self c.promote.new.self (at_weighted c.self.inside.rows c.self.inside.used_weight c.self.inside.cap c.self.invariant c.args.self.now c.self.view_is c.in-Some.ensures.valid c.args.key c.in-Some.place c.in-Some.ensures.finds c.update.ensures.2 c.max-weight.result c.in-Some.ensures.finds.0.weight c.update.new.self c.set_weight.new.self (at_valued c.self.inside.rows c.self.inside.used_weight c.self.inside.cap c.self.invariant c.args.self.now c.self.view_is c.in-Some.ensures.valid c.args.key c.in-Some.place c.in-Some.ensures.finds c.update.ensures.2 c.update.new.self c.update.ensures.4) c.set_weight.ensures) c.promote.ensures) _ refl

pub returns : goal.returns
returns g c = updates _ _ c.args.self.now c.args.key (row c.args.key c.in-Some.ensures.finds.0.value c.weight_at-old.result) (row_read c.self.inside.rows c.self.inside.used_weight c.self.inside.cap c.self.invariant c.args.self.now c.self.view_is c.in-Some.ensures.valid c.args.key c.in-Some.place c.in-Some.ensures.finds c.weight_at-old.result c.weight_at-old.ensures) c.update.ensures.2 c.update.result (changes c.self.inside.rows c.self.inside.used_weight c.self.inside.cap c.self.invariant c.args.self.now c.self.view_is c.in-Some.ensures.valid c.args.key c.in-Some.place c.in-Some.ensures.finds c.weight_at-old.result c.weight_at-old.ensures _ c.update.result c.update.new.self c.update.ensures) _ c.max-weight.result c.max-weight.ensures (accepts_first c.self.inside.rows c.self.inside.used_weight c.self.inside.cap c.self.invariant c.args.self.now c.self.view_is c.in-Some.ensures.valid c.args.key c.in-Some.place c.in-Some.ensures.finds c.weight_at-old.result c.weight_at-old.ensures c.update.ensures.2 c.max-weight.result c.if-weight-self.false c.promote.new.self (at_first c.self.inside.rows c.self.inside.used_weight c.self.inside.cap c.self.invariant c.args.self.now c.self.view_is c.in-Some.ensures.valid c.args.key c.in-Some.place c.in-Some.ensures.finds c.update.ensures.2 c.max-weight.result c.set_weight.new.self c.promote.new.self (at_weighted c.self.inside.rows c.self.inside.used_weight c.self.inside.cap c.self.invariant c.args.self.now c.self.view_is c.in-Some.ensures.valid c.args.key c.in-Some.place c.in-Some.ensures.finds c.update.ensures.2 c.max-weight.result c.in-Some.ensures.finds.0.weight c.update.new.self c.set_weight.new.self (at_valued c.self.inside.rows c.self.inside.used_weight c.self.inside.cap c.self.invariant c.args.self.now c.self.view_is c.in-Some.ensures.valid c.args.key c.in-Some.place c.in-Some.ensures.finds c.update.ensures.2 c.update.new.self c.update.ensures.4) c.set_weight.ensures) c.promote.ensures))
