use Rattle.std.proofs.Common.{refl}
use Rattle.lru_shard.proofs.PresentRows.{part_read, weight_there, refuses_heavy, at_valued, at_weighted, at_first, still_at, kept_first, accepts_first}
use Rattle.lru_shard.proofs.Views.{no_row_in}
use Rattle.lru_shard.proofs.unit.LruUnit.admit.Goals as goal

pub admit_new-requires : goal.admit_new-requires
admit_new-requires g c = no_row_in c.self.inside.rows c.self.inside.used_weight c.self.inside.cap c.self.invariant c.args.self.now c.self.view_is c.args.key c.in_default.ensures.finds

pub overflow_sub-rest : goal.overflow_sub-rest
overflow_sub-rest g c = part_read c.self.inside.rows c.self.inside.used_weight c.self.inside.cap c.self.invariant c.args.self.now c.self.view_is c.in-Some.ensures.valid c.args.key c.in-Some.place c.in-Some.ensures.finds c.weight_at-old.result c.weight_at-old.ensures

pub returns-then-weight-self : goal.returns-then-weight-self
returns-then-weight-self g c = refuses_heavy c.self.inside.rows c.self.inside.used_weight c.self.inside.cap c.self.invariant c.args.self.now c.self.view_is c.in-Some.ensures.valid c.args.key c.in-Some.place c.in-Some.ensures.finds c.weight_at-old.result c.weight_at-old.ensures c.args.weight c.if-weight-self.true c.args.«data» c.new.result c.new.ensures.cause c.new.ensures.held

pub set_weight-requires : goal.set_weight-requires
set_weight-requires g c = still_at c.self.inside.rows c.self.inside.used_weight c.self.inside.cap c.self.invariant c.args.self.now c.self.view_is c.in-Some.ensures.valid c.args.key c.in-Some.place c.in-Some.ensures.finds _ c.replace-replaced.new.self (at_valued c.self.inside.rows c.self.inside.used_weight c.self.inside.cap c.self.invariant c.args.self.now c.self.view_is c.in-Some.ensures.valid c.args.key c.in-Some.place c.in-Some.ensures.finds c.args.«data» c.replace-replaced.new.self c.replace-replaced.ensures.rows)

pub promote-requires : goal.promote-requires
promote-requires g c = still_at c.self.inside.rows c.self.inside.used_weight c.self.inside.cap c.self.invariant c.args.self.now c.self.view_is c.in-Some.ensures.valid c.args.key c.in-Some.place c.in-Some.ensures.finds _ c.set_weight.new.self (at_weighted c.self.inside.rows c.self.inside.used_weight c.self.inside.cap c.self.invariant c.args.self.now c.self.view_is c.in-Some.ensures.valid c.args.key c.in-Some.place c.in-Some.ensures.finds c.args.«data» c.args.weight c.in-Some.ensures.finds.0.weight c.replace-replaced.new.self c.set_weight.new.self (at_valued c.self.inside.rows c.self.inside.used_weight c.self.inside.cap c.self.invariant c.args.self.now c.self.view_is c.in-Some.ensures.valid c.args.key c.in-Some.place c.in-Some.ensures.finds c.args.«data» c.replace-replaced.new.self c.replace-replaced.ensures.rows) c.set_weight.ensures)

pub invariant_of-self : goal.invariant_of-self
invariant_of-self g c = kept_first c.self.inside.rows c.self.inside.used_weight c.self.inside.cap c.self.invariant c.args.self.now c.self.view_is c.in-Some.ensures.valid c.args.key c.in-Some.place c.in-Some.ensures.finds c.weight_at-old.result c.weight_at-old.ensures c.args.«data» c.args.weight c.if-weight-self.false c.promote.new.self (at_first c.self.inside.rows c.self.inside.used_weight c.self.inside.cap c.self.invariant c.args.self.now c.self.view_is c.in-Some.ensures.valid c.args.key c.in-Some.place c.in-Some.ensures.finds c.args.«data» c.args.weight c.set_weight.new.self c.promote.new.self (at_weighted c.self.inside.rows c.self.inside.used_weight c.self.inside.cap c.self.invariant c.args.self.now c.self.view_is c.in-Some.ensures.valid c.args.key c.in-Some.place c.in-Some.ensures.finds c.args.«data» c.args.weight c.in-Some.ensures.finds.0.weight c.replace-replaced.new.self c.set_weight.new.self (at_valued c.self.inside.rows c.self.inside.used_weight c.self.inside.cap c.self.invariant c.args.self.now c.self.view_is c.in-Some.ensures.valid c.args.key c.in-Some.place c.in-Some.ensures.finds c.args.«data» c.replace-replaced.new.self c.replace-replaced.ensures.rows) c.set_weight.ensures) c.promote.ensures) _ refl

pub returns : goal.returns
returns g c = (weight_there c.self.inside.rows c.self.inside.used_weight c.self.inside.cap c.self.invariant c.args.self.now c.self.view_is c.in-Some.ensures.valid c.args.key c.in-Some.place c.in-Some.ensures.finds c.weight_at-old.result c.weight_at-old.ensures, accepts_first c.self.inside.rows c.self.inside.used_weight c.self.inside.cap c.self.invariant c.args.self.now c.self.view_is c.in-Some.ensures.valid c.args.key c.in-Some.place c.in-Some.ensures.finds c.weight_at-old.result c.weight_at-old.ensures c.args.«data» c.args.weight c.if-weight-self.false c.promote.new.self (at_first c.self.inside.rows c.self.inside.used_weight c.self.inside.cap c.self.invariant c.args.self.now c.self.view_is c.in-Some.ensures.valid c.args.key c.in-Some.place c.in-Some.ensures.finds c.args.«data» c.args.weight c.set_weight.new.self c.promote.new.self (at_weighted c.self.inside.rows c.self.inside.used_weight c.self.inside.cap c.self.invariant c.args.self.now c.self.view_is c.in-Some.ensures.valid c.args.key c.in-Some.place c.in-Some.ensures.finds c.args.«data» c.args.weight c.in-Some.ensures.finds.0.weight c.replace-replaced.new.self c.set_weight.new.self (at_valued c.self.inside.rows c.self.inside.used_weight c.self.inside.cap c.self.invariant c.args.self.now c.self.view_is c.in-Some.ensures.valid c.args.key c.in-Some.place c.in-Some.ensures.finds c.args.«data» c.replace-replaced.new.self c.replace-replaced.ensures.rows) c.set_weight.ensures) c.promote.ensures))
