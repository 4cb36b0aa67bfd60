use Rattle.lru_shard.specs.Shard.{size_of, and_row}
use Rattle.std.proofs.Common.{refl, ap, ◌∙◌}
use Rattle.lru_rows.specs.Rows.{row_of as placed_of}
use Rattle.std.specs.Prelude.{nat_eq}
use Rattle.lru_shard.specs.declared.unit.Cause.TheVariants.{Memory}
use Rattle.lru_shard.specs.Row.{row_of}
use Rattle.lru_shard.proofs.NewRows.{vacant_same, view_vacant, put_before, unplaced_in, may_first, may_memory, kept_first, accepts_first}
use Rattle.lru_shard.proofs.UnitCalls.{may_refuse}
use Rattle.lru_shard.proofs.Pulls.{not_gone, nothing_pulled, pull_refused, pulled}
use Rattle.lru_shard.proofs.unit.LruUnit.pull.Goals as goal

pub returns-in-Err : goal.returns-in-Err
returns-in-Err g c = pull_refused c.args.self.now _ c.args.from.now c.args.from.now c.args.key c.in-Some.weight c.in-Some.ensures c.in-Err.cause (may_first c.self.inside.rows c.self.inside.used_weight c.self.inside.cap c.self.invariant c.args.self.now c.self.view_is c.in-Some.weight c.in-Err.cause (may_refuse c.args.self.now.cap (size_of c.args.self.now.rows) (and_row (size_of c.args.self.now.rows) c.in-Some.weight) c.in-Err.cause c.in-Err.ensures.refused) c.args.key c.requires) refl refl

pub returns-then-is_err : goal.returns-then-is_err
returns-then-is_err g c = pull_refused c.args.self.now _ c.args.from.now c.args.from.now c.args.key c.in-Some.weight c.in-Some.ensures Memory (may_first c.self.inside.rows c.self.inside.used_weight c.self.inside.cap c.self.invariant c.args.self.now c.self.view_is c.in-Some.weight Memory (may_memory c.self.inside.rows c.self.inside.used_weight c.self.inside.cap c.self.invariant c.args.self.now c.self.view_is c.in-Some.weight c.in_default-allow.ensures.allowed) c.args.key c.requires) (view_vacant c.self.inside.rows c.self.inside.used_weight c.self.inside.cap c.self.invariant c.args.self.now c.self.view_is c.make_vacancy.new.self (vacant_same c.self.inside.rows c.make_vacancy.new.self c.make_vacancy.result c.make_vacancy.ensures)) refl

pub put_vacant-requires-clause-absent : goal.put_vacant-requires-clause-absent
put_vacant-requires-clause-absent g c = ap (λ ps. placed_of nat_eq ps c.args.key) (vacant_same c.self.inside.rows c.make_vacancy.new.self c.make_vacancy.result c.make_vacancy.ensures) ∙ unplaced_in c.self.inside.rows c.self.inside.used_weight c.self.inside.cap c.self.invariant c.args.self.now c.self.view_is c.args.key c.requires

pub invariant_of-self-2 : goal.invariant_of-self-2
invariant_of-self-2 g c = kept_first c.self.inside.rows c.self.inside.used_weight c.self.inside.cap c.self.invariant c.args.self.now c.self.view_is c.args.key c.requires c.in-Some-remove.«data» c.in-Some.weight c.in_default-allow.ensures.allowed c.put_vacant.ensures.0 c.put_vacant.new.rows (put_before c.self.inside.rows c.make_vacancy.new.self c.put_vacant.new.rows c.args.key c.in-Some-remove.«data» c.in-Some.weight c.make_vacancy.result c.make_vacancy.ensures c.put_vacant.ensures)

pub returns : goal.returns
returns g c = pulled c.args.self.now _ c.args.from.now c.remove.new.self c.args.key c.in-Some.weight c.in-Some.ensures c.in-Some-remove.«data» c.in-Some-remove.field-0-1 c.in-Some-remove.ensures.answer (accepts_first c.self.inside.rows c.self.inside.used_weight c.self.inside.cap c.self.invariant c.args.self.now c.self.view_is c.args.key c.requires c.in-Some-remove.«data» c.in-Some.weight c.in_default-allow.ensures.allowed c.put_vacant.ensures.0 c.put_vacant.new.rows (put_before c.self.inside.rows c.make_vacancy.new.self c.put_vacant.new.rows c.args.key c.in-Some-remove.«data» c.in-Some.weight c.make_vacancy.result c.make_vacancy.ensures c.put_vacant.ensures)) c.in-Some-remove.ensures.rows

pub returns-in_default : goal.returns-in_default
returns-in_default g c = nothing_pulled c.args.self.now c.args.self.now c.args.from.now c.args.from.now c.args.key c.in_default.ensures refl refl

pub unreachable-requires : goal.unreachable-requires
unreachable-requires g c = not_gone (row_of c.args.from.now.rows c.args.key) c.in-Some.weight c.in-Some.ensures c.in_default-remove.ensures.answer
