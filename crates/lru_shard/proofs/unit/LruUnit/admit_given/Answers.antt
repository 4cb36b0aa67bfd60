use Rattle.std.proofs.Common.{ap, ◌∙◌}
use Rattle.lru_rows.specs.Rows.{row_of as placed_of}
use Rattle.std.specs.Prelude.{nat_eq}
use Rattle.lru_shard.proofs.NewRows.{vacant_same, view_vacant, put_before, unplaced_in, light_given, heavy_given, kept_first, accepts_first}
use Rattle.lru_shard.proofs.UnitCalls.{given_heavy, given_fits}
use Rattle.lru_shard.proofs.unit.LruUnit.admit_given.Goals as goal

pub returns-then-weight-self : goal.returns-then-weight-self
returns-then-weight-self g c = (given_heavy _ c.args.self.now c.new-then-weight-self.result.cause c.new-then-weight-self.result.weight c.new-then-weight-self.result.held c.admit_data-data.result c.admit_data-data.ensures c.new-then-weight-self.ensures.cause (c.new-then-weight-self.ensures.weight ∙ c.max-weight.ensures) c.new-then-weight-self.ensures.held (heavy_given c.self.inside.rows c.self.inside.used_weight c.self.inside.cap c.self.invariant c.args.self.now c.self.view_is c.in_default.ensures.allowed c.admit_data-data.result.1 c.max-weight.result c.max-weight.ensures c.if-weight-self.true), view_vacant c.self.inside.rows c.self.inside.used_weight c.self.inside.cap c.self.invariant c.args.self.now c.self.view_is c.make_vacancy.new.self (vacant_same c.self.inside.rows c.make_vacancy.new.self c.make_vacancy.result c.make_vacancy.ensures))

pub put_vacant-requires-clause-absent : goal.put_vacant-requires-clause-absent
put_vacant-requires-clause-absent g c = ap (λ ps. placed_of nat_eq ps c.args.key) (vacant_same c.self.inside.rows c.make_vacancy.new.self c.make_vacancy.result c.make_vacancy.ensures) ∙ unplaced_in c.self.inside.rows c.self.inside.used_weight c.self.inside.cap c.self.invariant c.args.self.now c.self.view_is c.args.key c.requires.absent

pub invariant_of-self-2 : goal.invariant_of-self-2
invariant_of-self-2 g c = kept_first c.self.inside.rows c.self.inside.used_weight c.self.inside.cap c.self.invariant c.args.self.now c.self.view_is c.args.key c.requires.absent c.admit_data-data.result.0 c.max-weight.result (light_given c.self.inside.rows c.self.inside.used_weight c.self.inside.cap c.self.invariant c.args.self.now c.self.view_is c.in_default.ensures.allowed c.max-weight.result c.if-weight-self.false) c.put_vacant.ensures.0 c.put_vacant.new.rows (put_before c.self.inside.rows c.make_vacancy.new.self c.put_vacant.new.rows c.args.key c.admit_data-data.result.0 c.max-weight.result c.make_vacancy.result c.make_vacancy.ensures c.put_vacant.ensures)

pub returns : goal.returns
returns g c = given_fits _ c.args.self.now c.args.key c.admit_data-data.result c.max-weight.result _ c.admit_data-data.ensures c.max-weight.ensures (accepts_first c.self.inside.rows c.self.inside.used_weight c.self.inside.cap c.self.invariant c.args.self.now c.self.view_is c.args.key c.requires.absent c.admit_data-data.result.0 c.max-weight.result (light_given c.self.inside.rows c.self.inside.used_weight c.self.inside.cap c.self.invariant c.args.self.now c.self.view_is c.in_default.ensures.allowed c.max-weight.result c.if-weight-self.false) c.put_vacant.ensures.0 c.put_vacant.new.rows (put_before c.self.inside.rows c.make_vacancy.new.self c.put_vacant.new.rows c.args.key c.admit_data-data.result.0 c.max-weight.result c.make_vacancy.result c.make_vacancy.ensures c.put_vacant.ensures))
