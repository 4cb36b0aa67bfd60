use Rattle.std.proofs.Common.{ap, ◌∙◌}
use Rattle.lru_rows.specs.Rows.{row_of as placed_of}
use Rattle.std.specs.Prelude.{nat_eq}
use Rattle.lru_shard.proofs.NewRows.{vacant_same, put_before, unplaced_in, kept_first, accepts_first}
use Rattle.lru_shard.proofs.unit.LruUnit.admit_made.Goals as goal

pub put_vacant-requires-clause-absent : goal.put_vacant-requires-clause-absent
put_vacant-requires-clause-absent g c = ap (λ ps. placed_of nat_eq ps c.args.key) (vacant_same c.self.inside.rows c.make_vacancy.new.self c.make_vacancy.result c.make_vacancy.ensures) ∙ unplaced_in c.self.inside.rows c.self.inside.used_weight c.self.inside.cap c.self.invariant c.args.self.now c.self.view_is c.args.key c.requires.absent

pub invariant_of-self-2 : goal.invariant_of-self-2
invariant_of-self-2 g c = kept_first c.self.inside.rows c.self.inside.used_weight c.self.inside.cap c.self.invariant c.args.self.now c.self.view_is c.args.key c.requires.absent c.admit_data-data.result c.args.weight c.in_default.ensures.allowed c.put_vacant.ensures.0 c.put_vacant.new.rows (put_before c.self.inside.rows c.make_vacancy.new.self c.put_vacant.new.rows c.args.key c.admit_data-data.result c.args.weight c.make_vacancy.result c.make_vacancy.ensures c.put_vacant.ensures)

pub returns : goal.returns
returns g c = (c.admit_data-data.result, (c.admit_data-data.ensures, accepts_first c.self.inside.rows c.self.inside.used_weight c.self.inside.cap c.self.invariant c.args.self.now c.self.view_is c.args.key c.requires.absent c.admit_data-data.result c.args.weight c.in_default.ensures.allowed c.put_vacant.ensures.0 c.put_vacant.new.rows (put_before c.self.inside.rows c.make_vacancy.new.self c.put_vacant.new.rows c.args.key c.admit_data-data.result c.args.weight c.make_vacancy.result c.make_vacancy.ensures c.put_vacant.ensures)))
