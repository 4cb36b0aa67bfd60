use Rattle.std.proofs.Common.{subst, sym}
use Rattle.lru_segmented.specs.SegmentedUnit.{Admits}
use Rattle.lru_segmented.proofs.UnitPutting.{put_admits, put_refused}
use Rattle.lru_segmented.proofs.segmented_unit.SegmentedUnit.put.Goals as goal
use Rattle.lru_segmented.proofs.segmented_unit.SegmentedUnit.put.Goals.{in-Ok, in-Err}

pub returns : goal.returns
returns g c =
    elim c.match-put.branch [
      | in-Ok w ↦
          subst (λ r. Admits c.args.self.now c.args.key c.args.«data» c.args.weight r c.put.new.self) (sym w.result-is)
          (put_admits c.self.inside.cache c.args.self.now c.self.view_is c.requires.valid c.args.key c.args.«data» c.args.weight c.requires.allowed c.put.new.self _ _ w.in-Ok.was w.in-Ok.ensures w.weight_before.result w.weight_before.ensures)
      | in-Err w ↦
          subst (λ r. Admits c.args.self.now c.args.key c.args.«data» c.args.weight r c.put.new.self) (sym w.result-is)
          (put_refused c.self.inside.cache c.args.self.now c.self.view_is c.requires.valid c.args.key c.args.«data» c.args.weight c.requires.allowed c.put.new.self w.in-Err.refused w.in-Err.ensures)
    ]
