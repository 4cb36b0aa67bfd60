use Rattle.std.proofs.Common.{ℕ, ap, arith}
use Rattle.lru_segmented.specs.Segmented.{Segmented}
use Rattle.lru_segmented.proofs.UnitPutting.{new_long, new_heavy, new_light}
use Rattle.lru_segmented.proofs.segmented_unit.SegmentedUnit.allow_new.Goals as goal

pub overflow_sub-cap : goal.overflow_sub-cap
overflow_sub-cap g c = omega (arith, c.requires.valid.valid.fits.0, c.cap.ensures, c.used_weight.ensures)

pub returns-then-len-most_entries-clause-refused : goal.returns-then-len-most_entries-clause-refused
returns-then-len-most_entries-clause-refused g c = new_long c.args.self.now c.requires.valid c.args.key c.args.weight c.requires.absent (omega (arith, c.if-len-most_entries.true, c.requires.len, c.most_entries.ensures, ap (λ (x : Segmented ℕ g.row.T.Denot g.row.S.Denot). x.most_entries) c.self.view_is))

pub returns-then-weight-cap-clause-refused : goal.returns-then-weight-cap-clause-refused
returns-then-weight-cap-clause-refused g c = new_heavy c.args.self.now c.requires.valid c.args.key c.args.weight c.requires.absent (omega (arith, c.if-len-most_entries.false, c.requires.len, c.most_entries.ensures, ap (λ (x : Segmented ℕ g.row.T.Denot g.row.S.Denot). x.most_entries) c.self.view_is)) (omega (arith, c.if-weight-cap.true, c.cap.ensures, c.used_weight.ensures))

pub returns-clause-allowed : goal.returns-clause-allowed
returns-clause-allowed g c = new_light c.args.self.now c.requires.valid c.args.key c.args.weight c.requires.absent (omega (arith, c.if-len-most_entries.false, c.requires.len, c.most_entries.ensures, ap (λ (x : Segmented ℕ g.row.T.Denot g.row.S.Denot). x.most_entries) c.self.view_is)) (omega (arith, c.if-weight-cap.false, c.cap.ensures, c.used_weight.ensures))
