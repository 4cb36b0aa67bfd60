use Rattle.std.proofs.Common.{sym, arith}
use Rattle.std.specs.Prelude.{nat_eq}
use Rattle.lru_segmented.specs.Segmented.{entries}
use Rattle.lru_owned_cache.specs.Cache.{entry_of}
use Rattle.lru_segmented.proofs.UnitPutting.{none_found, one_found, old_within, old_heavy, old_light}
use Rattle.lru_segmented.proofs.segmented_unit.SegmentedUnit.allow.Goals as goal

pub allow_new-requires-clause-absent : goal.allow_new-requires-clause-absent
allow_new-requires-clause-absent g c = none_found (entry_of nat_eq (entries c.args.self.now) c.args.key) (sym c.in_default.ensures)

pub overflow_sub-rest : goal.overflow_sub-rest
overflow_sub-rest g c =
    let one = one_found (entry_of nat_eq (entries c.args.self.now) c.args.key) c.in-Some.old (sym c.in-Some.ensures) in
    omega (arith, old_within c.args.self.now c.len-len.ensures.valid c.args.key c.args.weight one.0 one.1.0, one.1.1, c.used_weight.ensures)

pub overflow_sub-cap : goal.overflow_sub-cap
overflow_sub-cap g c = omega (arith, c.len-len.ensures.valid.valid.fits.0, c.cap.ensures, c.used_weight.ensures)

pub returns-then-weight-cap-clause-refused : goal.returns-then-weight-cap-clause-refused
returns-then-weight-cap-clause-refused g c =
    let one = one_found (entry_of nat_eq (entries c.args.self.now) c.args.key) c.in-Some.old (sym c.in-Some.ensures) in
    old_heavy c.args.self.now c.len-len.ensures.valid c.args.key c.args.weight one.0 one.1.0 (omega (arith, one.1.1, c.if-weight-cap.true, c.cap.ensures, c.used_weight.ensures))

pub returns-clause-allowed : goal.returns-clause-allowed
returns-clause-allowed g c =
    let one = one_found (entry_of nat_eq (entries c.args.self.now) c.args.key) c.in-Some.old (sym c.in-Some.ensures) in
    old_light c.args.self.now c.len-len.ensures.valid c.args.key c.args.weight one.0 one.1.0 (omega (arith, one.1.1, c.if-weight-cap.false, c.cap.ensures, c.used_weight.ensures))
