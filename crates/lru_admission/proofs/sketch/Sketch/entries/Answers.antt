use Rattle.std.proofs.Common.{arith}
use Rattle.lru_admission.proofs.Packed.{length-counts}
use Rattle.lru_admission.proofs.Kept.{is_sketch}
use Rattle.lru_admission.proofs.sketch.Sketch.entries.Goals as goal

pub returns-clause-value : goal.returns-clause-value
returns-clause-value c = rw (← c.self.view_is) (omega (arith, length-counts c.self.inside.bytes.items))

pub returns-clause-valid : goal.returns-clause-valid
returns-clause-valid c = rw (← c.self.view_is) (is_sketch c.self.inside.bytes.items c.self.inside.uses (rw (← c.deref.ensures.value) c.len_of.ensures.small) c.self.invariant)
