use Rattle.std.proofs.Common.{◌+◌, ◌*◌, length, min, sym, ◌∙◌, ap, arith}
use Rattle.lru_admission.specs.Representation.{counts_in}
use Rattle.lru_admission.proofs.Packed.{length-counts}
use Rattle.lru_admission.proofs.Kept.{raised-steps}
use Rattle.lru_admission.proofs.counters.raise.Goals as goal

pub lift-requires-clause-counter : goal.lift-requires-clause-counter
lift-requires-clause-counter c = omega (arith, length-counts c.args.bytes.now)

pub lift-requires-2-clause-counter : goal.lift-requires-2-clause-counter
lift-requires-2-clause-counter c = omega (arith, length-counts c.lift.new.bytes)

pub lift-requires-3-clause-counter : goal.lift-requires-3-clause-counter
lift-requires-3-clause-counter c = omega (arith, length-counts c.lift-2.new.bytes)

pub lift-requires-4-clause-counter : goal.lift-requires-4-clause-counter
lift-requires-4-clause-counter c = omega (arith, length-counts c.lift-3.new.bytes)

pub returns : goal.returns
returns c =
    raised-steps (counts_in c.args.bytes.now) (counts_in c.lift.new.bytes) (counts_in c.lift-2.new.bytes) (counts_in c.lift-3.new.bytes) (counts_in c.lift-4.new.bytes)
    c.args.hash c.mix-bits.result c.min-level.result (2 * length c.args.bytes.now) c.pick.result c.pick-2.result c.pick-3.result c.pick-4.result
    (sym (length-counts c.args.bytes.now)) c.mix-bits.ensures (c.min-level.ensures ∙ ap (λ n. min (n + 1) 15) c.least_of.ensures.least)
    c.pick.ensures.counter c.pick-2.ensures.counter c.pick-3.ensures.counter c.pick-4.ensures.counter
    c.lift.ensures c.lift-2.ensures c.lift-3.ensures c.lift-4.ensures
