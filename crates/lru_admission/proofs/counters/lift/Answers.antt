use Rattle.std.proofs.Common.{◌/◌, arith}
use Rattle.lru_admission.proofs.Packed.{length-counts, lifted-low, lifted-high}
use Rattle.lru_admission.proofs.counters.lift.Goals as goal
use Rattle.lru_admission.proofs.counters.lift.Goals.{then-counter-eq0, else-counter-eq0}

pub bounds-bytes-counter : goal.bounds-bytes-counter
bounds-bytes-counter c = omega (arith, length-counts c.args.bytes.now)

pub bounds-bytes-counter-2 : goal.bounds-bytes-counter-2
bounds-bytes-counter-2 c = omega (arith, length-counts c.args.bytes.now)

pub returns : goal.returns
returns c =
    let bytes = c.args.bytes.now in
    let i = c.args.counter / 2 in
    elim c.if-counter-eq0.branch [
      | then-counter-eq0 w ↦ lifted-low bytes c.args.counter i c.args.level c.if-counter-eq0.bytes (omega arith) (omega arith) c.requires.level
      | else-counter-eq0 w ↦ lifted-high bytes c.args.counter i c.args.level c.if-counter-eq0.bytes (omega arith) (omega arith) c.requires.level
    ]
