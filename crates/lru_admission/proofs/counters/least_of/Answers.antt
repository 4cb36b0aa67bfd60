use Rattle.std.proofs.Common.{arith}
use Rattle.lru_admission.specs.Sketch.{least_of}
use Rattle.lru_admission.proofs.Packed.{length-counts}
use Rattle.lru_admission.proofs.counters.least_of.Goals as goal

pub count_at-first-requires : goal.count_at-first-requires
count_at-first-requires c = omega (arith, length-counts c.args.bytes.now)

pub count_at-second-requires : goal.count_at-second-requires
count_at-second-requires c = omega (arith, length-counts c.args.bytes.now)

pub count_at-third-requires : goal.count_at-third-requires
count_at-third-requires c = omega (arith, length-counts c.args.bytes.now)

pub count_at-fourth-requires : goal.count_at-fourth-requires
count_at-fourth-requires c = omega (arith, length-counts c.args.bytes.now)

pub returns-clause-least : goal.returns-clause-least
unfolding least_of
returns-clause-least c = let long = length-counts c.args.bytes.now in cc
