use Rattle.std.proofs.Common.{arith}
use Rattle.lru_admission.proofs.Packed.{All-counts}
use Rattle.lru_admission.proofs.counters.len_of.Goals as goal

pub returns-clause-small : goal.returns-clause-small
returns-clause-small c = All-counts c.args.bytes.now (λ i. omega (arith, c.type_inv.bytes i))
