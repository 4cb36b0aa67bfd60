use Rattle.std.proofs.Common.{arith}
use Rattle.lru_admission.proofs.Estimates.{own_raised, least-raised_above, least-halved}
use Rattle.lru_admission.proofs.Runs.{never_too_low}
use Rattle.lru_admission.proofs.sketch_laws.estimates_law.Goals as goal

pub returns-clause-counted : goal.returns-clause-counted
returns-clause-counted c = never_too_low

pub returns-clause-used : goal.returns-clause-used
returns-clause-used c = λ s hash is. record { own = own_raised s.counts hash (omega arith) is.small; others = least-raised_above s.counts hash }

pub returns-clause-halved : goal.returns-clause-halved
returns-clause-halved c = λ s hash. least-halved s.counts hash
