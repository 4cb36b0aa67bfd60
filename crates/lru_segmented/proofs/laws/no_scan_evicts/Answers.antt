use Rattle.lru_segmented.proofs.Walked.{no_scan, end_only}
use Rattle.lru_segmented.proofs.laws.no_scan_evicts.Goals as goal

pub returns-clause-fitting : goal.returns-clause-fitting
returns-clause-fitting g c = no_scan g.K.PartialEq.eq (λ p x q. goal.F-step g p x tt q)

pub returns-clause-heavier : goal.returns-clause-heavier
returns-clause-heavier g c = end_only g.K.PartialEq.eq (λ p x q. goal.F-step g p x tt q)
