use Rattle.lru_segmented.proofs.Walked.{no_request}
use Rattle.lru_segmented.proofs.laws.no_request_evicts.Goals as goal

pub returns : goal.returns
returns g c = no_request g.K.PartialEq.eq (λ p x q. goal.F-step g p x tt q) (goal.M-post g)
