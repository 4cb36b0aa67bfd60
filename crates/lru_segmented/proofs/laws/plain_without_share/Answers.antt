use Rattle.lru_segmented.proofs.Plain.{is_plain}
use Rattle.lru_segmented.proofs.laws.plain_without_share.Goals as goal

pub returns : goal.returns
returns g c = is_plain g.K.PartialEq.eq (λ p x q. goal.F-step g p x tt q) (goal.U-post g) (goal.M-post g)
