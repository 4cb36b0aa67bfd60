use Rattle.lru_shared_segmented.proofs.Got.{key_back, value_back}
use Rattle.lru_shared_segmented.proofs.shared.SharedSegmentedCache.put.Goals as goal

pub returns-clause-key : goal.returns-clause-key
returns-clause-key g c = key_back (λ p x q. goal.F-step g p x tt q) c.args.visit g.K.PartialEq.eq c.put.ensures.acts.0 c.put.ensures.acts.1.0 c.args.key c.args.value c.args.weight c.put.result c.put.ensures.acts.1.1

pub returns-clause-value : goal.returns-clause-value
returns-clause-value g c = value_back (λ p x q. goal.F-step g p x tt q) c.args.visit g.K.PartialEq.eq c.put.ensures.acts.0 c.put.ensures.acts.1.0 c.args.key c.args.value c.args.weight c.put.result c.put.ensures.acts.1.1
