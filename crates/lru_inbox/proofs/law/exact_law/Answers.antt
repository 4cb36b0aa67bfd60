use Rattle.lru_inbox.proofs.Counting.{weights_exact, replies_exact}
use Rattle.lru_inbox.proofs.law.exact_law.Goals as goal

pub returns-clause-weights : goal.returns-clause-weights
returns-clause-weights g c = weights_exact

pub returns-clause-replies : goal.returns-clause-replies
returns-clause-replies g c = replies_exact g.K.Clone.is_clone
