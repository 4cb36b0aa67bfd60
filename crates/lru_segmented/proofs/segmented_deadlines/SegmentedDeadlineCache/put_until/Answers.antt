use Rattle.std.proofs.Common.{subst}
use Rattle.lru_deadlines.specs.Deadlines.{until}
use Rattle.lru_segmented.specs.Segmented.{Puts}
use Rattle.lru_segmented.proofs.segmented_deadlines.SegmentedDeadlineCache.put_until.Goals as goal

pub returns : goal.returns
returns g c = subst (λ x. Puts g.K.PartialEq.eq (λ p e q. goal.F-step g p e tt q) c.args.visit x c.args.key (until c.args.value c.args.deadline) c.args.weight c.put.result c.put.new.self) c.self.view_is c.put.ensures
