use Rattle.std.proofs.Common.{subst}
use Rattle.lru_segmented.specs.Segmented.{Drains}
use Rattle.lru_segmented.proofs.segmented_deadlines.SegmentedDeadlineCache.drain.Goals as goal

pub returns : goal.returns
returns g c = subst (λ x. Drains (λ p e q. goal.F-step g p e tt q) c.args.visit x c.drain.new.self) c.self.view_is c.drain.ensures
