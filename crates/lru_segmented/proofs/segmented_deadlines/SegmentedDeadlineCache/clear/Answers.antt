use Rattle.std.proofs.Common.{subst}
use Rattle.lru_segmented.specs.Segmented.{LetsGo}
use Rattle.lru_segmented.proofs.segmented_deadlines.SegmentedDeadlineCache.clear.Goals as goal

pub returns : goal.returns
returns g c = subst (λ x. LetsGo (λ p e q. goal.F-step g p e tt q) c.args.visit 0 0 x c.clear.new.self) c.self.view_is c.clear.ensures
