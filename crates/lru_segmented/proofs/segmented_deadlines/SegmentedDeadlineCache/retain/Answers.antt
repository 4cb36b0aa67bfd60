use Rattle.std.proofs.Common.{subst}
use Rattle.lru_segmented.specs.Retained.{Retains}
use Rattle.lru_segmented.proofs.segmented_deadlines.SegmentedDeadlineCache.retain.Goals as goal

pub returns : goal.returns
returns g c = subst (λ x. Retains (λ p k v w b q. goal.F-step g p k v w b q) c.args.keep x c.retain.new.self) c.self.view_is c.retain.ensures
