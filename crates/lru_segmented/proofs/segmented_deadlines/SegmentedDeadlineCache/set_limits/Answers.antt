use Rattle.std.proofs.Common.{subst}
use Rattle.lru_segmented.specs.Segmented.{Limits}
use Rattle.lru_segmented.proofs.segmented_deadlines.SegmentedDeadlineCache.set_limits.Goals as goal

pub returns : goal.returns
returns g c = subst (λ x. Limits (λ p e q. goal.F-step g p e tt q) c.args.visit x c.args.most_weight c.args.most_entries c.args.most_protected c.set_limits.new.self) c.self.view_is c.set_limits.ensures
