use Rattle.std.proofs.Common.{rules, subst}
use Rattle.lru_segmented.specs.SegmentedDeadlines.{Sweeps}
use Rattle.lru_segmented.proofs.Answered.{sweeps}
use Rattle.lru_segmented.proofs.segmented_deadlines.SegmentedDeadlineCache.sweep.Goals as goal

pub returns : goal.returns
returns g c =
    subst (λ x. Sweeps (λ p e q. goal.F-step g p e tt q) c.args.visit c.args.time c.args.most x c.retain_last.new.self) c.self.view_is
    (sweeps c.args.time _ _ (λ p e q. goal.F-step g p e tt q) c.args.visit c.args.most c.self.inside.cache c.retain_last.new.self c.retain_last.ensures (λ k u w b q called. search rules))
