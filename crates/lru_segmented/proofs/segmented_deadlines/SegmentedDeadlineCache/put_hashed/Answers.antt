use Rattle.std.proofs.Common.{subst}
use Rattle.lru_segmented.specs.Segmented.{Puts}
use Rattle.lru_segmented.proofs.segmented_deadlines.SegmentedDeadlineCache.put_hashed.Goals as goal

pub returns : goal.returns
returns g c = subst (λ x. Puts g.K.PartialEq.eq (λ p e q. goal.F-step g p e tt q) c.args.visit x c.args.key c.args.until c.args.weight c.put_hashed.result c.put_hashed.new.self) c.self.view_is c.put_hashed.ensures
