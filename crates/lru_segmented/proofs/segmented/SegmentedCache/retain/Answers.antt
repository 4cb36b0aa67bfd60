use Rattle.std.proofs.Common.{arith}
use Rattle.lru_segmented.proofs.Retained.{retains_all}
use Rattle.lru_segmented.proofs.segmented.SegmentedCache.retain.Goals as goal

pub returns : goal.returns
returns g c = retains_all _ _ _ _ _ _ _ c.retain_last.ensures (omega (arith, c.len-most.ensures.value))
