use Rattle.lru_segmented.proofs.Retained.{kept_retained, view_retained}
use Rattle.lru_segmented.proofs.segmented.SegmentedCache.retain_last.Goals as goal

pub invariant_of-self : goal.invariant_of-self
invariant_of-self g c = kept_retained c.retain_last.ensures c.self.inside.most_weight c.self.inside.most_entries c.self.inside.most_protected c.self.invariant

pub returns : goal.returns
returns g c = view_retained c.retain_last.ensures c.self.inside.most_weight c.self.inside.most_entries c.self.inside.most_protected c.args.self.now c.self.view_is
