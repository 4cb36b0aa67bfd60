use Rattle.std.proofs.Common.{of_calls}
use Rattle.lru_segmented.proofs.Drained.{none_drained, fewer_left, one_drained, all_drained}
use Rattle.lru_segmented.proofs.segmented.SegmentedCache.drain.Goals as goal

pub loop-first-init : goal.loop-first-init
loop-first-init g c = (c.requires, none_drained (λ p x q. goal.F-step g p x tt q) c.args.visit c.args.self.now)

pub visit-requires : goal.visit-requires
visit-requires g c = search of_calls parts 8

pub loop-first-smaller : goal.loop-first-smaller
loop-first-smaller g c = fewer_left (λ p x q. goal.F-step g p x tt q) c.args.visit c.args.self.now c.loop-first.visit c.loop-first.self c.loop-first.invariant.1 c.in-Some.first c.pop_first.new.self c.in-Some.ensures.pops

pub loop-first-preserved : goal.loop-first-preserved
loop-first-preserved g c = (
  search of_calls parts 8,
  one_drained (λ p x q. goal.F-step g p x tt q) c.args.visit c.args.self.now c.loop-first.visit c.loop-first.self c.loop-first.invariant.1 c.in-Some.first c.pop_first.new.self c.in-Some.ensures.pops c.visit.new.self c.visit.ensures,
)

pub returns : goal.returns
returns g c = all_drained (λ p x q. goal.F-step g p x tt q) c.args.visit c.args.self.now c.loop-first.visit c.loop-first.self c.loop-first.invariant.1 c.pop_first.new.self c.in_default.ensures.pops
