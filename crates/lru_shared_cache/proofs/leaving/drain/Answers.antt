use Rattle.std.proofs.Common.{of_calls}
use Rattle.lru_shared_cache.proofs.Parted.{none_drained, one_drained, all_drained, first_fewer}
use Rattle.lru_shared_cache.proofs.leaving.drain.Goals as goal

pub loop-first-init : goal.loop-first-init
loop-first-init g c = (c.requires, none_drained (λ p x q. goal.F-step g p x tt q) c.args.visit c.args.cache.now)

pub loop-first-smaller : goal.loop-first-smaller
loop-first-smaller g c = first_fewer c.loop-first.cache c.pop_first.new.self c.in-Some.first c.in-Some.ensures

pub loop-first-preserved : goal.loop-first-preserved
loop-first-preserved g c = (search of_calls parts 8, one_drained c.len-len.ensures.valid.placed c.loop-first.invariant.1 c.in-Some.ensures c.visit.new.self c.visit.ensures)

pub returns-clause-shown : goal.returns-clause-shown
returns-clause-shown g c = (all_drained c.len-len.ensures.valid.placed c.loop-first.invariant.1 c.in_default.ensures).0

pub returns-clause-none : goal.returns-clause-none
returns-clause-none g c = (all_drained c.len-len.ensures.valid.placed c.loop-first.invariant.1 c.in_default.ensures).1
