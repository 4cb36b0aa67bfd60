use Rattle.std.proofs.Common.{of_calls, ◌∙◌}
use Rattle.lru_owned_cache.proofs.DrainedEntries.{one_drained, all_drained}
use Rattle.lru_owned_cache.proofs.draining.drain.Goals as goal

pub loop-first-preserved : goal.loop-first-preserved
loop-first-preserved g c = (search of_calls parts 8, one_drained c.loop-first.invariant.1 c.in-Some.ensures.pops c.visit.new.self c.visit.ensures, c.in-Some.ensures.hashes ∙ c.loop-first.invariant.2)

pub returns-clause-drains : goal.returns-clause-drains
returns-clause-drains g c = all_drained c.loop-first.invariant.1 c.in_default.ensures.pops

pub returns-clause-hashes : goal.returns-clause-hashes
returns-clause-hashes g c = c.in_default.ensures.hashes ∙ c.loop-first.invariant.2
