use Rattle.std.proofs.Common.{◌∙◌}
use Rattle.lru_shard.proofs.Views.{unpopped, answer_unpopped, pop_light, kept_popped, answer_popped, view_popped}
use Rattle.lru_shard.proofs.unit.LruUnit.evict.Goals as goal

pub returns-in_err-taken-clause-answer : goal.returns-in_err-taken-clause-answer
returns-in_err-taken-clause-answer g c = c.from_residual.ensures ∙ answer_unpopped c.self.inside.rows c.self.inside.used_weight c.self.inside.cap c.self.invariant c.args.self.now c.self.view_is c.in_err-taken.ensures.pops.0

pub returns-in_err-taken-clause-rows : goal.returns-in_err-taken-clause-rows
returns-in_err-taken-clause-rows g c = unpopped c.self.inside.rows c.self.inside.used_weight c.self.inside.cap c.self.invariant c.args.self.now c.self.view_is c.in_err-taken.ensures.pops.0 c.pop_last.new.self c.in_err-taken.ensures.pops.1

pub overflow_sub-self : goal.overflow_sub-self
overflow_sub-self g c = pop_light c.self.inside.rows c.self.inside.used_weight c.self.inside.cap c.self.invariant c.args.self.now c.self.view_is c.in_ok-taken.taken c.pop_last.new.self c.in_ok-taken.ensures.pops

pub invariant_of-self-2 : goal.invariant_of-self-2
invariant_of-self-2 g c = kept_popped c.self.inside.rows c.self.inside.used_weight c.self.inside.cap c.self.invariant c.args.self.now c.self.view_is c.in_ok-taken.taken c.pop_last.new.self c.in_ok-taken.ensures.pops

pub returns-clause-answer : goal.returns-clause-answer
returns-clause-answer g c = answer_popped c.self.inside.rows c.self.inside.used_weight c.self.inside.cap c.self.invariant c.args.self.now c.self.view_is c.in_ok-taken.taken c.pop_last.new.self c.in_ok-taken.ensures.pops

pub returns-clause-rows : goal.returns-clause-rows
returns-clause-rows g c = view_popped c.self.inside.rows c.self.inside.used_weight c.self.inside.cap c.self.invariant c.args.self.now c.self.view_is c.in_ok-taken.taken c.pop_last.new.self c.in_ok-taken.ensures.pops
