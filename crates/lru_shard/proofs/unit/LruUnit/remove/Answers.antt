use Rattle.std.proofs.Common.{◌∙◌}
use Rattle.lru_shard.specs.Row.{pair_of}
use Rattle.lru_shard.proofs.Views.{unremoved, nothing_found, out_light, kept_gone, answer_gone, view_gone}
use Rattle.lru_shard.proofs.unit.LruUnit.remove.Goals as goal

pub returns-in_err-taken-clause-answer : goal.returns-in_err-taken-clause-answer
returns-in_err-taken-clause-answer g c = c.from_residual.ensures ∙ nothing_found c.self.inside.rows c.self.inside.used_weight c.self.inside.cap c.self.invariant c.args.self.now c.self.view_is pair_of c.args.key c.in_err-taken.ensures.removes.0

pub returns-in_err-taken-clause-rows : goal.returns-in_err-taken-clause-rows
returns-in_err-taken-clause-rows g c = unremoved c.self.inside.rows c.self.inside.used_weight c.self.inside.cap c.self.invariant c.args.self.now c.self.view_is c.args.key c.in_err-taken.ensures.removes.0 c.remove.new.self c.in_err-taken.ensures.removes.1

pub overflow_sub-self : goal.overflow_sub-self
overflow_sub-self g c = out_light c.self.inside.rows c.self.inside.used_weight c.self.inside.cap c.self.invariant c.args.self.now c.self.view_is c.args.key c.in_ok-taken.ensures.valid c.in_ok-taken.taken c.remove.new.self c.in_ok-taken.ensures.removes

pub invariant_of-self-2 : goal.invariant_of-self-2
invariant_of-self-2 g c = kept_gone c.self.inside.rows c.self.inside.used_weight c.self.inside.cap c.self.invariant c.args.self.now c.self.view_is c.args.key c.in_ok-taken.ensures.valid c.in_ok-taken.taken c.remove.new.self c.in_ok-taken.ensures.removes

pub returns-clause-answer : goal.returns-clause-answer
returns-clause-answer g c = answer_gone c.self.inside.rows c.self.inside.used_weight c.self.inside.cap c.self.invariant c.args.self.now c.self.view_is c.args.key c.in_ok-taken.ensures.valid c.in_ok-taken.taken c.remove.new.self c.in_ok-taken.ensures.removes

pub returns-clause-rows : goal.returns-clause-rows
returns-clause-rows g c = view_gone c.self.inside.rows c.self.inside.used_weight c.self.inside.cap c.self.invariant c.args.self.now c.self.view_is c.args.key c.in_ok-taken.ensures.valid c.in_ok-taken.taken c.remove.new.self c.in_ok-taken.ensures.removes
