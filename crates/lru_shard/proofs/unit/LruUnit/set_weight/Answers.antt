use Rattle.std.proofs.Common.{refl}
use Rattle.lru_shard.proofs.PresentRows.{at_place, part_read, weight_found, declines_heavy, at_own, kept_weighted, accepts_weighted}
use Rattle.lru_shard.proofs.Views.{nothing_found, no_row_in}
use Rattle.lru_shard.proofs.NewRows.{accepts_absent}
use Rattle.lru_shard.proofs.unit.LruUnit.set_weight.Goals as goal

pub returns-in_default : goal.returns-in_default
returns-in_default g c = (nothing_found c.self.inside.rows c.self.inside.used_weight c.self.inside.cap c.self.invariant c.args.self.now c.self.view_is (λ x. x.weight) c.args.key c.in_default.ensures.finds, accepts_absent c.self.inside.rows c.self.inside.used_weight c.self.inside.cap c.self.invariant c.args.self.now c.self.view_is c.args.key (no_row_in c.self.inside.rows c.self.inside.used_weight c.self.inside.cap c.self.invariant c.args.self.now c.self.view_is c.args.key c.in_default.ensures.finds) c.args.weight)

pub overflow_sub-rest : goal.overflow_sub-rest
overflow_sub-rest g c = part_read c.self.inside.rows c.self.inside.used_weight c.self.inside.cap c.self.invariant c.args.self.now c.self.view_is c.in-Some.ensures.valid c.args.key c.in-Some.place c.in-Some.ensures.finds c.weight_at-old.result c.weight_at-old.ensures

pub returns-then-weight-self : goal.returns-then-weight-self
returns-then-weight-self g c = declines_heavy c.self.inside.rows c.self.inside.used_weight c.self.inside.cap c.self.invariant c.args.self.now c.self.view_is c.in-Some.ensures.valid c.args.key c.in-Some.place c.in-Some.ensures.finds c.weight_at-old.result c.weight_at-old.ensures c.args.weight c.if-weight-self.true

pub set_weight-requires : goal.set_weight-requires
set_weight-requires g c = at_place c.self.inside.rows c.self.inside.used_weight c.self.inside.cap c.self.invariant c.args.self.now c.self.view_is c.in-Some.ensures.valid c.args.key c.in-Some.place c.in-Some.ensures.finds

pub invariant_of-self : goal.invariant_of-self
invariant_of-self g c = kept_weighted c.self.inside.rows c.self.inside.used_weight c.self.inside.cap c.self.invariant c.args.self.now c.self.view_is c.in-Some.ensures.valid c.args.key c.in-Some.place c.in-Some.ensures.finds c.weight_at-old.result c.weight_at-old.ensures c.args.weight c.if-weight-self.false c.set_weight.new.self (at_own c.self.inside.rows c.self.inside.used_weight c.self.inside.cap c.self.invariant c.args.self.now c.self.view_is c.in-Some.ensures.valid c.args.key c.in-Some.place c.in-Some.ensures.finds c.args.weight c.set_weight.new.self c.set_weight.ensures) _ refl

pub returns : goal.returns
returns g c = (weight_found c.self.inside.rows c.self.inside.used_weight c.self.inside.cap c.self.invariant c.args.self.now c.self.view_is c.in-Some.ensures.valid c.args.key c.in-Some.place c.in-Some.ensures.finds c.weight_at-old.result c.weight_at-old.ensures, accepts_weighted c.self.inside.rows c.self.inside.used_weight c.self.inside.cap c.self.invariant c.args.self.now c.self.view_is c.in-Some.ensures.valid c.args.key c.in-Some.place c.in-Some.ensures.finds c.weight_at-old.result c.weight_at-old.ensures c.args.weight c.if-weight-self.false c.set_weight.new.self (at_own c.self.inside.rows c.self.inside.used_weight c.self.inside.cap c.self.invariant c.args.self.now c.self.view_is c.in-Some.ensures.valid c.args.key c.in-Some.place c.in-Some.ensures.finds c.args.weight c.set_weight.new.self c.set_weight.ensures))
