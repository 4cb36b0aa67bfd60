use Rattle.lru_shard.specs.Shard.{size_of, and_row}
use Rattle.std.proofs.Common.{refl, ap, ◌∙◌}
use Rattle.lru_shard.specs.declared.unit.Cause.TheVariants.{Memory}
use Rattle.lru_shard.proofs.NewRows.{refuses_first, may_memory, unplaced_in, view_vacant, kept_first, accepts_first}
use Rattle.lru_shard.proofs.UnitCalls.{may_refuse, no_weight}
use Rattle.lru_shard.proofs.unit.LruUnit.admit_new.Goals as goal

pub returns-in-Err : goal.returns-in-Err
returns-in-Err g c = refuses_first c.self.inside.rows c.self.inside.used_weight c.self.inside.cap c.self.invariant c.args.self.now c.self.view_is c.args.weight c.in-Err.cause (may_refuse c.args.self.now.cap (size_of c.args.self.now.rows) (and_row (size_of c.args.self.now.rows) c.args.weight) c.in-Err.cause c.in-Err.ensures.refused) c.args.key c.requires c.args.«data» c.new.result c.new.ensures.cause c.new.ensures.held c.args.self.now refl

pub push_first-requires : goal.push_first-requires
push_first-requires g c = unplaced_in c.self.inside.rows c.self.inside.used_weight c.self.inside.cap c.self.invariant c.args.self.now c.self.view_is c.args.key c.requires

pub returns-in-Err-push_first : goal.returns-in-Err-push_first
returns-in-Err-push_first g c = refuses_first c.self.inside.rows c.self.inside.used_weight c.self.inside.cap c.self.invariant c.args.self.now c.self.view_is c.args.weight Memory (may_memory c.self.inside.rows c.self.inside.used_weight c.self.inside.cap c.self.invariant c.args.self.now c.self.view_is c.args.weight c.in_default.ensures.allowed) c.args.key c.requires c.args.«data» c.new-in-Err-push_first.result c.new-in-Err-push_first.ensures.cause (c.new-in-Err-push_first.ensures.held ∙ c.in-Err-push_first.ensures.2) _ (view_vacant c.self.inside.rows c.self.inside.used_weight c.self.inside.cap c.self.invariant c.args.self.now c.self.view_is c.push_first.new.self (ap (λ x. x.rows) c.in-Err-push_first.ensures.3))

pub invariant_of-self-2 : goal.invariant_of-self-2
invariant_of-self-2 g c = kept_first c.self.inside.rows c.self.inside.used_weight c.self.inside.cap c.self.invariant c.args.self.now c.self.view_is c.args.key c.requires c.args.«data» c.args.weight c.in_default.ensures.allowed c.in_default-push_first.field-0 c.push_first.new.self (ap (λ x. x.rows) c.in_default-push_first.ensures.2)

pub returns : goal.returns
returns g c = (no_weight c.args.self.now.rows c.args.key c.requires c.args.self.now.cap c.args.«data» c.args.weight, accepts_first c.self.inside.rows c.self.inside.used_weight c.self.inside.cap c.self.invariant c.args.self.now c.self.view_is c.args.key c.requires c.args.«data» c.args.weight c.in_default.ensures.allowed c.in_default-push_first.field-0 c.push_first.new.self (ap (λ x. x.rows) c.in_default-push_first.ensures.2))
