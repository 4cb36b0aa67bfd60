use Rattle.lru_shard.specs.Shard.{size_of, and_row}
use Rattle.std.proofs.Common.{refl, ap, not, ◌∙◌}
use Rattle.lru_shard.specs.declared.unit.Cause.TheVariants.{Memory}
use Rattle.lru_shard.proofs.Views.{no_row_in, found_some, none_found}
use Rattle.lru_shard.proofs.PresentRows.{tailed_found}
use Rattle.lru_shard.proofs.NewRows.{refuses_last, may_memory, view_vacant, kept_last, accepts_last}
use Rattle.lru_shard.proofs.UnitCalls.{may_refuse}
use Rattle.lru_shard.proofs.unit.LruUnit.insert_tail.Goals as goal

pub returns-in-Err : goal.returns-in-Err
returns-in-Err g c = refuses_last c.self.inside.rows c.self.inside.used_weight c.self.inside.cap c.self.invariant c.args.self.now c.self.view_is c.args.weight c.in-Err.cause (may_refuse c.args.self.now.cap (size_of c.args.self.now.rows) (and_row (size_of c.args.self.now.rows) c.args.weight) c.in-Err.cause c.in-Err.ensures.refused) c.args.key (no_row_in c.self.inside.rows c.self.inside.used_weight c.self.inside.cap c.self.invariant c.args.self.now c.self.view_is c.args.key (none_found c.self.inside.rows.rows c.args.key c.find.result c.if-is_some.ensures c.find.ensures.finds)) c.args.«data» c.new.result c.new.ensures.cause c.new.ensures.held c.args.self.now refl

pub push_last-requires : goal.push_last-requires
push_last-requires g c = none_found c.self.inside.rows.rows c.args.key c.find.result c.if-is_some.ensures c.find.ensures.finds

pub returns-in-Err-push_last : goal.returns-in-Err-push_last
returns-in-Err-push_last g c = refuses_last c.self.inside.rows c.self.inside.used_weight c.self.inside.cap c.self.invariant c.args.self.now c.self.view_is c.args.weight Memory (may_memory c.self.inside.rows c.self.inside.used_weight c.self.inside.cap c.self.invariant c.args.self.now c.self.view_is c.args.weight c.in_default.ensures.allowed) c.args.key (no_row_in c.self.inside.rows c.self.inside.used_weight c.self.inside.cap c.self.invariant c.args.self.now c.self.view_is c.args.key (none_found c.self.inside.rows.rows c.args.key c.find.result c.if-is_some.ensures c.find.ensures.finds)) c.args.«data» c.new-in-Err-push_last.result c.new-in-Err-push_last.ensures.cause (c.new-in-Err-push_last.ensures.held ∙ c.in-Err-push_last.ensures.2) _ (view_vacant c.self.inside.rows c.self.inside.used_weight c.self.inside.cap c.self.invariant c.args.self.now c.self.view_is c.push_last.new.self (ap (λ x. x.rows) c.in-Err-push_last.ensures.3))

pub invariant_of-self-2 : goal.invariant_of-self-2
invariant_of-self-2 g c = kept_last c.self.inside.rows c.self.inside.used_weight c.self.inside.cap c.self.invariant c.args.self.now c.self.view_is c.args.key (no_row_in c.self.inside.rows c.self.inside.used_weight c.self.inside.cap c.self.invariant c.args.self.now c.self.view_is c.args.key (none_found c.self.inside.rows.rows c.args.key c.find.result c.if-is_some.ensures c.find.ensures.finds)) c.args.«data» c.args.weight c.in_default.ensures.allowed c.in_default-push_last.field-0 c.push_last.new.self (ap (λ x. x.rows) c.in_default-push_last.ensures.2)

pub returns : goal.returns
returns g c = (ap not (c.if-is_some.ensures ∙ found_some c.self.inside.rows c.self.inside.used_weight c.self.inside.cap c.self.invariant c.args.self.now c.self.view_is c.args.key c.find.result c.find.ensures.finds), accepts_last c.self.inside.rows c.self.inside.used_weight c.self.inside.cap c.self.invariant c.args.self.now c.self.view_is c.args.key (no_row_in c.self.inside.rows c.self.inside.used_weight c.self.inside.cap c.self.invariant c.args.self.now c.self.view_is c.args.key (none_found c.self.inside.rows.rows c.args.key c.find.result c.if-is_some.ensures c.find.ensures.finds)) c.args.«data» c.args.weight c.in_default.ensures.allowed c.in_default-push_last.field-0 c.push_last.new.self (ap (λ x. x.rows) c.in_default-push_last.ensures.2))

pub returns-then-is_some : goal.returns-then-is_some
returns-then-is_some g c = (ap not (c.if-is_some.ensures ∙ found_some c.self.inside.rows c.self.inside.used_weight c.self.inside.cap c.self.invariant c.args.self.now c.self.view_is c.args.key c.find.result c.find.ensures.finds), tailed_found c.self.inside.rows c.self.inside.used_weight c.self.inside.cap c.self.invariant c.args.self.now c.self.view_is c.find.ensures.valid c.args.key c.find.result c.if-is_some.ensures c.find.ensures.finds c.args.«data» c.args.weight)
