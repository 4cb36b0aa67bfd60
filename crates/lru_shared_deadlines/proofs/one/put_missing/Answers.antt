use Rattle.std.proofs.Common.{rules, sym, subst, ◌∙◌, inr, Ok, Err, None, Some}
use Rattle.lru_shared_deadlines.specs.Calls.{PutsIn}
use Rattle.lru_shared_deadlines.proofs.Shown.{puts_at}
use Rattle.lru_shared_deadlines.proofs.one.put_missing.Goals as goal

pub returns-in-Ok-Some : goal.returns-in-Ok-Some
returns-in-Ok-Some g c = inr (
  sym c.contains.ensures ∙ c.if-contains.false,
  (
    Some c.in-Ok-Some.past,
    (
      subst (λ o. PutsIn (λ p e q. goal.F-step g p e tt q) c.args.visit g.K.PartialEq.eq c.args.moment c.args.shard.now c.args.key c.args.value c.args.weight (Ok o) c.put-told.new.shard) c.in-Ok-Some.field-0-is
          (puts_at _ _ g.K.PartialEq.eq c.args.moment c.args.shard.now c.args.key c.args.value c.args.weight (Ok c.in-Ok-Some.field-0) c.put-told.new.shard c.in-Ok-Some.ensures (λ p e q. goal.F-step g p e tt q) (λ s. s.0.now) (λ p e q called. let h = called.met in search rules)),
      (_, (_, c.visit.ensures)),
    ),
  ),
)

pub returns-in-Ok-None : goal.returns-in-Ok-None
returns-in-Ok-None g c = inr (
  sym c.contains.ensures ∙ c.if-contains.false,
  (
    None,
    (
      subst (λ o. PutsIn (λ p e q. goal.F-step g p e tt q) c.args.visit g.K.PartialEq.eq c.args.moment c.args.shard.now c.args.key c.args.value c.args.weight (Ok o) c.put-told.new.shard) c.in-Ok-None.field-0-is
          (puts_at _ _ g.K.PartialEq.eq c.args.moment c.args.shard.now c.args.key c.args.value c.args.weight (Ok c.in-Ok-None.field-0) c.put-told.new.shard c.in-Ok-None.ensures (λ p e q. goal.F-step g p e tt q) (λ s. s.0.now) (λ p e q called. let h = called.met in search rules)),
      tt,
    ),
  ),
)

pub returns : goal.returns
returns g c = (
  sym c.contains.ensures ∙ c.if-contains.false,
  puts_at _ _ g.K.PartialEq.eq c.args.moment c.args.shard.now c.args.key c.args.value c.args.weight (Err c.in-Err.refused) c.put-told.new.shard c.in-Err.ensures (λ p e q. goal.F-step g p e tt q) (λ s. s.0.now) (λ p e q called. let h = called.met in search rules),
)
