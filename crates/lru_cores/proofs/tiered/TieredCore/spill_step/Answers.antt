use Rattle.std.proofs.Common.{Ok, ap, ◌∙◌, subst, lit<}
use Rattle.lru_cores.specs.CoreCalls.{CorePulls}
use Rattle.lru_cores.specs.Tiers.{tiers}
use Rattle.lru_cores.proofs.Keeping.{keeps_pushed}
use Rattle.lru_cores.proofs.Spilling.{victim_not_cold, victim_pulled, spilled, not_spilled}
use Rattle.lru_cores.proofs.tiered.TieredCore.spill_step.Goals as goal
use Rattle.lru_cores.proofs.tiered.TieredCore.spill_step.Goals.{in-Ok-Some, in-Err}

pub pull-requires : goal.pull-requires
pull-requires g c =
    let t = tiers c.self.inside.hot c.self.inside.cold in
    (lit< tt, victim_not_cold g.row.N t c.self.invariant c.args.a c.args.b c.in-Some.key c.in-Some.ensures)

pub unreachable-requires : goal.unreachable-requires
unreachable-requires g c =
    let t = tiers c.self.inside.hot c.self.inside.cold in
    victim_pulled g.row.N t c.self.invariant c.args.a c.args.b c.in-Some.key c.in-Some.ensures c.pull.result c.pull.new.self c.pull.new.from c.pull.ensures (c.in-Ok-None.is ∙ ap (λ o. Ok o) c.in-Ok-None.field-0-is)

pub invariant_of-self : goal.invariant_of-self
invariant_of-self g c =
    let t = tiers c.self.inside.hot c.self.inside.cold in
    keeps_pushed g.row.N t c.self.invariant c.in-Some.key c.pull.result c.pull.new.self c.pull.new.from c.pull.ensures

pub returns : goal.returns
returns g c =
    let t = tiers c.self.inside.hot c.self.inside.cold in
    elim c.match-pull.branch [
      | in-Ok-Some w ↦
          let ok = w.in-Ok-Some.is ∙ ap (λ o. Ok o) w.in-Ok-Some.field-0-is in
          rw (w.result-is, ← c.self.view_is) (spilled g.row.N t c.self.invariant c.args.a c.args.b c.in-Some.key c.in-Some.ensures w.in-Ok-Some.field-0-0 c.pull.new.self c.pull.new.from
          (subst (λ z. CorePulls t.cold t.hot c.in-Some.key z c.pull.new.self c.pull.new.from) ok c.pull.ensures))
      | in-Err w ↦
          rw (w.result-is, ← c.self.view_is) (not_spilled g.row.N t c.self.invariant c.args.a c.args.b c.in-Some.key c.in-Some.ensures w.in-Err.cause c.pull.new.self c.pull.new.from
          (subst (λ z. CorePulls t.cold t.hot c.in-Some.key z c.pull.new.self c.pull.new.from) w.in-Err.is c.pull.ensures))
    ]
