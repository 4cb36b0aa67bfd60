use Rattle.std.proofs.Common.{sym, ◌∙◌, subst}
use Rattle.lru_cores.specs.Core.{Core}
use Rattle.lru_cores.specs.CoreCalls.{CorePulls}
use Rattle.lru_cores.specs.Tiers.{tiers}
use Rattle.lru_cores.proofs.Keeping.{keeps_promoted, keeps_pulled, unpromoted}
use Rattle.lru_cores.proofs.tiered.TieredCore.touch.Goals as goal

pub invariant_of-self : goal.invariant_of-self
invariant_of-self g c =
    let t = tiers c.self.inside.hot c.self.inside.cold in
    keeps_promoted g.row.N t c.self.invariant c.args.key c.promote.new.self c.promote.ensures.rows

pub invariant_of-self-2 : goal.invariant_of-self-2
invariant_of-self-2 g c =
    let t = tiers c.self.inside.hot c.self.inside.cold in
    let same = unpromoted t.hot c.args.key c.promote.new.self c.promote.ensures.rows (sym c.promote.ensures.answer ∙ c.if-promote.false) in
    keeps_pulled g.row.N t c.self.invariant c.args.key c.pull.result c.pull.new.self c.pull.new.from
    (subst (λ (z : Core g.row.T.Denot). CorePulls z t.cold c.args.key c.pull.result c.pull.new.self c.pull.new.from) same c.pull.ensures)
