use Rattle.std.proofs.Common.{sym, ap, ◌∙◌, subst}
use Rattle.lru_cores.specs.Core.{Core}
use Rattle.lru_cores.specs.Tiers.{tiers, core_without, AreTiers}
use Rattle.lru_cores.proofs.Keeping.{keeps_removed, only_hot, of_pair}
use Rattle.lru_cores.proofs.tiered.TieredCore.remove.Goals as goal

pub invariant_of-self : goal.invariant_of-self
invariant_of-self g c =
    let t = tiers c.self.inside.hot c.self.inside.cold in
    let r = of_pair _ _ c.in-Some.ensures.answer in
    let stays = only_hot g.row.N t c.self.invariant c.args.key r.0 r.1 in
    subst (λ (z : Core g.row.T.Denot). AreTiers g.row.N (tiers c.remove.new.self z)) stays
    (subst (λ (z : Core g.row.T.Denot). AreTiers g.row.N (tiers z (core_without t.cold c.args.key))) (sym c.in-Some.ensures.rows) (keeps_removed g.row.N t c.self.invariant c.args.key))

pub returns-in-Some-clause-left : goal.returns-in-Some-clause-left
returns-in-Some-clause-left g c =
    let t = tiers c.self.inside.hot c.self.inside.cold in
    let r = of_pair _ _ c.in-Some.ensures.answer in
    let stays = only_hot g.row.N t c.self.invariant c.args.key r.0 r.1 in
    rw (← c.self.view_is) (ap (λ (z : Core g.row.T.Denot). tiers z t.cold) c.in-Some.ensures.rows ∙ ap (tiers (core_without t.hot c.args.key)) (sym stays))

pub invariant_of-self-in_err-data : goal.invariant_of-self-in_err-data
invariant_of-self-in_err-data g c =
    let t = tiers c.self.inside.hot c.self.inside.cold in
    subst (λ (z : Core g.row.T.Denot). AreTiers g.row.N (tiers c.remove.new.self z)) (sym c.remove-2.ensures.rows)
    (subst (λ (z : Core g.row.T.Denot). AreTiers g.row.N (tiers z (core_without t.cold c.args.key))) (sym c.remove.ensures.rows) (keeps_removed g.row.N t c.self.invariant c.args.key))

pub invariant_of-self-2 : goal.invariant_of-self-2
invariant_of-self-2 g c =
    let t = tiers c.self.inside.hot c.self.inside.cold in
    subst (λ (z : Core g.row.T.Denot). AreTiers g.row.N (tiers c.remove.new.self z)) (sym c.remove-2.ensures.rows)
    (subst (λ (z : Core g.row.T.Denot). AreTiers g.row.N (tiers z (core_without t.cold c.args.key))) (sym c.remove.ensures.rows) (keeps_removed g.row.N t c.self.invariant c.args.key))
