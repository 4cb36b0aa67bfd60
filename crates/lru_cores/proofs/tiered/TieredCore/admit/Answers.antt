use Rattle.std.proofs.Common.{sym, subst}
use Rattle.lru_cores.specs.Core.{Core}
use Rattle.lru_cores.specs.Tiers.{tiers, AreTiers}
use Rattle.lru_cores.proofs.Keeping.{keeps_admitted}
use Rattle.lru_cores.proofs.tiered.TieredCore.admit.Goals as goal

pub invariant_of-self-2 : goal.invariant_of-self-2
invariant_of-self-2 g c =
    let t = tiers c.self.inside.hot c.self.inside.cold in
    let kept = keeps_admitted g.row.N t c.self.invariant c.args.key c.args.«data» c.args.weight c.in-Ok.shard c.admit.new.self c.in-Ok.ensures in
    subst (λ (z : Core g.row.T.Denot). AreTiers g.row.N (tiers c.admit.new.self z)) (sym c.remove.ensures.rows) kept
