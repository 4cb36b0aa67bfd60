use Rattle.std.proofs.Common.{◌/◌, ap, ◌∙◌, sym, subst}
use Rattle.lru_cores.specs.Representation.Units.{lists_of, AreUnits}
use Rattle.lru_cores.proofs.Units.{core, lists_of_empty}
use Rattle.lru_cores.proofs.CoreEvicts.{empty_kept}
use Rattle.lru_cores.proofs.lru_core.LruCore.with_capacity_and_hasher.Goals as goal

pub invariant_of-result : goal.invariant_of-result
invariant_of-result g c = subst (λ us. AreUnits g.row.N us 0 0) (sym c.in_ok-empty_units.ensures) (empty_kept g.row.N c.requires)

pub returns : goal.returns
returns g c =
    ap (λ lists. core lists c.args.weight_limit c.args.watermark 0 0)
    (ap lists_of c.in_ok-empty_units.ensures ∙ lists_of_empty g.row.N (18446744073709551615 / g.row.N))
