use Rattle.std.proofs.Common.{sym, ap, ◌∙◌}
use Rattle.std.specs.Prelude.{option_map}
use Rattle.lru_shard.specs.Row.{Row, last_row}
use Rattle.lru_cores.specs.Core.{list_at}
use Rattle.lru_cores.proofs.Units.{list_is}
use Rattle.lru_cores.proofs.CoreEvicts.{names}
use Rattle.lru_cores.proofs.lru_core.LruCore.victim_key.Goals as goal

pub returns : goal.returns
returns g c =
    let i = c.self.inside in
    let victim = c.in_ok-victim.victim in
    let at = list_is g.row.N i.units.items i.totals.weight i.totals.len c.self.invariant victim c.in_ok-victim.ensures.at c.index.result.now c.index.ensures in
    names c.args.self.now c.args.a c.args.b victim c.in-Some.key (sym c.in_ok-victim.ensures.over) c.in_ok-victim.ensures.victim
    (c.in-Some.ensures ∙ ap (λ rows. option_map (λ (r : Row g.row.T.Denot). r.key) (last_row rows)) (sym at ∙ ap (λ s. list_at s victim) c.self.view_is))
