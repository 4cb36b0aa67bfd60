use Rattle.std.proofs.Common.{◌%◌, ◌<◌, refl, sym, ap, ◌∙◌, arith}
use Rattle.lru_shard.specs.Row.{is_held}
use Rattle.lru_cores.proofs.Units.{home_list}
use Rattle.lru_cores.proofs.lru_core.LruCore.peek.Goals as goal

pub returns : goal.returns
returns g c =
    let i = c.self.inside in
    let lt : c.args.key % g.row.N < g.row.N = omega (arith, c.self.invariant.some) in
    rw (← c.self.view_is) (c.contains.ensures ∙ sym (ap (λ rows. is_held rows c.args.key) (home_list g.row.N i.units.items i.totals.weight i.totals.len c.self.invariant (c.args.key % g.row.N) lt c.index.result.now c.index.ensures c.args.key refl)))
