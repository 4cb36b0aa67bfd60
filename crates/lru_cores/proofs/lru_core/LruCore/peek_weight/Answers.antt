use Rattle.std.proofs.Common.{◌%◌, ◌<◌, refl, sym, ap, ◌∙◌, arith}
use Rattle.std.specs.Prelude.{option_map}
use Rattle.lru_shard.specs.Row.{row_of}
use Rattle.lru_cores.proofs.Units.{home_list}
use Rattle.lru_cores.proofs.lru_core.LruCore.peek_weight.Goals as goal

pub returns : goal.returns
returns g c =
    let i = c.self.inside in
    let lt : c.args.key % g.row.N < g.row.N = omega (arith, c.self.invariant.some) in
    rw (← c.self.view_is) (c.peek_weight.ensures ∙ sym (ap (λ rows. option_map (λ r. r.weight) (row_of rows c.args.key)) (home_list g.row.N i.units.items i.totals.weight i.totals.len c.self.invariant (c.args.key % g.row.N) lt c.index.result.now c.index.ensures c.args.key refl)))
