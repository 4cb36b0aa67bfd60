use Rattle.std.proofs.Common.{◌%◌, ◌<◌, [], length, get_or, refl, sym, ap, ◌∙◌, arith}
use Rattle.lru_shard.specs.Row.{is_held}
use Rattle.lru_shard.specs.Shard.{Shard}
use Rattle.lru_shard.specs.Unit.{accessed}
use Rattle.lru_cores.specs.Representation.Units.{lists_of}
use Rattle.lru_cores.proofs.Units.{leaves, home_list, x_valid, same_units}
use Rattle.lru_shard.proofs.EditsOf.{edits_access}
use Rattle.lru_cores.proofs.lru_core.LruCore.promote.Goals as goal

pub invariant_of-self : goal.invariant_of-self
invariant_of-self g c =
    let i = c.self.inside in
    let lt : c.args.key % g.row.N < g.row.N = omega (arith, c.self.invariant.some) in
    let acc = edits_access c.index_mut.result.now c.args.key c.access.new.self (x_valid g.row.N i.units.items i.totals.weight i.totals.len c.self.invariant (c.args.key % g.row.N) lt c.index_mut.result.now c.index_mut.ensures.value) c.access.ensures.rows in
    same_units g.row.N i.units.items i.totals.weight i.totals.len c.self.invariant (c.args.key % g.row.N) lt c.index_mut.result.now c.index_mut.ensures.value c.args.key refl c.access.new.self acc.valid acc.edit acc.same_weight acc.same_length

pub returns-clause-answer : goal.returns-clause-answer
returns-clause-answer g c =
    let i = c.self.inside in
    let lt : c.args.key % g.row.N < g.row.N = omega (arith, c.self.invariant.some) in
    rw (← c.self.view_is) (c.access.ensures.answer ∙ sym (ap (λ rows. is_held rows c.args.key) (home_list g.row.N i.units.items i.totals.weight i.totals.len c.self.invariant (c.args.key % g.row.N) lt c.index_mut.result.now c.index_mut.ensures.value c.args.key refl)))

pub returns-clause-rows : goal.returns-clause-rows
returns-clause-rows g c =
    let i = c.self.inside in
    let lt : c.args.key % g.row.N < g.row.N = omega (arith, c.self.invariant.some) in
    let acc = edits_access c.index_mut.result.now c.args.key c.access.new.self (x_valid g.row.N i.units.items i.totals.weight i.totals.len c.self.invariant (c.args.key % g.row.N) lt c.index_mut.result.now c.index_mut.ensures.value) c.access.ensures.rows in
    rw (← c.self.view_is) (leaves g.row.N i.units.items i.totals.weight i.totals.len c.self.invariant (c.args.key % g.row.N) lt c.index_mut.result.now c.index_mut.ensures.value c.args.key refl c.access.new.self acc.valid acc.edit (accessed (get_or (lists_of i.units.items) (c.args.key % length (lists_of i.units.items)) []) c.args.key)
    (ap (λ (s : Shard g.row.T.Denot). s.rows) c.access.ensures.rows ∙ ap (λ rows. accessed rows c.args.key) (sym (home_list g.row.N i.units.items i.totals.weight i.totals.len c.self.invariant (c.args.key % g.row.N) lt c.index_mut.result.now c.index_mut.ensures.value c.args.key refl))) i.weight_limit i.watermark i.evicted_weight i.evicted_len)
