use Rattle.std.proofs.Common.{◌%◌, ◌<◌, [], length, get_or, refl, sym, ap, ◌∙◌, arith}
use Rattle.std.specs.Prelude.{option_map}
use Rattle.lru_shard.specs.Row.{row_of, pair_of, without}
use Rattle.lru_shard.specs.Shard.{Shard}
use Rattle.lru_cores.specs.Representation.Units.{lists_of}
use Rattle.lru_cores.proofs.Units.{fits, kept_by, leaves, home_list}
use Rattle.lru_shard.proofs.EditsOf.{edits_remove}
use Rattle.lru_cores.proofs.lru_core.LruCore.remove.Goals as goal

pub change-requires-clause-weight_fits : goal.change-requires-clause-weight_fits
change-requires-clause-weight_fits g c =
    let i = c.self.inside in
    let lt : c.args.key % g.row.N < g.row.N = omega (arith, c.self.invariant.some) in
    let edit = edits_remove c.index_mut-unit.result.now c.args.key c.remove-answer.new.self c.remove-answer.ensures.rows in
    omega (arith, (fits g.row.N i.units.items i.totals.weight i.totals.len c.self.invariant (c.args.key % g.row.N) lt c.index_mut-unit.result.now c.index_mut-unit.ensures.value c.args.key refl c.remove-answer.new.self c.of-after.ensures.valid edit).0, c.of-before.ensures.weight, c.of-after.ensures.weight)

pub change-requires-clause-len_fits : goal.change-requires-clause-len_fits
change-requires-clause-len_fits g c =
    let i = c.self.inside in
    let lt : c.args.key % g.row.N < g.row.N = omega (arith, c.self.invariant.some) in
    let edit = edits_remove c.index_mut-unit.result.now c.args.key c.remove-answer.new.self c.remove-answer.ensures.rows in
    omega (arith, (fits g.row.N i.units.items i.totals.weight i.totals.len c.self.invariant (c.args.key % g.row.N) lt c.index_mut-unit.result.now c.index_mut-unit.ensures.value c.args.key refl c.remove-answer.new.self c.of-after.ensures.valid edit).1, c.of-before.ensures.len, c.of-after.ensures.len)

pub invariant_of-self : goal.invariant_of-self
invariant_of-self g c =
    let i = c.self.inside in
    let lt : c.args.key % g.row.N < g.row.N = omega (arith, c.self.invariant.some) in
    let edit = edits_remove c.index_mut-unit.result.now c.args.key c.remove-answer.new.self c.remove-answer.ensures.rows in
    kept_by g.row.N i.units.items i.totals.weight i.totals.len c.self.invariant (c.args.key % g.row.N) lt c.index_mut-unit.result.now c.index_mut-unit.ensures.value c.args.key refl c.remove-answer.new.self c.of-after.ensures.valid edit c.of-before.result.weight c.of-before.result.len c.of-after.result.weight c.of-after.result.len c.change.new.self.weight c.change.new.self.len c.of-before.ensures.weight c.of-before.ensures.len c.of-after.ensures.weight c.of-after.ensures.len c.change.ensures.weight c.change.ensures.len

pub returns-clause-answer : goal.returns-clause-answer
returns-clause-answer g c =
    let i = c.self.inside in
    let lt : c.args.key % g.row.N < g.row.N = omega (arith, c.self.invariant.some) in
    let edit = edits_remove c.index_mut-unit.result.now c.args.key c.remove-answer.new.self c.remove-answer.ensures.rows in
    rw (← c.self.view_is) (c.remove-answer.ensures.answer ∙ sym (ap (λ rows. option_map pair_of (row_of rows c.args.key)) (home_list g.row.N i.units.items i.totals.weight i.totals.len c.self.invariant (c.args.key % g.row.N) lt c.index_mut-unit.result.now c.index_mut-unit.ensures.value c.args.key refl)))

pub returns-clause-rows : goal.returns-clause-rows
returns-clause-rows g c =
    let i = c.self.inside in
    let lt : c.args.key % g.row.N < g.row.N = omega (arith, c.self.invariant.some) in
    let edit = edits_remove c.index_mut-unit.result.now c.args.key c.remove-answer.new.self c.remove-answer.ensures.rows in
    rw (← c.self.view_is) (leaves g.row.N i.units.items i.totals.weight i.totals.len c.self.invariant (c.args.key % g.row.N) lt c.index_mut-unit.result.now c.index_mut-unit.ensures.value c.args.key refl c.remove-answer.new.self c.of-after.ensures.valid edit (without (get_or (lists_of i.units.items) (c.args.key % length (lists_of i.units.items)) []) c.args.key)
    (ap (λ (s : Shard g.row.T.Denot). s.rows) c.remove-answer.ensures.rows ∙ ap (λ rows. without rows c.args.key) (sym (home_list g.row.N i.units.items i.totals.weight i.totals.len c.self.invariant (c.args.key % g.row.N) lt c.index_mut-unit.result.now c.index_mut-unit.ensures.value c.args.key refl))) i.weight_limit i.watermark i.evicted_weight i.evicted_len)
