use Rattle.std.proofs.Common.{◌%◌, ◌<◌, Ok, Err, refl, arith}
use Rattle.lru_shard.specs.ShardCalls.{IncrementsTo}
use Rattle.lru_cores.proofs.Units.{fits, kept_by, acts}
use Rattle.lru_shard.proofs.EditsOf.{edits_increment}
use Rattle.lru_cores.proofs.lru_core.LruCore.increment_weight.Goals as goal

pub change-requires-clause-weight_fits : goal.change-requires-clause-weight_fits
change-requires-clause-weight_fits g c =
    let i = c.self.inside in
    let lt : c.args.key % g.row.N < g.row.N = omega (arith, c.self.invariant.some) in
    let edit = edits_increment _ c.index_mut-unit.result.now c.args.key c.args.delta c.args.max_weight c.increment_weight-answer.result c.increment_weight-answer.new.self c.increment_weight-answer.ensures in
    omega (arith, (fits g.row.N i.units.items i.totals.weight i.totals.len c.self.invariant (c.args.key % g.row.N) lt c.index_mut-unit.result.now c.index_mut-unit.ensures.value c.args.key refl c.increment_weight-answer.new.self c.of-after.ensures.valid edit).0, c.of-before.ensures.weight, c.of-after.ensures.weight)

pub change-requires-clause-len_fits : goal.change-requires-clause-len_fits
change-requires-clause-len_fits g c =
    let i = c.self.inside in
    let lt : c.args.key % g.row.N < g.row.N = omega (arith, c.self.invariant.some) in
    let edit = edits_increment _ c.index_mut-unit.result.now c.args.key c.args.delta c.args.max_weight c.increment_weight-answer.result c.increment_weight-answer.new.self c.increment_weight-answer.ensures in
    omega (arith, (fits g.row.N i.units.items i.totals.weight i.totals.len c.self.invariant (c.args.key % g.row.N) lt c.index_mut-unit.result.now c.index_mut-unit.ensures.value c.args.key refl c.increment_weight-answer.new.self c.of-after.ensures.valid edit).1, c.of-before.ensures.len, c.of-after.ensures.len)

pub invariant_of-self : goal.invariant_of-self
invariant_of-self g c =
    let i = c.self.inside in
    let lt : c.args.key % g.row.N < g.row.N = omega (arith, c.self.invariant.some) in
    let edit = edits_increment _ c.index_mut-unit.result.now c.args.key c.args.delta c.args.max_weight c.increment_weight-answer.result c.increment_weight-answer.new.self c.increment_weight-answer.ensures in
    kept_by g.row.N i.units.items i.totals.weight i.totals.len c.self.invariant (c.args.key % g.row.N) lt c.index_mut-unit.result.now c.index_mut-unit.ensures.value c.args.key refl c.increment_weight-answer.new.self c.of-after.ensures.valid edit c.of-before.result.weight c.of-before.result.len c.of-after.result.weight c.of-after.result.len c.change.new.self.weight c.change.new.self.len c.of-before.ensures.weight c.of-before.ensures.len c.of-after.ensures.weight c.of-after.ensures.len c.change.ensures.weight c.change.ensures.len

pub returns : goal.returns
returns g c =
    let i = c.self.inside in
    let lt : c.args.key % g.row.N < g.row.N = omega (arith, c.self.invariant.some) in
    let edit = edits_increment _ c.index_mut-unit.result.now c.args.key c.args.delta c.args.max_weight c.increment_weight-answer.result c.increment_weight-answer.new.self c.increment_weight-answer.ensures in
    rw (← c.self.view_is) (acts g.row.N i.units.items i.totals.weight i.totals.len c.self.invariant (c.args.key % g.row.N) lt c.index_mut-unit.result.now c.index_mut-unit.ensures.value c.args.key refl c.increment_weight-answer.new.self c.of-after.ensures.valid edit (λ a b. IncrementsTo _ a c.args.key c.args.delta c.args.max_weight (Ok c.in-Ok.done.1) b) (c.in-Ok.done.0, (c.in-Ok.done.2, c.in-Ok.ensures)) i.weight_limit i.watermark i.evicted_weight i.evicted_len)

pub returns-in-Err : goal.returns-in-Err
returns-in-Err g c =
    let i = c.self.inside in
    let lt : c.args.key % g.row.N < g.row.N = omega (arith, c.self.invariant.some) in
    let edit = edits_increment _ c.index_mut-unit.result.now c.args.key c.args.delta c.args.max_weight c.increment_weight-answer.result c.increment_weight-answer.new.self c.increment_weight-answer.ensures in
    rw (← c.self.view_is) (acts g.row.N i.units.items i.totals.weight i.totals.len c.self.invariant (c.args.key % g.row.N) lt c.index_mut-unit.result.now c.index_mut-unit.ensures.value c.args.key refl c.increment_weight-answer.new.self c.of-after.ensures.valid edit (λ a b. IncrementsTo _ a c.args.key c.args.delta c.args.max_weight (Err c.in-Err.cause) b) c.in-Err.ensures i.weight_limit i.watermark i.evicted_weight i.evicted_len)
