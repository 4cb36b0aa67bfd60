use Rattle.std.proofs.Common.{◌%◌, ◌<◌, Ok, Err, refl, arith}
use Rattle.lru_shard.specs.ShardCalls.{UpdatesFrom}
use Rattle.lru_shard.proofs.Told.{untold_from}
use Rattle.lru_cores.proofs.Units.{fits, kept_by, acts}
use Rattle.lru_shard.proofs.EditsOf.{edits_update}
use Rattle.lru_cores.proofs.lru_core.LruCore.update_or_admit.Goals as goal

pub change-requires-clause-weight_fits : goal.change-requires-clause-weight_fits
change-requires-clause-weight_fits g c =
    let i = c.self.inside in
    let lt : c.args.key % g.row.N < g.row.N = omega (arith, c.self.invariant.some) in
    let edit = edits_update _ _ c.index_mut-unit.result.now c.args.key c.update_or_admit-answer.result c.update_or_admit-answer.new.self c.update_or_admit-answer.ensures in
    omega (arith, (fits g.row.N i.units.items i.totals.weight i.totals.len c.self.invariant (c.args.key % g.row.N) lt c.index_mut-unit.result.now c.index_mut-unit.ensures.value c.args.key refl c.update_or_admit-answer.new.self c.of-after.ensures.valid edit).0, c.of-before.ensures.weight, c.of-after.ensures.weight)

pub change-requires-clause-len_fits : goal.change-requires-clause-len_fits
change-requires-clause-len_fits g c =
    let i = c.self.inside in
    let lt : c.args.key % g.row.N < g.row.N = omega (arith, c.self.invariant.some) in
    let edit = edits_update _ _ c.index_mut-unit.result.now c.args.key c.update_or_admit-answer.result c.update_or_admit-answer.new.self c.update_or_admit-answer.ensures in
    omega (arith, (fits g.row.N i.units.items i.totals.weight i.totals.len c.self.invariant (c.args.key % g.row.N) lt c.index_mut-unit.result.now c.index_mut-unit.ensures.value c.args.key refl c.update_or_admit-answer.new.self c.of-after.ensures.valid edit).1, c.of-before.ensures.len, c.of-after.ensures.len)

pub invariant_of-self : goal.invariant_of-self
invariant_of-self g c =
    let i = c.self.inside in
    let lt : c.args.key % g.row.N < g.row.N = omega (arith, c.self.invariant.some) in
    let edit = edits_update _ _ c.index_mut-unit.result.now c.args.key c.update_or_admit-answer.result c.update_or_admit-answer.new.self c.update_or_admit-answer.ensures in
    kept_by g.row.N i.units.items i.totals.weight i.totals.len c.self.invariant (c.args.key % g.row.N) lt c.index_mut-unit.result.now c.index_mut-unit.ensures.value c.args.key refl c.update_or_admit-answer.new.self c.of-after.ensures.valid edit c.of-before.result.weight c.of-before.result.len c.of-after.result.weight c.of-after.result.len c.change.new.self.weight c.change.new.self.len c.of-before.ensures.weight c.of-before.ensures.len c.of-after.ensures.weight c.of-after.ensures.len c.change.ensures.weight c.change.ensures.len

pub returns : goal.returns
returns g c =
    let i = c.self.inside in
    let lt : c.args.key % g.row.N < g.row.N = omega (arith, c.self.invariant.some) in
    let edit = edits_update _ _ c.index_mut-unit.result.now c.args.key c.update_or_admit-answer.result c.update_or_admit-answer.new.self c.update_or_admit-answer.ensures in
    rw (← c.self.view_is) (acts g.row.N i.units.items i.totals.weight i.totals.len c.self.invariant (c.args.key % g.row.N) lt c.index_mut-unit.result.now c.index_mut-unit.ensures.value c.args.key refl c.update_or_admit-answer.new.self c.of-after.ensures.valid edit (λ a b. UpdatesFrom _ _ a c.args.key (Ok c.in-Ok.done.0) b) (c.in-Ok.done.1, c.in-Ok.ensures) i.weight_limit i.watermark i.evicted_weight i.evicted_len)

pub returns-in-Err : goal.returns-in-Err
returns-in-Err g c =
    let i = c.self.inside in
    let lt : c.args.key % g.row.N < g.row.N = omega (arith, c.self.invariant.some) in
    let edit = edits_update _ _ c.index_mut-unit.result.now c.args.key c.update_or_admit-answer.result c.update_or_admit-answer.new.self c.update_or_admit-answer.ensures in
    rw (← c.self.view_is) (acts g.row.N i.units.items i.totals.weight i.totals.len c.self.invariant (c.args.key % g.row.N) lt c.index_mut-unit.result.now c.index_mut-unit.ensures.value c.args.key refl c.update_or_admit-answer.new.self c.of-after.ensures.valid edit (λ a b. UpdatesFrom _ _ a c.args.key (Err c.untold.result) b) (untold_from _ _ c.index_mut-unit.result.now c.args.key c.in-Err.refused c.untold.result c.untold.ensures.cause c.untold.ensures.held c.update_or_admit-answer.new.self c.in-Err.ensures) i.weight_limit i.watermark i.evicted_weight i.evicted_len)
