use Rattle.std.proofs.Common.{arith}
use Rattle.lru_cores.proofs.Units.{kept_as}
use Rattle.lru_cores.proofs.CoreEvicts.{unchanged}
use Rattle.lru_cores.proofs.lru_core.LruCore.reserve_shard.Goals as goal

pub invariant_of-self : goal.invariant_of-self
invariant_of-self g c =
    let i = c.self.inside in
    kept_as g.row.N i.units.items i.totals.weight i.totals.len c.self.invariant c.args.shard (omega arith) c.index_mut-unit.result.now c.index_mut-unit.ensures.value c.reserve.new.self c.reserve.ensures

pub returns-clause-same : goal.returns-clause-same
returns-clause-same g c =
    let i = c.self.inside in
    rw (← c.self.view_is) (unchanged g.row.N i.units.items i.totals.weight i.totals.len c.self.invariant c.args.shard (omega arith) c.index_mut-unit.result.now c.index_mut-unit.ensures.value i.weight_limit i.watermark i.evicted_weight i.evicted_len c.reserve.new.self c.reserve.ensures)
