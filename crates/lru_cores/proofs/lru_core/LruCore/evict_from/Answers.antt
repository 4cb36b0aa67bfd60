use Rattle.std.proofs.Common.{ℕ, arith}
use Rattle.lru_cores.proofs.Units.{unit_le}
use Rattle.lru_cores.proofs.CoreEvicts.{stays_empty, loses, evicts_last, kept_less, kept_empty}
use Rattle.lru_cores.proofs.lru_core.LruCore.evict_from.Goals as goal

pub invariant_of-self : goal.invariant_of-self
invariant_of-self g c =
    let i = c.self.inside in
    kept_empty g.row.N i.units.items i.totals.weight i.totals.len c.self.invariant c.args.shard c.requires c.index_mut-unit.result.now c.index_mut-unit.ensures.value i.weight_limit i.watermark i.evicted_weight i.evicted_len c.evict.new.self c.evict.ensures.rows c.in_default.ensures.answer

pub returns-in_default : goal.returns-in_default
returns-in_default g c =
    let i = c.self.inside in
    rw (← c.self.view_is) (stays_empty g.row.N i.units.items i.totals.weight i.totals.len c.self.invariant c.args.shard c.requires c.index_mut-unit.result.now c.index_mut-unit.ensures.value i.weight_limit i.watermark i.evicted_weight i.evicted_len c.evict.new.self c.evict.ensures.rows c.in_default.ensures.answer)

pub overflow_sub-self : goal.overflow_sub-self
overflow_sub-self g c =
    let i = c.self.inside in
    let p : g.row.T.Denot × ℕ = (c.in-Some.«data», c.in-Some.weight) in
    omega (arith, (loses g.row.N i.units.items i.totals.weight i.totals.len c.self.invariant c.args.shard c.requires c.index_mut-unit.result.now c.index_mut-unit.ensures.value i.weight_limit i.watermark i.evicted_weight i.evicted_len c.evict.new.self c.evict.ensures.rows p c.in-Some.ensures.answer).0, (unit_le g.row.N i.units.items i.totals.weight i.totals.len c.self.invariant c.args.shard c.requires c.index_mut-unit.result.now c.index_mut-unit.ensures.value).0)

pub overflow_sub-self-2 : goal.overflow_sub-self-2
overflow_sub-self-2 g c =
    let i = c.self.inside in
    let p : g.row.T.Denot × ℕ = (c.in-Some.«data», c.in-Some.weight) in
    omega (arith, (loses g.row.N i.units.items i.totals.weight i.totals.len c.self.invariant c.args.shard c.requires c.index_mut-unit.result.now c.index_mut-unit.ensures.value i.weight_limit i.watermark i.evicted_weight i.evicted_len c.evict.new.self c.evict.ensures.rows p c.in-Some.ensures.answer).1, (unit_le g.row.N i.units.items i.totals.weight i.totals.len c.self.invariant c.args.shard c.requires c.index_mut-unit.result.now c.index_mut-unit.ensures.value).1)

pub invariant_of-self-2 : goal.invariant_of-self-2
invariant_of-self-2 g c =
    let i = c.self.inside in
    kept_less g.row.N i.units.items i.totals.weight i.totals.len c.self.invariant c.args.shard c.requires c.index_mut-unit.result.now c.index_mut-unit.ensures.value i.weight_limit i.watermark i.evicted_weight i.evicted_len c.evict.new.self c.evict.ensures.rows (c.in-Some.«data», c.in-Some.weight) c.in-Some.ensures.answer

pub returns : goal.returns
returns g c =
    let i = c.self.inside in
    rw (← c.self.view_is) (evicts_last g.row.N i.units.items i.totals.weight i.totals.len c.self.invariant c.args.shard c.requires c.index_mut-unit.result.now c.index_mut-unit.ensures.value i.weight_limit i.watermark i.evicted_weight i.evicted_len c.evict.new.self c.evict.ensures.rows (c.in-Some.«data», c.in-Some.weight) c.in-Some.ensures.answer)
