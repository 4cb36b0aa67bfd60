use Rattle.lru_cores.proofs.Units.{is_core}
use Rattle.lru_cores.proofs.lru_core.LruCore.shards.Goals as goal

pub returns-clause-valid : goal.returns-clause-valid
returns-clause-valid g c =
    let i = c.self.inside in
    rw (← c.self.view_is) (is_core g.row.N i.units.items i.totals.weight i.totals.len c.self.invariant i.weight_limit i.watermark i.evicted_weight i.evicted_len)
