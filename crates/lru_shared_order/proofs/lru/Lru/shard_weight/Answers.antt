use Rattle.lru_shared_order.proofs.lru.Lru.shard_weight.Goals as goal

pub returns : goal.returns
returns g c = c.totals.ensures.light
