use Rattle.lru_shared_order.proofs.lru.Lru.admit.Goals as goal

pub returns-clause-shard : goal.returns-clause-shard
returns-clause-shard g c = c.shard_of-shard.ensures.value
