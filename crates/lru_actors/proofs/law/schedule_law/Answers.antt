use Rattle.lru_actors.proofs.LawKeeps.{shard_law, whole_law}
use Rattle.lru_actors.proofs.law.schedule_law.Goals as goal

pub returns-clause-shards : goal.returns-clause-shards
returns-clause-shards g c n cap events w = shard_law g.K.Clone.is_clone cap n events w

pub returns-clause-whole : goal.returns-clause-whole
returns-clause-whole g c n cap events w = whole_law g.K.Clone.is_clone cap n events w
