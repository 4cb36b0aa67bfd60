use Rattle.lru_cache_checkpoints.proofs.Restoring.{may_copy}
use Rattle.lru_cache_checkpoints.proofs.shared_captures.capture_shard.Goals as goal

pub returns : goal.returns
returns g c = may_copy g.K.Clone.is_clone g.V.Clone.is_clone c.cache.result.now _ c.capture_cache.ensures
