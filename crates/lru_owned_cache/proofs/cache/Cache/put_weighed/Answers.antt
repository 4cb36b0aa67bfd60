use Rattle.lru_owned_cache.proofs.Reweighed.{weighed}
use Rattle.lru_owned_cache.proofs.cache.Cache.put_weighed.Goals as goal

pub returns : goal.returns
returns g c = (c.weigh-weight.result, (weighed _ _ c.weigh-weight.ensures, c.put.ensures))
