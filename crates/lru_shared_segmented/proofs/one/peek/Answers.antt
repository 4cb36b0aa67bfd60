use Rattle.lru_owned_cache.specs.Cache.{entry_of}
use Rattle.lru_segmented.specs.Segmented.{entries}
use Rattle.lru_shared_cache.proofs.Answered.{shows}
use Rattle.lru_shared_segmented.proofs.one.peek.Goals as goal

pub returns : goal.returns
returns g c =
    shows {R = g.row.R.Denot} (goal.F-post g c.args.show) c.in_ok-value.value c.show.result (entry_of g.Q.Query.stands_for (entries c.args.shard.now.cache) c.args.query) c.in_ok-value.ensures c.show.ensures
