use Rattle.std.proofs.Common.{refl}
use Rattle.lru_deadlines.specs.Deadlines.{living}
use Rattle.lru_shared_deadlines.proofs.Shown.{shows}
use Rattle.lru_shared_deadlines.proofs.one.peek.Goals as goal

pub returns : goal.returns
returns g c =
    shows {R = g.row.R.Denot} (goal.F-post g c.args.show) _ _ c.show.result (living g.Q.Query.stands_for c.args.time c.args.shard.now.cache.entries c.args.query) c.in_ok-aged.ensures refl c.show.ensures
